-- What an answer is told by: of an assumption that is false, back to the assumptions by which it is; and the value of a variable as a literal.
-- Definitions only, total on any table.
use Rattle.std.specs.Prelude.{ℕ, ◌+◌, ◌*◌, ◌/◌, Bool, ◌&&◌, List, is_none, ◌==◌}
use Rattle.cdcl.specs.declared.analyze_conflict.Until.TheVariants.{Decisions}
use Rattle.formula.specs.Logic.{pick, or}
use Rattle.cdcl.specs.Assignment.{size_of, is_true}
use Rattle.cdcl.specs.Analysis.{is_marked, started, mark_one, reason_of, walk_back}

-- THE CORE: the walk from the false assumption to decisions, all of which are assumptions
abbrev pub blamed : List ℕ → ℕ → List ℕ
blamed w a = mark_one 1 (started w) a

unfoldable pub failed_by : List ℕ → ℕ → List ℕ
failed_by w a = walk_back (size_of (blamed w a)) 1 Decisions (blamed w a)

-- after it: the assumption itself, and those that it came to
abbrev pub is_in_core : List ℕ → ℕ → ℕ → Bool
is_in_core w a l = or (l == a) (is_true w l && (is_marked w (l / 2) && is_none (reason_of w l)))

-- THE MODEL: the literal of a variable that is true
abbrev pub model_lit : List ℕ → ℕ → ℕ
model_lit w v = pick (is_true w (2 * v)) (2 * v) (2 * v + 1)
