-- How far the check has come: which clauses the definition has by now, that the code's are among them, each row at
-- most as often, and that if the rest of the steps holds all do.
use Rattle.std.specs.Prelude.{◌≡◌, ℕ, ◌+◌, ◌<◌, ◌≤◌, true, List, length, drop, get_or, vec_items}
use Rattle.formula.specs.Logic.{Clause, holds}
use Rattle.formula.proofs.Deletions.{copies}
use Rattle.checker.specs.declared.input.Input.{Input}
use Rattle.checker.specs.declared.input.ProofStep.{ProofStep}
use Rattle.checker.specs.declared.trail.Trail.{Trail}
use Rattle.checker.specs.Input.{formula_of, steps_of}
use Rattle.checker.specs.Standing.{Rows, standing}

-- no row stands more often than the clauses have it
unfoldable pub Fewer : Rows → List Clause → Type 0
Fewer rows cs = (e : Clause) → copies e (standing rows) ≤ copies e cs

pub record Going (x : Input) (rows : Rows) (t : Trail) (j : ℕ) : Type 0 where
  pub round : t.round ≤ j
  pub clauses : List Clause
  pub fewer : Fewer rows clauses
  pub rest : holds clauses (drop j (steps_of x)) ≡ true → holds (formula_of x) (steps_of x) ≡ true

-- what a step makes of rows and trail, wherever it is the next one
abbrev pub GoesOn : ProofStep → Rows → Trail → Rows → Trail → Type 0
GoesOn s rs t rs₁ t₁ = (x : Input) (j : ℕ) → j < length (vec_items x.steps) → s ≡ get_or (vec_items x.steps) j s → Going x rs t j → Going x rs₁ t₁ (j + 1)
