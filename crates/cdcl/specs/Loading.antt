-- A clause of the formula taken in, at the first level: repeated literals are dropped, one with a literal beside its other is left out, and literals that
-- aren't false come first, so that the first two can be watched. Definitions only, total on any table.
use Rattle.std.specs.Prelude.{ℕ, ◌-◌, ◌/◌, Bool, true, false, not, ◌&&◌, List, [], ◌∷◌, Some, Option, ◌==◌, nat_le, nat_lt, find}
use Rattle.std.specs.Option.{unwrap_or}
use Rattle.std.specs.List.{list_any, range_with_len}
use Rattle.formula.specs.Logic.{pick, or}
use Rattle.cdcl.specs.Work.{Outcome, outcome}
use Rattle.cdcl.specs.Assignment.{is_true, is_false, enqueue}
use Rattle.cdcl.specs.Analysis.{with_mark, is_marked, learned_len, learned_lit, push, started, swapped}
use Rattle.cdcl.specs.declared.load.Loaded.{Loaded}
use Rattle.cdcl.specs.declared.load.Loaded.TheVariants.{Kept, False, NoRoom}
use Rattle.cdcl.specs.Clauses.{next_clause, has_room}
use Rattle.cdcl.specs.Learning.{kept}

abbrev pub with_lit : List ℕ → ℕ → List ℕ
with_lit w l = push (with_mark w (l / 2)) l

-- whether the literal is among those collected
abbrev pub repeats : List ℕ → ℕ → Bool
repeats w l = list_any (λ i. learned_lit w i == l) (range_with_len 0 (learned_len w))

-- THE LITERALS, one after another: the table, and whether one stood beside its other
unfoldable pub collect : List ℕ → List ℕ → Outcome Bool
collect w [] = outcome w false
collect w (l ∷ ls) = pick (is_marked w (l / 2)) (pick (repeats w l) (collect w ls) (outcome w true)) (collect (with_lit w l) ls)

-- THE FIRST that isn't false, from place i on, comes to that place
abbrev pub open_from : ℕ → List ℕ → Option ℕ
open_from i w = find (λ j. not (is_false w (learned_lit w j))) (range_with_len i (learned_len w - i))

abbrev pub with_open_at : ℕ → List ℕ → List ℕ
with_open_at i w = swapped w i (unwrap_or (open_from i w) i)

-- those that aren't false first
abbrev pub arranged : List ℕ → List ℕ
arranged w = pick (nat_lt 1 (learned_len w)) (with_open_at 1 (with_open_at 0 w)) (with_open_at 0 w)

-- KEPT as the next clause: all its literals may be false, or all but the first, which is then true by it
abbrev pub is_falsified : List ℕ → Bool
is_falsified w = or (learned_len w == 0) (is_false w (learned_lit w 0))

abbrev pub is_forced : List ℕ → Bool
is_forced w = not (is_true w (learned_lit w 0)) && or (nat_le (learned_len w) 1) (is_false w (learned_lit w 1))

abbrev pub with_clause : List ℕ → Outcome Loaded
with_clause w =
    pick (is_falsified w) (outcome (kept w) (False (next_clause w)))
    (pick (is_forced w) (outcome (enqueue (kept w) (learned_lit w 0) (Some (next_clause w))) Kept) (outcome (kept w) Kept))

unfoldable pub taken_in : List ℕ → Outcome Loaded
taken_in w = pick (has_room w) (with_clause w) (outcome w NoRoom)

unfoldable pub load : List ℕ → List ℕ → Outcome Loaded
load w c =
    pick (collect (started w) c).answer (outcome (collect (started w) c).after Kept) (taken_in (arranged (collect (started w) c).after))
