-- The next decision: the heaviest variable without a value, with the value that it had last. What comes out of the heap is looked at, and if it has
-- nothing left the variables are gone through in order. Definitions only, total on any table.
use Rattle.std.specs.Prelude.{ℕ, zero, suc, ◌+◌, ◌*◌, Bool, not, ◌&&◌, List, Some, None, Option, ◌==◌, nat_lt, find}
use Rattle.std.specs.List.{range_with_len}
use Rattle.formula.specs.Logic.{pick, or}
use Rattle.cdcl.specs.Work.{cell, Outcome, outcome, values, phases}
use Rattle.cdcl.specs.Vsids.{heap_len, heap_at, heap_pop}
use Rattle.cdcl.specs.Assignment.{enqueue, deeper}

abbrev pub has_value : List ℕ → ℕ → Bool
has_value w v = or (cell values w v == 2) (cell values w v == 3)

-- one of n variables, without a value
abbrev pub is_free : ℕ → List ℕ → ℕ → Bool
is_free n w v = nat_lt v n && not (has_value w v)

-- THE HEAVIEST, out of the heap
unfoldable pub heaviest : ℕ → ℕ → List ℕ → Outcome (Option ℕ)
heaviest zero n w = outcome w None
heaviest (suc f) n w =
    pick (heap_len w == 0) (outcome w None)
    (pick (is_free n w (heap_at w 0)) (outcome (heap_pop w) (Some (heap_at w 0))) (heaviest f n (heap_pop w)))

-- THE FIRST of n variables
abbrev pub first_free : ℕ → List ℕ → Option ℕ
first_free n w = find (λ v. not (has_value w v)) (range_with_len 0 n)

-- A DECISION, on a level of its own
abbrev pub phase_lit : List ℕ → ℕ → ℕ
phase_lit w v = pick (cell phases w v == 1) (2 * v) (2 * v + 1)

abbrev pub decided : List ℕ → ℕ → List ℕ
decided w l = enqueue (deeper w) l None
