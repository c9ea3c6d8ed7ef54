-- One turn of the search: propagation to its end; then a clause is learned, or an assumption or a decision made, or there's an answer.
-- Definitions only, total on any table.
use Rattle.std.specs.Prelude.{ℕ, min, List, length, Some, None, Option, Ok, Err, Result, ◌==◌, nat_lt, slice_index}
use Rattle.std.specs.Option.{option_or}
use Rattle.formula.specs.Logic.{pick}
use Rattle.cdcl.specs.declared.propagate.Conflict.{Conflict}
use Rattle.cdcl.specs.declared.turn.Turn.{Turn}
use Rattle.cdcl.specs.declared.turn.Turn.TheVariants.{More, Full, No, Failed}
use Rattle.cdcl.specs.Work.{Outcome, outcome}
use Rattle.cdcl.specs.Assignment.{level_of, is_true, is_false, deeper}
use Rattle.cdcl.specs.Watch.{propagated}
use Rattle.cdcl.specs.Analysis.{clause_level}
use Rattle.cdcl.specs.Learning.{learn_from}
use Rattle.cdcl.specs.Deciding.{heaviest, first_free, phase_lit, decided}

-- A CONFLICT: at the first level there's no way
unfoldable pub on_conflict : List ℕ → ℕ → Outcome Turn
on_conflict w c = pick (clause_level w c == 0) (outcome w No) (outcome (learn_from w c) More)

-- THE NEXT ASSUMPTION: true already, it has a level of its own all the same; false, it has failed
unfoldable pub on_assumption : List ℕ → ℕ → Outcome Turn
on_assumption w a =
    pick (is_true w a) (outcome (deeper w) More) (pick (is_false w a) (outcome w (Failed (level_of w))) (outcome (decided w a) More))

-- A DECISION; with no variable left all have values
abbrev pub on_choice : List ℕ → Option ℕ → Outcome Turn
on_choice w (Some v) = outcome (decided w (phase_lit w v)) More
on_choice w None = outcome w Full

abbrev pub on_heap : ℕ → Outcome (Option ℕ) → Outcome Turn
on_heap n t = on_choice t.after (option_or t.answer (first_free n t.after))

unfoldable pub on_decision : ℕ → List ℕ → Outcome Turn
on_decision n w = on_heap n (heaviest 16384 n w)

-- ALL THREE, for the assumptions and n variables
abbrev pub on_quiet : List ℕ → ℕ → List ℕ → Outcome Turn
on_quiet as₁ n w = pick (nat_lt (level_of w) (length as₁)) (on_assumption w (slice_index as₁ (level_of w))) (on_decision n w)

abbrev pub after_propagation : List ℕ → ℕ → List ℕ → Result (Unit {0}) Conflict → Outcome Turn
after_propagation as₁ n w (Ok t) = on_quiet as₁ n w
after_propagation as₁ n w (Err c) = on_conflict w c.clause

unfoldable pub turn : List ℕ → ℕ → List ℕ → Outcome Turn
turn as₁ n w = after_propagation as₁ (min n 16384) (propagated 16384 w).after (propagated 16384 w).answer
