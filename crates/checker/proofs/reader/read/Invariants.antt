use Rattle.std.proofs.Common.{◌≡◌, [], ◌∷◌, ◌++◌, drop, Some}
use Rattle.checker.specs.Reading.{all_fed, first_state}
use Rattle.checker.specs.Views.{state_of}
use Rattle.checker.proofs.reader.read.Given as goal

-- what is left to read gives the whole
abbrev pub invariant-loop-byte : goal.invariant-loop-byte
invariant-loop-byte l = (l.reader.source ≡ l.source) × (all_fed l.source (Some (state_of l.reader)) (drop l.byte-index l.text ++ 10 ∷ []) ≡ all_fed l.source (Some first_state) (l.text ++ 10 ∷ []))
