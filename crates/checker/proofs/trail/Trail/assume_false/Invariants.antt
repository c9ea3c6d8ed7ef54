use Rattle.std.proofs.Common.{◌≡◌, List}
use Rattle.formula.specs.Logic.{Clause}
use Rattle.checker.specs.Forced.{AllForced}
use Rattle.checker.proofs.trail.Trail.assume_false.Given as goal

abbrev pub invariant-loop-lit : goal.invariant-loop-lit
invariant-loop-lit l = (l.self.round ≡ l.initial.self.round) × ((cs : List Clause) → AllForced cs l.clause l.self)
