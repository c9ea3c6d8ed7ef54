use Rattle.checker.specs.Standing.{standing}
use Rattle.checker.specs.Forced.{Grows}
use Rattle.checker.proofs.propagate.Propagator.visit_short.Given as goal

abbrev pub invariant-loop-id : goal.invariant-loop-id
invariant-loop-id l = Grows (standing l.clauses.rows.items) l.initial.self.1.0 l.self.1.0
