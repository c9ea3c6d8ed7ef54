use Rattle.std.proofs.Common.{◌≤◌}
use Rattle.checker.specs.Standing.{standing}
use Rattle.checker.specs.Forced.{Grows}
use Rattle.checker.proofs.propagate.Propagator.visit_watching.Given as goal

abbrev pub invariant-loop-i : goal.invariant-loop-i
invariant-loop-i l = Grows (standing l.clauses.rows.items) l.initial.self.trail l.self.trail × (l.place ≤ l._i)
