use Rattle.std.proofs.Common.{vec_items}
use Rattle.checker.specs.Going.{Going}
use Rattle.checker.proofs.check.check_steps.Given as goal

abbrev pub invariant-loop-step : goal.invariant-loop-step
invariant-loop-step l = Going l.input (vec_items l.checker.clauses.rows) l.checker.propagator.trail l.step-index
