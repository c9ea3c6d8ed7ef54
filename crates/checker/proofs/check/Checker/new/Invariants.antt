use Rattle.std.proofs.Common.{◌≡◌, take}
use Rattle.checker.specs.Input.{formula_of}
use Rattle.checker.specs.Standing.{standing}
use Rattle.checker.proofs.check.Checker.new.Given as goal

abbrev pub invariant-loop-step : goal.invariant-loop-step
invariant-loop-step l = (standing l.checker.clauses.rows.items ≡ take l.step-index (formula_of l.input)) × (l.checker.propagator.trail.round ≡ 0)
