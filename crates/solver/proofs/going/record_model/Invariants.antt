use Rattle.std.proofs.Common.{◌≡◌, ◌-◌}
use Rattle.solver.specs.State.{view}
use Rattle.solver.proofs.Turning.{recorded}
use Rattle.solver.proofs.going.record_model.Given as goal

-- the literals still to come, recorded now, give the whole
abbrev pub invariant-loop-var : goal.invariant-loop-var
invariant-loop-var l = recorded (view l.m) l.var (l.vars - l.var) ≡ recorded (view l.initial.m) 0 l.vars
