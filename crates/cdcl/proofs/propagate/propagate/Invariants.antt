use Rattle.std.proofs.Common.{◌≡◌, ◌-◌}
use Rattle.cdcl.specs.Watch.{propagated}
use Rattle.cdcl.proofs.propagate.propagate.Given as goal

-- what is left of the trail gives the whole
abbrev pub invariant-loop : goal.invariant-loop
invariant-loop l = propagated (16384 - l.counter) l.work ≡ propagated 16384 l.initial.work
