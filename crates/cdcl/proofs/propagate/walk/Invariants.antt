use Rattle.std.proofs.Common.{◌≡◌, ◌-◌}
use Rattle.cdcl.specs.Watch.{walk}
use Rattle.cdcl.proofs.propagate.walk.Given as goal

-- what is left of the walk gives the whole
abbrev pub invariant-loop : goal.invariant-loop
invariant-loop l = walk (40960 - l.counter) l.work l.link ≡ walk 40960 l.initial.work l.lit
