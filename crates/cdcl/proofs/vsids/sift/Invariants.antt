use Rattle.std.proofs.Common.{◌≡◌, ◌-◌}
use Rattle.cdcl.specs.Vsids.{sift}
use Rattle.cdcl.proofs.vsids.sift.Given as goal

-- what is left of the way gives the whole
abbrev pub invariant-loop : goal.invariant-loop
invariant-loop g l = sift g.W.Way.next (14 - l.counter) l.work l.hole l.var ≡ sift g.W.Way.next 14 l.initial.work l.fn.place l.var
