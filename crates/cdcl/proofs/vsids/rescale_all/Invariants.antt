use Rattle.std.proofs.Common.{◌≡◌, ◌/◌}
use Rattle.cdcl.specs.Work.{cell, put, for_each, activity}
use Rattle.cdcl.proofs.vsids.rescale_all.Given as goal

abbrev pub invariant-loop-var : goal.invariant-loop-var
invariant-loop-var l = l.work ≡ for_each (λ x v. put activity x v (cell activity x v / 1073741824)) l.var l.initial.work
