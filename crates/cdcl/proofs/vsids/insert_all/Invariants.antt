use Rattle.std.proofs.Common.{◌≡◌}
use Rattle.cdcl.specs.Work.{for_each}
use Rattle.cdcl.specs.Vsids.{heap_insert}
use Rattle.cdcl.proofs.vsids.insert_all.Given as goal

abbrev pub invariant-loop-var : goal.invariant-loop-var
invariant-loop-var l = l.work ≡ for_each heap_insert l.var l.initial.work
