use Rattle.std.proofs.Common.{◌≡◌, ◌+◌}
use Rattle.cdcl.specs.Work.{put, for_each, lits}
use Rattle.cdcl.specs.Analysis.{learned_lit}
use Rattle.cdcl.proofs.clauses.copy_learned.Given as goal

abbrev pub invariant-loop-i : goal.invariant-loop-i
invariant-loop-i l = l.work ≡ for_each (λ v i. put lits v (l.start + i) (learned_lit v i)) l.i l.initial.work
