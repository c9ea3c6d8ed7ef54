use Rattle.std.proofs.Common.{◌≡◌}
use Rattle.cdcl.specs.Work.{put, for_each, marks}
use Rattle.cdcl.proofs.analyze_conflict.clear_marks.Given as goal

abbrev pub invariant-loop-var : goal.invariant-loop-var
invariant-loop-var l = l.work ≡ for_each (λ x v. put marks x v 0) l.var l.initial.work
