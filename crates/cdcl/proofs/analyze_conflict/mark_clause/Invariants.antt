use Rattle.std.proofs.Common.{◌≡◌}
use Rattle.std.specs.List.{fold}
use Rattle.cdcl.specs.Analysis.{mark_at}
use Rattle.cdcl.proofs.analyze_conflict.mark_clause.Given as goal

abbrev pub invariant-loop-place : goal.invariant-loop-place
invariant-loop-place l = l.work ≡ fold (mark_at l.level) l.initial.work l.yielded
