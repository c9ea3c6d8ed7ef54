use Rattle.std.proofs.Common.{◌≡◌}
use Rattle.cdcl.specs.Assignment.{size_of}
use Rattle.cdcl.specs.Analysis.{walk_back}
use Rattle.cdcl.proofs.analyze_conflict.walk_back.Given as goal

-- what is left of the way back gives the whole
abbrev pub invariant-loop-place : goal.invariant-loop-place
invariant-loop-place l = walk_back l.place l.level l.until l.work ≡ walk_back (size_of l.initial.work) l.level l.until l.initial.work
