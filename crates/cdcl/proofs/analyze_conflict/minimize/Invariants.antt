use Rattle.std.proofs.Common.{◌≡◌, ◌≤◌}
use Rattle.cdcl.specs.Work.{outcome}
use Rattle.cdcl.specs.Analysis.{needed}
use Rattle.cdcl.proofs.analyze_conflict.minimize.Given as goal

abbrev pub invariant-loop-i : goal.invariant-loop-i
invariant-loop-i l = (outcome l.work l.len ≡ needed l.level l.i l.initial.work) × (l.len ≤ l.i)
