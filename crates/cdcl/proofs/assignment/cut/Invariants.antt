use Rattle.std.proofs.Common.{◌≡◌, ◌-◌}
use Rattle.cdcl.specs.Assignment.{size_of, cut}
use Rattle.cdcl.proofs.assignment.cut.Given as goal

-- what is left of the cut gives the whole
abbrev pub invariant-loop : goal.invariant-loop
invariant-loop l = cut (size_of l.initial.work - l.counter) l.work l.to ≡ cut (size_of l.initial.work) l.initial.work l.to
