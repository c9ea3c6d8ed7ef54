use Rattle.std.proofs.Common.{◌≡◌, ◌-◌}
use Rattle.cdcl.specs.Deciding.{heaviest}
use Rattle.cdcl.proofs.decide.heaviest.Given as goal

-- what is left of the heap answers for the whole
abbrev pub invariant-loop : goal.invariant-loop
invariant-loop l = heaviest (16384 - l.counter) l.num_vars l.work ≡ heaviest 16384 l.num_vars l.initial.work
