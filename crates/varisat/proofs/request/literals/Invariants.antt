use Rattle.std.proofs.Common.{◌≤◌, vec_len}
use Rattle.varisat.proofs.request.literals.Given as goal

abbrev pub invariant-loop-word : goal.invariant-loop-word
invariant-loop-word l = vec_len l.row ≤ 1048576
