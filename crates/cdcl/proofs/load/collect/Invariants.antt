use Rattle.std.proofs.Common.{◌≡◌, drop}
use Rattle.cdcl.specs.Loading.{collect}
use Rattle.cdcl.proofs.load.collect.Given as goal

-- the literals that are left, collected now, give the whole
abbrev pub invariant-loop-lit : goal.invariant-loop-lit
invariant-loop-lit l = collect l.work (drop l.lit-index l.clause) ≡ collect l.initial.work l.clause
