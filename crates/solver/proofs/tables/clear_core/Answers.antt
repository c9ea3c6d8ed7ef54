use Rattle.std.proofs.Common.{◌≡◌, length, ap, rules, arith}
use Rattle.solver.specs.State.{view, zeros}
use Rattle.solver.specs.declared.tables.Table.TheVariants.{Core}
use Rattle.solver.proofs.MemoryMap.{table_long}
use Rattle.solver.proofs.tables.clear_core.Goals as goal

pub returns : goal.returns
unfolding zeros
returns c =
    let long : length (view c.args.m.now).core ≡ 1024 = table_long c.args.m.now Core (omega arith) in
    let z : zeros (length (view c.args.m.now).core) ≡ zeros 1024 = ap zeros long in
    search rules
