use Rattle.std.proofs.Common.{◌≡◌, length, sym, subst, ◌∙◌, arith}
use Rattle.solver.specs.Coded.{Takes}
use Rattle.solver.specs.Machine.{Turn}
use Rattle.solver.specs.State.{view}
use Rattle.solver.specs.declared.tables.Table.TheVariants.{Scalars}
use Rattle.solver.proofs.Counting.{file_told}
use Rattle.solver.proofs.MemoryMap.{table_long}
use Rattle.solver.proofs.commands.take_clauses.Goals as goal

pub returns : goal.returns
returns c =
    let long : length (view c.args.m.now).scalars ≡ 256 = table_long c.args.m.now Scalars (omega arith) in
    subst (λ (t : Turn). Takes t c.tell.new.m c.tell.result)
    (file_told (view c.args.m.now) c.args.counts long (view c.grow.new.m) c.read-vars.result c.read-clauses.result
    (sym c.has_room.ensures ∙ c.if-not-has_room.false) c.grow.ensures c.read-vars.ensures c.read-clauses.ensures)
    c.tell.ensures
