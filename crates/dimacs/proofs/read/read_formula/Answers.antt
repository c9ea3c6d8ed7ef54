use Rattle.std.proofs.Common.{sym, ◌∙◌, arith}
use Rattle.std.proofs.lemmas.Result.{err_from_is_err_and}
use Rattle.dimacs.specs.Scan.{table_after}
use Rattle.dimacs.proofs.Laying.{laid_back}
use Rattle.dimacs.proofs.Standing.{stands_first, stands_step, stands_wrong, stands_end}
use Rattle.dimacs.proofs.read.read_formula.Goals as goal

pub loop-i-init : goal.loop-i-init
loop-i-init c = rw c.new-scan.ensures (stands_first c.args.bytes.now _)

pub returns-in_err-scan : goal.returns-in_err-scan
unfolding table_after
returns-in_err-scan c =
    let p = err_from_is_err_and c.from_residual.result c.from_residual.ensures.1 in
    let r = stands_wrong c.args.bytes.now _ c.loop-i.i c.loop-i.scan c.loop-i.rows c.loop-i.invariant (omega arith) c.in_err-scan.field-0.0 c.read_byte.new.rows
    (sym c.read_byte.ensures.scan ∙ c.in_err-scan.was) c.read_byte.ensures.rows
    in
    record { outcome = rw (p.1, p.2) r.0; table = laid_back c.args.table.now c.args.start _ _ _ c.min-start.ensures r.1 }

pub loop-i-preserved : goal.loop-i-preserved
loop-i-preserved c =
    stands_step c.args.bytes.now _ c.loop-i.i c.loop-i.scan c.loop-i.rows c.loop-i.invariant (omega arith) c.in_ok-scan.scan c.read_byte.new.rows
    (sym c.read_byte.ensures.scan ∙ c.in_ok-scan.was) c.read_byte.ensures.rows

pub returns : goal.returns
unfolding table_after
returns c =
    let r = stands_end c.args.bytes.now _ c.loop-i.i c.loop-i.scan c.loop-i.rows c.finish.new.rows c.finish.result c.loop-i.invariant (omega arith) c.finish.ensures.checked c.finish.ensures.rows in
    record { outcome = r.0; table = laid_back c.args.table.now c.args.start _ _ _ c.min-start.ensures r.1 }
