use Rattle.std.proofs.Common.{arith}
use Rattle.dimacs.specs.Pieces.{header_text}
use Rattle.dimacs.proofs.Writing.{written_then, puts_all, length_header}
use Rattle.dimacs.proofs.write.put_header.Goals as goal

pub returns : goal.returns
unfolding header_text
returns c =
    let few = length_header c.args.vars c.args.clauses in
    let front = written_then _ _ _ _ _ _ _ _ c.put_text-vars_at.ensures c.put_number-blank_at.ensures.text in
    let rest = written_then _ _ _ _ _ _ _ _ c.put_text-clauses_at.ensures c.put_number-end.ensures.text in
    puts_all _ _ _ _ (written_then _ _ _ _ _ _ _ _ (written_then _ _ _ _ _ _ _ _ front rest) c.put_text.ensures) (grind arith) (omega arith)
