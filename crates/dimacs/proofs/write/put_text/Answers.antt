use Rattle.std.proofs.Common.{refl, arith}
use Rattle.dimacs.proofs.Writing.{text_copied}
use Rattle.dimacs.proofs.write.put_text.Goals as goal

pub returns : goal.returns
returns c = record { behind = refl; row = text_copied c.args.out.now c.args.text.now _ c.args.start _ c.requires c.copy_from_slice.ensures.after (omega arith) }
