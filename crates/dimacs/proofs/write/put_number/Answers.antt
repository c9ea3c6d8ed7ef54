use Rattle.dimacs.proofs.Writing.{number_text_is}
use Rattle.dimacs.proofs.write.put_number.Goals as goal

pub returns-clause-text : goal.returns-clause-text
returns-clause-text c = rw (number_text_is c.args.n c.ranges.n.fits, ← c.format.ensures.text, ← c.as_bytes.ensures.value) c.put_text.ensures
