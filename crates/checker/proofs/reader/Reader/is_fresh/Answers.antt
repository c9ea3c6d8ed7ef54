use Rattle.std.proofs.Common.{arith, vec_items, vec_len}
use Rattle.std.proofs.lemmas.Grind.{common_steps}
use Rattle.checker.proofs.TextRead.{empty_none}
use Rattle.checker.proofs.reader.Reader.is_fresh.Goals as goal

pub returns-then-eq : goal.returns-then-eq
returns-then-eq c = let k = empty_none (vec_items c.args.self.now.part) (vec_len c.args.self.now.part) c.args.self.now.part.ok.0 in grind (arith, common_steps)
