use Rattle.std.proofs.Common.{vec_items, vec_len, arith}
use Rattle.std.proofs.lemmas.Grind.{common_steps}
use Rattle.checker.specs.Input.{step_of}
use Rattle.checker.proofs.TextRead.{empty_map}
use Rattle.checker.proofs.reader.Reader.allows.Goals as goal

pub returns-then-is_fresh : goal.returns-then-is_fresh
returns-then-is_fresh c = let e = empty_map step_of (vec_items c.args.self.now.steps) (vec_len c.args.self.now.steps) c.args.self.now.steps.ok.0 in grind (arith, common_steps)
