use Rattle.checker.proofs.WrittenRead.{read_back}
use Rattle.checker.proofs.statements.proof_read_back.Goals as goal

pub returns : goal.returns
returns c = read_back
