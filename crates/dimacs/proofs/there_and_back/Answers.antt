use Rattle.dimacs.proofs.there_and_back.Goals as goal
use Rattle.dimacs.proofs.ThereAndBack.{there_and_back}

pub returns : goal.returns
returns c = there_and_back
