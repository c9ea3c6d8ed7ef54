use Rattle.search.proofs.PlainEnds.{search_ends}
use Rattle.solver.proofs.PrintsBack.{prints_back}
use Rattle.solver.proofs.Wholly.{whole}
use Rattle.solver.proofs.promises.Goals as goal

pub returns : goal.returns
returns c = record { whole = whole search_ends; printed = prints_back search_ends }
