use Rattle.search.proofs.PlainEnds.{search_ends}
use Rattle.search.proofs.plain.plain_search_ends.Goals as goal

pub returns : goal.returns
returns c = search_ends
