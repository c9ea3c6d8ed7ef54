-- The clauses that an iterator over an arena still has.
use Rattle.std.specs.Prelude.{ℕ, List}
use Rattle.formula.specs.Arena.{clauses_in}
use Rattle.search.specs.declared.clauses.Clauses.{Clauses}

abbrev pub clauses_left : Clauses → List (List ℕ)
clauses_left c = clauses_in c.left c.arena.now
