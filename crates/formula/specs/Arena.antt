-- Clauses as they lie in a table of numbers: of each how long it is, and then its literals.
-- Definitions only; total on any table: what would stand past its end is left out.
use Rattle.std.specs.Prelude.{ℕ, zero, suc, ◌+◌, List, [], ◌∷◌, ◌++◌, length, take, drop, slice_index}
use Rattle.formula.specs.Logic.{Clause, how_large}

unfoldable pub clause_row : Clause → List ℕ
clause_row c = length c ∷ c

-- all clauses, one after another, and how many numbers they are
unfoldable pub rows_of : List Clause → List ℕ
rows_of [] = []
rows_of (c ∷ cs) = clause_row c ++ rows_of cs

abbrev pub size : List Clause → ℕ
size cs = how_large cs + length cs

-- the first k clauses of a table
unfoldable pub clauses_in : ℕ → List ℕ → List Clause
clauses_in zero xs = []
clauses_in (suc k) xs = take (slice_index xs 0) (drop 1 xs) ∷ clauses_in k (drop (slice_index xs 0) (drop 1 xs))
