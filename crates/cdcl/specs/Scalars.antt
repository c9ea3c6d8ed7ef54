-- The scalars by name: where each lies in their table, and how it is read and written. Definitions only, total on any table.
use Rattle.std.specs.Prelude.{ℕ, List}
use Rattle.cdcl.specs.declared.scalar.Scalar.{Scalar}
use Rattle.cdcl.specs.declared.scalar.Scalar.TheVariants.{TrailSize, Queue, Level, Stamp, NumClauses, HeapLen, Increment, LearnedLen, OpenCount}
use Rattle.cdcl.specs.Work.{cell, put, scalars}

abbrev pub place_of : Scalar → ℕ
place_of TrailSize = 0
place_of Queue = 1
place_of Level = 2
place_of Stamp = 3
place_of NumClauses = 4
place_of HeapLen = 5
place_of Increment = 6
place_of LearnedLen = 8
place_of OpenCount = 9

abbrev pub scalar : List ℕ → Scalar → ℕ
scalar w s = cell scalars w (place_of s)

abbrev pub with_scalar : List ℕ → Scalar → ℕ → List ℕ
with_scalar w s n = put scalars w (place_of s) n
