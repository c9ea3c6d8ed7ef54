-- A file read beside a table that its clauses are written into: where the reading stops, what the table holds then,
-- and what is told of it. Definitions only, over the reader of Text.
use Rattle.std.specs.Prelude.{ℕ, ◌+◌, List, [], ◌∷◌, length, slice_index, Some, None, Ok, Err, Option, Result}
use Rattle.std.proofs.lemmas.List.Edits.{sets}
use Rattle.formula.specs.Logic.{how_large}
use Rattle.formula.specs.Arena.{rows_of, size}
use Rattle.dimacs.specs.Text.{Reader, Read, goes_on, wrong, first_reader, byte_read, counted, literal_done, vars_of}
use Rattle.dimacs.specs.declared.read.Counts.{Counts}
use Rattle.dimacs.specs.declared.read.Fault.{Fault}
use Rattle.dimacs.specs.declared.read.Fault.TheVariants.{BadByte, TooLarge, BadHeader, OpenClause, MoreVars, OtherClauses}

-- the reader where it stops: before the byte that can't stand there, or at the end with the last literal done
abbrev pub by_read : {A : Type 0} → Read → A → (Reader → A) → A
by_read (goes_on r) a f = f r
by_read (wrong k ns) a f = a

unfoldable pub stopped_at : List ℕ → Reader → Reader
stopped_at [] r = literal_done r
stopped_at (b ∷ bs) r = by_read (byte_read b (counted b r)) r (λ r₁. stopped_at bs r₁)

-- clauses read so far, in a table from a place on: those that are done each as its length and its literals, and the literals of the one that isn't
unfoldable pub laid : List ℕ → ℕ → Reader → List ℕ
laid t start r = sets (sets t start (rows_of r.read_clauses)) (start + size r.read_clauses + 1) r.part

unfoldable pub table_after : List ℕ → ℕ → List ℕ → List ℕ
table_after t start bs = laid t start (stopped_at bs first_reader)

-- a refusal: its number, how many numbers are shown with it, and these
pub record Refusal : Type 0 where
  pub number : ℕ
  pub shown : ℕ
  pub first : ℕ
  pub second : ℕ

pub data Outcome : Type 0 where
  Formula : Counts → Outcome
  Wrong : Refusal → Outcome

-- what is told: how many clauses, literals and variables; or what is wrong, and with which numbers
unfoldable pub outcome_of : Read → Outcome
outcome_of (goes_on r) =
    Formula (record { clauses = length r.read_clauses; literals = how_large r.read_clauses; vars = vars_of r.read_clauses })
outcome_of (wrong k ns) = Wrong (record { number = k; shown = length ns; first = slice_index ns 0; second = slice_index ns 1 })

-- what code answers, and what is told by that: each fault's number, and the one or two numbers that are shown with it
abbrev pub number_told : Fault → ℕ
number_told (BadByte line byte) = 20
number_told (TooLarge line) = 21
number_told (BadHeader line) = 22
number_told (OpenClause line) = 23
number_told (MoreVars found said) = 24
number_told (OtherClauses found said) = 25

abbrev pub first_told : Fault → ℕ
first_told (BadByte line byte) = line
first_told (TooLarge line) = line
first_told (BadHeader line) = line
first_told (OpenClause line) = line
first_told (MoreVars found said) = found
first_told (OtherClauses found said) = found

abbrev pub second_told : Fault → Option ℕ
second_told (BadByte line byte) = Some byte
second_told (TooLarge line) = None
second_told (BadHeader line) = None
second_told (OpenClause line) = None
second_told (MoreVars found said) = Some said
second_told (OtherClauses found said) = Some said

abbrev pub with_numbers_told : ℕ → ℕ → Option ℕ → Refusal
with_numbers_told k n None = record { number = k; shown = 1; first = n; second = 0 }
with_numbers_told k n (Some m) = record { number = k; shown = 2; first = n; second = m }

abbrev pub refusal_told : Fault → Refusal
refusal_told f = with_numbers_told (number_told f) (first_told f) (second_told f)

abbrev pub outcome_told : Result Counts Fault → Outcome
outcome_told (Ok c) = Formula c
outcome_told (Err f) = Wrong (refusal_told f)
