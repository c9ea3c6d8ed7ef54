-- The map of `work`, the search's own table: the tables in it, and how one number of a table is read and written.
-- Definitions only, total: past a table's end a read gives 0 and a write does nothing, whatever lies behind.
use Rattle.std.specs.Prelude.{◌≡◌, ℕ, zero, suc, ◌+◌, ◌≤◌, List, Some, None, Option, ◌==◌, nat_lt, slice_index, slice_set}
use Rattle.std.proofs.Common.{lit≤}
use Rattle.formula.specs.Logic.{pick}
use Rattle.cdcl.specs.declared.work.Table.{Table}

abbrev pub table : (s n : ℕ) → s + n ≤ 423680 → Table
table s n h = record { start = s; len = n; within = h }

abbrev pub cell : Table → List ℕ → ℕ → ℕ
cell t w i = pick (nat_lt i t.len) (slice_index w (t.start + i)) 0

abbrev pub put : Table → List ℕ → ℕ → ℕ → List ℕ
put t w i v = pick (nat_lt i t.len) (slice_set w (t.start + i) v) w

-- a number that a cell holds, where 0 is none
abbrev pub numbered : ℕ → Option ℕ
numbered n = pick (n == 0) None (Some n)

-- the numbers after a call, and what the call answers
pub record Outcome (A : Type 0) : Type 0 where
  pub after : List ℕ
  pub answer : A

abbrev pub outcome : {A : Type 0} → List ℕ → A → Outcome A
outcome w a = record { after = w; answer = a }

-- a call made: it leaves these numbers and answers this
pub record Gives {A : Type 0} (o : Outcome A) (w : List ℕ) (r : A) : Type 0 where
  pub after : w ≡ o.after
  pub answer : r ≡ o.answer

-- f for each number below n, one after another
unfoldable pub for_each : {A : Type 0} → (A → ℕ → A) → ℕ → A → A
for_each f zero a = a
for_each f (suc n) a = f (for_each f n a) n

-- THE TABLES: 256 scalars; by variable its value (2 true, 3 false, else none), level and reason (0, or a clause's number); the trail
abbrev pub scalars : Table
scalars = table 0 256 (lit≤ tt)

abbrev pub values : Table
values = table 256 16384 (lit≤ tt)

abbrev pub levels : Table
levels = table 16640 16384 (lit≤ tt)

abbrev pub reasons : Table
reasons = table 33024 16384 (lit≤ tt)

abbrev pub trail : Table
trail = table 49408 16384 (lit≤ tt)

-- decisions: by variable its weight; the heap of variables, the heaviest first; one more than the place in it, or 0; 1 if it was true last
abbrev pub activity : Table
activity = table 65792 16384 (lit≤ tt)

abbrev pub heap : Table
heap = table 82176 16384 (lit≤ tt)

abbrev pub heap_pos : Table
heap_pos = table 98560 16384 (lit≤ tt)

abbrev pub phases : Table
phases = table 114944 16384 (lit≤ tt)

-- analysis: by variable the stamp if it's marked; by level alike; the clause that is being learned
abbrev pub marks : Table
marks = table 131328 16384 (lit≤ tt)

abbrev pub level_marks : Table
level_marks = table 147712 17408 (lit≤ tt)

abbrev pub learned_lits : Table
learned_lits = table 165120 16640 (lit≤ tt)

-- clauses, by number from 1: the links of the watch lists, where each clause's literals start, its glue and uses, and the literals
abbrev pub links : Table
links = table 181760 73728 (lit≤ tt)

abbrev pub starts : Table
starts = table 255488 20480 (lit≤ tt)

abbrev pub glue : Table
glue = table 275968 20480 (lit≤ tt)

abbrev pub uses : Table
uses = table 296448 20480 (lit≤ tt)

abbrev pub lits : Table
lits = table 316928 106752 (lit≤ tt)
