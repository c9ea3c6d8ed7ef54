-- What code keeps of a text that it reads, instead of the clauses themselves, and what each byte makes of it.
-- Definitions only; proofs/Scans.antt shows that they come to the reader of Text.
use Rattle.std.specs.Prelude.{ℕ, ◌+◌, ◌-◌, ◌*◌, ◌^◌, ◌<◌, ◌≤◌, Bool, true, false, not, ◌&&◌, List, [], ◌∷◌, length, drop, Some, None, Ok, Err, Option, Result, ◌==◌, nat_lt, slice_set}
use Rattle.formula.specs.Logic.{pick, or, how_large, Clause}
use Rattle.dimacs.specs.Text.{Reader, Header, reader, is_digit, is_end, larger, vars_of, row_vars}
use Rattle.dimacs.specs.Heading.{heading_read}
use Rattle.dimacs.specs.declared.read.Fault.{Fault}
use Rattle.dimacs.specs.declared.read.Fault.TheVariants.{BadByte, TooLarge, OpenClause, MoreVars, OtherClauses}
use Rattle.dimacs.specs.declared.read.Counts.{Counts}
use Rattle.dimacs.specs.declared.header.Promise.{Promise}
use Rattle.dimacs.specs.declared.scan.State.{State}
use Rattle.dimacs.specs.declared.scan.State.TheVariants.{LineStart, Between, Minus, Number, Comment}
use Rattle.dimacs.specs.declared.scan.State.TheVariants as st
use Rattle.dimacs.specs.declared.scan.Tally.{Tally}
use Rattle.dimacs.specs.declared.scan.Scan.{Scan}

-- STATES
-- the number that is read, its sign, and whether it has a digit
abbrev pub value_of : State → ℕ
value_of (Number negated value) = value
value_of x = 0

abbrev pub negated_of : State → Bool
negated_of (Number negated value) = negated
negated_of Minus = true
negated_of x = false

abbrev pub in_number : State → Bool
in_number (Number negated value) = true
in_number x = false

-- a comment or the header, where its row begins, and what it is behind some bytes
abbrev pub skips : State → Bool
skips Comment = true
skips (st.Header start) = true
skips x = false

abbrev pub in_header : State → Bool
in_header (st.Header start) = true
in_header x = false

abbrev pub start_of : State → ℕ
start_of (st.Header start) = start
start_of x = 0

abbrev pub row_of : List ℕ → State → List ℕ
row_of before (st.Header start) = drop start before
row_of before x = []

-- at a line's start, where a line that is passed over stays
abbrev pub starts : State → Bool
starts LineStart = true
starts x = skips x

-- OF A READER
abbrev pub tally_of : List Clause → List ℕ → Tally
tally_of cs p = record { counts = record { clauses = length cs; literals = how_large cs; vars = larger (vars_of cs) (row_vars p) }; part = length p }

abbrev pub promise_of : List Header → Option Promise
promise_of [] = None
promise_of (h ∷ hs) = Some (record { vars = h.head_vars; clauses = h.head_clauses })

-- what is kept of clauses, a part of one and a header, and the reader that stands there
abbrev pub kept : List Clause → List ℕ → List Header → ℕ → State → Scan
kept cs p hs line x = record { line = line; state = x; tally = tally_of cs p; header = promise_of hs }

abbrev pub stood : List ℕ → List Clause → List ℕ → List Header → ℕ → State → Reader
stood before cs p hs line x = reader cs p (value_of x) (negated_of x) (in_number x) (skips x) (in_header x) (starts x) line (row_of before x) hs

abbrev pub first_scan : Scan
first_scan =
    record {
      line = 1;
      state = LineStart;
      tally = record { counts = record { clauses = 0; literals = 0; vars = 0 }; part = 0 };
      header = None;
    }

-- one more can be counted
abbrev pub HasRoom : Tally → Type 0
HasRoom t = t.counts.clauses + t.counts.literals + t.part < 2 ^ 63

-- after so many bytes no number is large, and a header has begun among them
pub record Bounded (n : ℕ) (s : Scan) : Type 0 where
  pub lines : s.line ≤ n + 1
  pub begun : start_of s.state ≤ n
  pub counts : s.tally.counts.clauses + s.tally.counts.literals + s.tally.part + pick (in_number s.state) 1 0 ≤ n

-- ONE BYTE
abbrev pub in_state : Scan → State → Scan
in_state s x = record { line = s.line; state = x; tally = s.tally; header = s.header }

abbrev pub line_counted : ℕ → Scan → Scan
line_counted b s = record { line = pick (b == 10) (s.line + 1) s.line; state = s.state; tally = s.tally; header = s.header }

-- a literal is done, or a clause
abbrev pub clause_ended : Tally → Tally
clause_ended t = record { counts = record { clauses = t.counts.clauses + 1; literals = t.counts.literals + t.part; vars = t.counts.vars }; part = 0 }

abbrev pub literal_added : ℕ → Tally → Tally
literal_added n t = record { counts = record { clauses = t.counts.clauses; literals = t.counts.literals; vars = larger t.counts.vars n }; part = t.part + 1 }

abbrev pub literal_of : State → ℕ
literal_of x = 2 * (value_of x - 1) + pick (negated_of x) 1 0

abbrev pub tally_done : State → Tally → Tally
tally_done x t = pick (in_number x) (pick (value_of x == 0) (clause_ended t) (literal_added (value_of x) t)) t

abbrev pub rows_done : List ℕ → State → Tally → List ℕ
rows_done xs x t =
    pick (in_number x)
    (pick (value_of x == 0) (slice_set xs (t.counts.clauses + t.counts.literals) t.part) (slice_set xs (t.counts.clauses + t.counts.literals + 1 + t.part) (literal_of x))) xs

abbrev pub number_ended : ℕ → Scan → Scan
number_ended b s = record { line = s.line; state = pick (b == 32) Between LineStart; tally = tally_done s.state s.tally; header = s.header }

abbrev pub digit_taken : ℕ → Scan → Result Scan Fault
digit_taken d s =
    pick (nat_lt 16384 (value_of s.state * 10 + d)) (Err (TooLarge s.line))
    (Ok (in_state s (Number (negated_of s.state) (value_of s.state * 10 + d))))

-- the header's line is ended
abbrev pub with_promise : Scan → Result Promise Fault → Result Scan Fault
with_promise s (Ok p) = Ok (record { line = s.line; state = LineStart; tally = s.tally; header = Some p })
with_promise s (Err f) = Err f

abbrev pub header_ended : List ℕ → Scan → Result Scan Fault
header_ended row s = with_promise s (heading_read row s.line)

-- what a byte is, where it stands
abbrev pub can_negate : State → Bool
can_negate x = not (negated_of x) && not (in_number x)

abbrev pub can_end : State → Bool
can_end x = or (not (negated_of x)) (in_number x)

abbrev pub no_header : Option Promise → Bool
no_header None = true
no_header (Some p) = false

abbrev pub is_separator : ℕ → Bool
is_separator b = or (b == 32) (is_end b)

abbrev pub byte_skipped : List ℕ → ℕ → Scan → Result Scan Fault
byte_skipped before b s = pick (is_end b) (pick (in_header s.state) (header_ended (row_of before s.state) s) (Ok (in_state s LineStart))) (Ok s)

abbrev pub mark_taken : ℕ → ℕ → Scan → Result Scan Fault
mark_taken place b s =
    pick (is_digit b) (digit_taken (b - 48) s)
    (pick (b == 45 && can_negate s.state) (Ok (in_state s Minus))
    (pick (is_separator b && can_end s.state) (Ok (number_ended b s))
    (pick (b == 99 && starts s.state) (Ok (in_state s Comment))
    (pick (b == 112 && (starts s.state && no_header s.header)) (Ok (in_state s (st.Header place))) (Err (BadByte s.line b))))))

abbrev pub byte_taken : List ℕ → ℕ → Scan → Result Scan Fault
byte_taken before b s = pick (skips s.state) (byte_skipped before b s) (mark_taken (length before) b s)

abbrev pub rows_taken : List ℕ → ℕ → Scan → List ℕ
rows_taken xs b s = pick (skips s.state) xs (pick (is_separator b && can_end s.state) (rows_done xs s.state s.tally) xs)

-- AT THE END
-- what there is, against what the header says
abbrev pub promise_kept : Promise → Counts → Result (Unit {0}) Fault
promise_kept p n = pick (nat_lt p.vars n.vars) (Err (MoreVars n.vars p.vars)) (pick (n.clauses == p.clauses) (Ok tt) (Err (OtherClauses n.clauses p.clauses)))

abbrev pub counts_if : Counts → Result (Unit {0}) Fault → Result Counts Fault
counts_if n (Ok u) = Ok n
counts_if n (Err f) = Err f

abbrev pub promise_checked : Option Promise → Counts → Result Counts Fault
promise_checked None n = Ok n
promise_checked (Some p) n = counts_if n (promise_kept p n)

abbrev pub end_checked : Option Promise → Tally → ℕ → Result Counts Fault
end_checked h t line = pick (t.part == 0) (promise_checked h t.counts) (Err (OpenClause line))

abbrev pub header_checked : Result Promise Fault → Tally → ℕ → Result Counts Fault
header_checked (Ok p) t line = end_checked (Some p) t line
header_checked (Err f) t line = Err f

abbrev pub scan_checked : List ℕ → Scan → Result Counts Fault
scan_checked bs s =
    pick (in_header s.state) (header_checked (heading_read (row_of bs s.state) s.line) (tally_done s.state s.tally) s.line)
    (end_checked s.header (tally_done s.state s.tally) s.line)
