-- From a conflict to a clause: the walk back over the trail. A literal of at least level d is marked, and resolved when the walk comes to it, or goes into
-- the clause then; one of a lower level goes into the clause when it's marked; one of the first level is left out. Resolving goes on until one literal
-- of the level is left, the first unique implication point, or until only decisions are. Definitions only, total on any table.
use Rattle.std.specs.Prelude.{ℕ, zero, suc, ◌+◌, ◌-◌, ◌/◌, min, max, Bool, true, false, ◌&&◌, List, Some, None, Option, fold, ◌==◌, nat_le, nat_lt}
use Rattle.std.specs.List.{list_all, range_with_len}
use Rattle.formula.specs.Logic.{pick, or, other}
use Rattle.cdcl.specs.declared.work.Table.{Table}
use Rattle.cdcl.specs.declared.analyze_conflict.Until.{Until}
use Rattle.cdcl.specs.declared.analyze_conflict.Until.TheVariants.{FirstPoint, Decisions}
use Rattle.cdcl.specs.declared.scalar.Scalar.TheVariants.{Stamp, LearnedLen, OpenCount}
use Rattle.cdcl.specs.Work.{cell, put, numbered, Outcome, outcome, for_each, reasons, marks, learned_lits, lits}
use Rattle.cdcl.specs.Scalars.{scalar, with_scalar}
use Rattle.cdcl.specs.Vsids.{bump}
use Rattle.cdcl.specs.Assignment.{size_of, lit_level, trail_lit}
use Rattle.cdcl.specs.Watch.{start_of, len_of}

-- MARKS by variable: the stamp, so that a new one marks none. Before the stamp gets too large all are cleared
abbrev pub stamp : List ℕ → ℕ
stamp w = min (scalar w Stamp) 4611686018427387904

abbrev pub with_stamp : List ℕ → ℕ → List ℕ
with_stamp w n = with_scalar w Stamp n

abbrev pub is_marked : List ℕ → ℕ → Bool
is_marked w v = cell marks w v == stamp w

-- THE CLAUSE, so long; and so many marked literals of the level are still to come
abbrev pub learned_len : List ℕ → ℕ
learned_len w = min (scalar w LearnedLen) 16640

abbrev pub with_learned_len : List ℕ → ℕ → List ℕ
with_learned_len w n = with_scalar w LearnedLen n

abbrev pub open_count : List ℕ → ℕ
open_count w = min (scalar w OpenCount) 65536

abbrev pub with_open : List ℕ → ℕ → List ℕ
with_open w n = with_scalar w OpenCount n

abbrev pub learned_lit : List ℕ → ℕ → ℕ
learned_lit w i = cell learned_lits w i

abbrev pub push : List ℕ → ℕ → List ℕ
push w k = with_learned_len (put learned_lits w (learned_len w) k) (learned_len w + 1)

abbrev pub with_mark : List ℕ → ℕ → List ℕ
with_mark w v = put marks w v (stamp w)

-- a variable that is marked had a part in the conflict
abbrev pub involved : List ℕ → ℕ → List ℕ
involved w v = bump (with_mark w v) v

unfoldable pub mark_one : ℕ → List ℕ → ℕ → List ℕ
mark_one d w k =
    pick (or (is_marked w (k / 2)) (lit_level w k == 0)) w
    (pick (nat_le d (lit_level w k)) (with_open (involved w (k / 2)) (open_count w + 1)) (push (involved w (k / 2)) k))

abbrev pub mark_at : ℕ → List ℕ → ℕ → List ℕ
mark_at d w i = mark_one d w (cell lits w i)

abbrev pub mark_clause : ℕ → List ℕ → ℕ → List ℕ
mark_clause d w c = fold (mark_at d) w (range_with_len (start_of w c) (len_of w c))

-- a literal of the trail: resolved by its reason, or said in the clause
abbrev pub reason_of : List ℕ → ℕ → Option ℕ
reason_of w l = numbered (cell reasons w (l / 2))

abbrev pub one_less : List ℕ → List ℕ
one_less w = with_open w (open_count w - 1)

abbrev pub goes_on : Until → ℕ → Bool
goes_on FirstPoint n = nat_le 2 n
goes_on Decisions n = true

abbrev pub resolving : Until → List ℕ → ℕ → Option ℕ
resolving u w l = pick (goes_on u (open_count w)) (reason_of w l) None

abbrev pub resolve_by : ℕ → List ℕ → ℕ → Option ℕ → List ℕ
resolve_by d w l (Some c) = mark_clause d w c
resolve_by d w l None = push w (other l)

unfoldable pub resolve : ℕ → Until → List ℕ → ℕ → List ℕ
resolve d u w l = pick (is_marked w (l / 2)) (resolve_by d (one_less w) l (resolving u w l)) w

-- the trail from place i down, as long as the level is d at least
unfoldable pub walk_back : ℕ → ℕ → Until → List ℕ → List ℕ
walk_back zero d u w = w
walk_back (suc i) d u w = pick (nat_le d (lit_level w (trail_lit w i))) (walk_back i d u (resolve d u w (trail_lit w i))) w

-- THE HIGHEST LEVEL of n literals from place k of a table on
abbrev pub highest : Table → ℕ → ℕ → List ℕ → ℕ
highest t n k w = fold (λ b i. max b (lit_level w (cell t w i))) 0 (range_with_len k n)

-- NOTHING MARKED, nothing in the clause
abbrev pub cleared_marks : List ℕ → List ℕ
cleared_marks w = for_each (λ x v. put marks x v 0) 16384 w

abbrev pub next_stamp : List ℕ → List ℕ
next_stamp w = pick (nat_lt (stamp w) 4611686018427387904) (with_stamp w (stamp w + 1)) (with_stamp (cleared_marks w) 1)

abbrev pub started : List ℕ → List ℕ
started w = with_open (with_learned_len (next_stamp w) 0) 0

-- FROM A FALSE CLAUSE to what is said: the walk at its own level
abbrev pub clause_level : List ℕ → ℕ → ℕ
clause_level w c = highest lits (len_of w c) (start_of w c) w

abbrev pub begun : ℕ → List ℕ → ℕ → List ℕ
begun d w c = mark_clause d (started w) c

unfoldable pub analyzed : ℕ → List ℕ → ℕ → List ℕ
analyzed d w c = walk_back (size_of (begun d w c)) d FirstPoint (begun d w c)

-- what is said last comes first
abbrev pub swapped : List ℕ → ℕ → ℕ → List ℕ
swapped w i j = put learned_lits (put learned_lits w i (learned_lit w j)) j (learned_lit w i)

abbrev pub last_first : List ℕ → List ℕ
last_first w = swapped w 0 (learned_len w - 1)

-- MINIMIZED: a literal of a lower level goes if its reason's other literals are in the clause, or false at the first level
abbrev pub is_covered : List ℕ → ℕ → ℕ → Bool
is_covered w v j = or (j / 2 == v) (or (lit_level w j == 0) (is_marked w (j / 2)))

abbrev pub all_covered : List ℕ → ℕ → ℕ → Bool
all_covered w c v = list_all (λ i. is_covered w v (cell lits w i)) (range_with_len (start_of w c) (len_of w c))

abbrev pub follows : List ℕ → ℕ → Option ℕ → Bool
follows w v (Some c) = all_covered w c v
follows w v None = false

abbrev pub is_spare : ℕ → List ℕ → ℕ → Bool
is_spare d w l = nat_lt (lit_level w l) d && follows w (l / 2) (reason_of w l)

-- those that stay are moved together; and how many there are by then
abbrev pub keep_needed : ℕ → Outcome ℕ → ℕ → Outcome ℕ
keep_needed d t i =
    pick (is_spare d t.after (learned_lit t.after i)) t (outcome (put learned_lits t.after t.answer (learned_lit t.after i)) (t.answer + 1))

abbrev pub needed : ℕ → ℕ → List ℕ → Outcome ℕ
needed d n w = for_each (keep_needed d) n (outcome w 0)

abbrev pub minimized : ℕ → List ℕ → List ℕ
minimized d w = with_learned_len (needed d (learned_len w) w).after (needed d (learned_len w) w).answer

-- a literal of the highest level but the first comes second: the place of one
abbrev pub higher_place : List ℕ → ℕ → ℕ → ℕ
higher_place w j i = pick (nat_lt (lit_level w (learned_lit w j)) (lit_level w (learned_lit w i))) i j

abbrev pub peak : List ℕ → ℕ
peak w = fold (higher_place w) 1 (range_with_len 1 (learned_len w - 1))

unfoldable pub second_highest : List ℕ → List ℕ
second_highest w = pick (nat_lt 1 (learned_len w)) (swapped w 1 (peak w)) w
