-- Clauses by number and their watch lists, and propagation over them. Of each clause the first two literals are watched: clause c has the slots
-- 2 * c and 2 * c + 1. The list of a literal begins at its own link; a link holds the next slot, or 0 at the end; the links of slots lie behind
-- those of literals. Definitions only, total on any table.
use Rattle.std.specs.Prelude.{ℕ, zero, suc, ◌+◌, ◌-◌, ◌/◌, ◌%◌, min, not, ◌&&◌, List, Some, None, Option, Ok, Err, Result, nat_lt, find}
use Rattle.std.specs.List.{range_with_len}
use Rattle.std.specs.Option.{unwrap_or}
use Rattle.formula.specs.Logic.{pick, other}
use Rattle.cdcl.specs.declared.propagate.Conflict.{Conflict}
use Rattle.cdcl.specs.Work.{cell, put, numbered, Outcome, outcome, links, starts, lits}
use Rattle.cdcl.specs.Assignment.{size_of, queue_of, with_queue, is_true, is_false, trail_lit, enqueue}

-- CLAUSES: where the literals of clause c start, and how many there are
abbrev pub start_of : List ℕ → ℕ → ℕ
start_of w c = min (cell starts w c) 106752

abbrev pub len_of : List ℕ → ℕ → ℕ
len_of w c = start_of w (c + 1) - start_of w c

-- SLOTS: the place of a slot's literal and of its link; the slot that a link leads to
abbrev pub lit_spot : List ℕ → ℕ → ℕ
lit_spot w x = start_of w (x / 2) + x % 2

abbrev pub watch_of : List ℕ → ℕ → ℕ
watch_of w x = cell lits w (lit_spot w x)

abbrev pub mate : List ℕ → ℕ → ℕ
mate w x = cell lits w (start_of w (x / 2) + (1 - x % 2))

abbrev pub spot : ℕ → ℕ
spot x = 32768 + x

abbrev pub slot_numbered : ℕ → Option ℕ
slot_numbered n = pick (nat_lt 0 n && nat_lt n 40960) (Some n) None

abbrev pub slot_at : List ℕ → ℕ → Option ℕ
slot_at w p = slot_numbered (cell links w p)

abbrev pub with_slot : List ℕ → ℕ → Option ℕ → List ℕ
with_slot w p x = put links w p (unwrap_or x 0)

-- A SLOT MOVES: the link at p goes on with what came after slot x; the literal at place k of the table changes places with the watched one,
-- and x comes to the front of its list
abbrev pub in_front : List ℕ → ℕ → ℕ → Option ℕ → List ℕ
in_front w l x o = with_slot (with_slot w (spot x) o) l (Some x)

abbrev pub moved : List ℕ → ℕ → ℕ → ℕ → List ℕ
moved w p x k =
    in_front (put lits (put lits (with_slot w p (slot_at w (spot x))) (lit_spot w x) (cell lits w k)) k (watch_of w x)) (cell lits w k) x (slot_at w (cell lits w k))

-- a place of the slot's clause, past the two watched ones, whose literal isn't false
abbrev pub free_place : List ℕ → ℕ → Option ℕ
free_place w x = find (λ i. not (is_false w (cell lits w i))) (range_with_len (start_of w (x / 2) + 2) (len_of w (x / 2) - 2))

-- A STEP: the table, and what came of it if no clause is false
abbrev pub Step : Type 0 → Type 0
Step A = Outcome (Result A Conflict)

-- the next step, unless a clause is false
abbrev pub then_by : {A B : Type 0} → List ℕ → Result A Conflict → (List ℕ → A → Step B) → Step B
then_by w (Ok a) f = f w a
then_by w (Err c) f = outcome w (Err c)

abbrev pub and_then : {A B : Type 0} → Step A → (List ℕ → A → Step B) → Step B
and_then t f = then_by t.after t.answer f

-- ONE SLOT, x, to which the link at p leads, and the link where the walk goes on; o is the other watched literal. Number 0 is no clause's
abbrev pub clause_of : ℕ → Option ℕ
clause_of x = numbered (x / 2)

abbrev pub clash_of : ℕ → Option ℕ → Result ℕ Conflict
clash_of x (Some c) = Err (record { clause = c })
clash_of x None = Ok (spot x)

abbrev pub clash : ℕ → Result ℕ Conflict
clash x = clash_of x (clause_of x)

abbrev pub stay : List ℕ → ℕ → ℕ → Step ℕ
stay w x o =
    pick (is_false w (watch_of w x)) (pick (is_false w o) (outcome w (clash x)) (outcome (enqueue w o (clause_of x)) (Ok (spot x)))) (outcome w (Ok (spot x)))

abbrev pub move_or_stay : List ℕ → ℕ → ℕ → ℕ → Option ℕ → Step ℕ
move_or_stay w p x o (Some k) = outcome (moved w p x k) (Ok p)
move_or_stay w p x o None = stay w x o

unfoldable pub visit : List ℕ → ℕ → ℕ → Step ℕ
visit w p x = pick (is_true w (mate w x)) (outcome w (Ok (spot x))) (move_or_stay w p x (mate w x) (free_place w x))

-- A LIST: no list is longer than there are slots
abbrev pub walk_by : List ℕ → ℕ → Option ℕ → (List ℕ → ℕ → Step (Unit {0})) → Step (Unit {0})
walk_by w p None f = outcome w (Ok tt)
walk_by w p (Some x) f = and_then (visit w p x) f

unfoldable pub walk : ℕ → List ℕ → ℕ → Step (Unit {0})
walk zero w p = outcome w (Ok tt)
walk (suc n) w p = walk_by w p (slot_at w p) (walk n)

-- ONE LITERAL OF THE TRAIL: the walk over the list of its other; if no clause is false the queue moves on
unfoldable pub look : List ℕ → Step (Unit {0})
look w = and_then (walk 40960 w (other (trail_lit w (queue_of w)))) (λ v _. outcome (with_queue v (queue_of v + 1)) (Ok tt))

-- ALL OF THE TRAIL, until nothing is left to look at, or a clause is false
unfoldable pub propagated : ℕ → List ℕ → Step (Unit {0})
propagated zero w = outcome w (Ok tt)
propagated (suc n) w = pick (nat_lt (queue_of w) (size_of w)) (and_then (look w) (λ v _. propagated n v)) (outcome w (Ok tt))
