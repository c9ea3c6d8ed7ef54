-- The assignment and its trail: literals made true one after another, each with a level and a reason, and taken back from the end.
-- Definitions only, total on any table.
use Rattle.std.specs.Prelude.{ℕ, zero, suc, ◌+◌, ◌-◌, ◌/◌, ◌%◌, min, Bool, ◌&&◌, List, Option, ◌==◌, nat_lt}
use Rattle.std.specs.Option.{unwrap_or}
use Rattle.formula.specs.Logic.{pick, other}
use Rattle.cdcl.specs.declared.scalar.Scalar.TheVariants.{TrailSize, Queue, Level}
use Rattle.cdcl.specs.Work.{cell, put, values, levels, reasons, trail, phases}
use Rattle.cdcl.specs.Scalars.{scalar, with_scalar}
use Rattle.cdcl.specs.Vsids.{heap_insert}

-- so many literals are on the trail, so many of them have been propagated; and the level
abbrev pub size_of : List ℕ → ℕ
size_of w = min (scalar w TrailSize) 16384

abbrev pub queue_of : List ℕ → ℕ
queue_of w = min (scalar w Queue) 16384

abbrev pub level_of : List ℕ → ℕ
level_of w = min (scalar w Level) 17408

abbrev pub with_size : List ℕ → ℕ → List ℕ
with_size w n = with_scalar w TrailSize n

abbrev pub with_queue : List ℕ → ℕ → List ℕ
with_queue w n = with_scalar w Queue n

abbrev pub with_level : List ℕ → ℕ → List ℕ
with_level w n = with_scalar w Level n

abbrev pub is_true : List ℕ → ℕ → Bool
is_true w l = cell values w (l / 2) == 2 + l % 2

abbrev pub is_false : List ℕ → ℕ → Bool
is_false w l = is_true w (other l)

abbrev pub lit_level : List ℕ → ℕ → ℕ
lit_level w l = cell levels w (l / 2)

abbrev pub trail_lit : List ℕ → ℕ → ℕ
trail_lit w i = cell trail w i

-- A LITERAL MADE TRUE, at the level now, with a reason: a clause's number, or none
abbrev pub assigned : List ℕ → ℕ → Option ℕ → List ℕ
assigned w l r = put reasons (put levels (put values w (l / 2) (2 + l % 2)) (l / 2) (level_of w)) (l / 2) (unwrap_or r 0)

abbrev pub enqueue : List ℕ → ℕ → Option ℕ → List ℕ
enqueue w l r = with_size (put trail (assigned w l r) (size_of w) l) (size_of w + 1)

-- a new level, with a decision
abbrev pub deeper : List ℕ → List ℕ
deeper w = with_level w (level_of w + 1)

-- THE LAST LITERAL TAKEN BACK: its variable keeps the value for the next decision, and comes into the heap
abbrev pub last_lit : List ℕ → ℕ
last_lit w = trail_lit w (size_of w - 1)

abbrev pub unassigned : List ℕ → ℕ → List ℕ
unassigned w l = put phases (put values (with_size w (size_of w - 1)) (l / 2) 0) (l / 2) (1 - l % 2)

abbrev pub popped : List ℕ → List ℕ
popped w = heap_insert (unassigned w (last_lit w)) (last_lit w / 2)

-- BACK to a level: what has a higher one is taken back
abbrev pub is_above : List ℕ → ℕ → Bool
is_above w b = nat_lt 0 (size_of w) && nat_lt b (lit_level w (last_lit w))

unfoldable pub cut : ℕ → List ℕ → ℕ → List ℕ
cut zero w b = w
cut (suc n) w b = pick (is_above w b) (cut n (popped w) b) w

abbrev pub at_level : List ℕ → ℕ → List ℕ
at_level w b = with_level (with_queue w (size_of w)) b

abbrev pub backjump : List ℕ → ℕ → List ℕ
backjump w b = at_level (cut (size_of w) w b) b
