-- Decisions by weight: a binary heap of variables, the heaviest first, and weights that grow with each conflict.
-- Definitions only, total on any table. Nothing that is answered rests on them: a decision may be any variable without a value.
use Rattle.std.specs.Prelude.{ℕ, zero, suc, ◌+◌, ◌-◌, ◌*◌, ◌/◌, min, ◌&&◌, List, Some, None, Option, is_none, ◌==◌, nat_lt}
use Rattle.formula.specs.Logic.{pick}
use Rattle.cdcl.specs.declared.scalar.Scalar.TheVariants.{HeapLen, Increment}
use Rattle.cdcl.specs.Work.{cell, put, for_each, activity, heap, heap_pos}
use Rattle.cdcl.specs.Scalars.{scalar, with_scalar}

abbrev pub heap_len : List ℕ → ℕ
heap_len w = min (scalar w HeapLen) 16384

abbrev pub with_heap_len : List ℕ → ℕ → List ℕ
with_heap_len w n = with_scalar w HeapLen n

abbrev pub heap_at : List ℕ → ℕ → ℕ
heap_at w i = cell heap w i

abbrev pub weight_at : List ℕ → ℕ → ℕ
weight_at w i = cell activity w (heap_at w i)

-- variable v at place i of the heap
abbrev pub put_node : List ℕ → ℕ → ℕ → List ℕ
put_node w i v = put heap_pos (put heap w i v) v (i + 1)

-- the place of a variable
abbrev pub place_of : List ℕ → ℕ → Option ℕ
place_of w v = pick (cell heap_pos w v == 0) None (Some (min (cell heap_pos w v - 1) 16384))

-- UP: the place above, if v is heavier than what stands there
abbrev pub parent : ℕ → ℕ
parent i = (i - 1) / 2

abbrev pub above : List ℕ → ℕ → ℕ → Option ℕ
above w i v = pick (nat_lt 0 i && nat_lt (weight_at w (parent i)) (cell activity w v)) (Some (parent i)) None

-- DOWN: the place of the heavier of the two below, if v is lighter than it
abbrev pub heavier : List ℕ → ℕ → ℕ → ℕ
heavier w l r = pick (nat_lt r (heap_len w) && nat_lt (weight_at w l) (weight_at w r)) r l

abbrev pub child : List ℕ → ℕ → ℕ
child w i = heavier w (2 * i + 1) (2 * i + 1 + 1)

abbrev pub below : List ℕ → ℕ → ℕ → Option ℕ
below w i v = pick (nat_lt (2 * i + 1) (heap_len w) && nat_lt (cell activity w v) (weight_at w (child w i))) (Some (child w i)) None

-- THE WAY of v from place i, up or down, while f has a next place
abbrev pub sift_by : List ℕ → ℕ → ℕ → Option ℕ → (List ℕ → ℕ → List ℕ) → List ℕ
sift_by w i v (Some j) go = go (put_node w i (heap_at w j)) j
sift_by w i v None go = put_node w i v

unfoldable pub sift : (List ℕ → ℕ → ℕ → Option ℕ) → ℕ → List ℕ → ℕ → ℕ → List ℕ
sift f zero w i v = put_node w i v
sift f (suc n) w i v = sift_by w i v (f w i v) (λ x j. sift f n x j v)

-- a heap of 16,384 has 15 rows, so 14 ways up or down are the most
abbrev pub sift_up : List ℕ → ℕ → ℕ → List ℕ
sift_up w i v = sift above 14 w i v

abbrev pub sift_down : List ℕ → ℕ → ℕ → List ℕ
sift_down w i v = sift below 14 w i v

-- IN, if it isn't there
unfoldable pub heap_insert : List ℕ → ℕ → List ℕ
heap_insert w v =
    pick (is_none (place_of w v) && nat_lt (heap_len w) 16384) (sift_up (with_heap_len w (heap_len w + 1)) (heap_len w) v) w

-- OUT, the heaviest: the last takes its place, and goes down
abbrev pub without_first : List ℕ → List ℕ
without_first w = with_heap_len (put heap_pos w (heap_at w 0) 0) (heap_len w - 1)

unfoldable pub heap_pop : List ℕ → List ℕ
heap_pop w =
    pick (nat_lt (heap_len w) 2) (without_first w) (sift_down (without_first w) 0 (heap_at w (heap_len w - 1)))

-- A WEIGHT RAISED by the increment; when one gets large all are made smaller, which keeps their order
abbrev pub increment : List ℕ → ℕ
increment w = min (scalar w Increment) 4611686018427387904

abbrev pub with_increment : List ℕ → ℕ → List ℕ
with_increment w n = with_scalar w Increment n

abbrev pub rescaled : List ℕ → List ℕ
rescaled w = for_each (λ x v. put activity x v (cell activity x v / 1073741824)) 16384 w

abbrev pub all_rescaled : List ℕ → List ℕ
all_rescaled w = rescaled (with_increment w (increment w / 1073741824))

abbrev pub raised : List ℕ → ℕ → List ℕ
raised w v = put activity w v (min (cell activity w v) 4611686018427387904 + increment w)

abbrev pub kept_small : List ℕ → ℕ → List ℕ
kept_small w v = pick (nat_lt 2305843009213693952 (cell activity w v)) (all_rescaled w) w

-- and it goes up in the heap, if it's there
abbrev pub sift_from : List ℕ → ℕ → Option ℕ → List ℕ
sift_from w v (Some i) = sift_up w i v
sift_from w v None = w

abbrev pub moved_up : List ℕ → ℕ → List ℕ
moved_up w v = sift_from w v (place_of w v)

unfoldable pub bump : List ℕ → ℕ → List ℕ
bump w v = moved_up (kept_small (raised w v) v) v

-- the increment grows with each conflict
abbrev pub grown : List ℕ → List ℕ
grown w = with_increment w (increment w + increment w / 20)

-- AT THE START: the first increment, and n variables in the heap
abbrev pub first_increment : List ℕ → List ℕ
first_increment w = pick (increment w == 0) (with_increment w 1073741824) w

abbrev pub all_inserted : ℕ → List ℕ → List ℕ
all_inserted n w = for_each heap_insert n w

abbrev pub with_vars : ℕ → List ℕ → List ℕ
with_vars n w = all_inserted n (first_increment w)
