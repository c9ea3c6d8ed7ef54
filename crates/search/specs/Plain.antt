-- Plain search: variables in order, false first, back one level at a time. A turn is a look at the formula under the values
-- so far, and then one small change of the table `work`. Definitions only, total on any table.
use Rattle.std.specs.Prelude.{ℕ, zero, suc, ◌+◌, ◌-◌, ◌*◌, ◌/◌, ◌%◌, min, Bool, not, ◌&&◌, List, [], ◌∷◌, ◌==◌, nat_lt, slice_index, slice_set}
use Rattle.formula.specs.Logic.{pick, every, any, Clause}
use Rattle.search.specs.declared.plain.Finding.{Finding}
use Rattle.search.specs.declared.plain.Finding.TheVariants.{Exhausted, Back, Conflict, Failed, Open, Full}

-- THE TABLE: cell 0 has the depth, so many variables have a value; cell 1 is 1 while going back; the values stand from cell 256 on, 1 for false
abbrev pub depth_of : List ℕ → ℕ
depth_of w = min (slice_index w 0) 16384

abbrev pub goes_back : List ℕ → Bool
goes_back w = slice_index w 1 == 1

abbrev pub value_of : List ℕ → ℕ → ℕ
value_of w v = slice_index w (256 + v)

-- no variable has a value
abbrev pub fresh : List ℕ → List ℕ
fresh w = slice_set (slice_set w 0 0) 1 0

-- UNDER THE VALUES of the variables below d
unfoldable pub lit_false : ℕ → List ℕ → ℕ → Bool
lit_false d w l = nat_lt (l / 2) d && pick (l % 2 == 0) (value_of w (l / 2) == 1) (not (value_of w (l / 2) == 1))

unfoldable pub some_false : ℕ → List ℕ → List Clause → Bool
some_false d w cs = any (λ c. every (lit_false d w) c) cs

-- the first assumption that is false, by its place; with none, the finding f
unfoldable pub first_failed : ℕ → List ℕ → ℕ → List ℕ → Finding → Finding
first_failed d w i [] f = f
first_failed d w i (l ∷ ls) f = pick (lit_false d w l) (Failed i) (first_failed d w (suc i) ls f)

-- A LOOK at clauses and assumptions over n variables: what there is to do
unfoldable pub look : List Clause → List ℕ → ℕ → List ℕ → Finding
look cs as₁ n w =
    pick (goes_back w) (pick (depth_of w == 0) Exhausted Back)
    (pick (some_false (depth_of w) w cs) Conflict (first_failed (depth_of w) w 0 as₁ (pick (nat_lt (depth_of w) n) Open Full)))

-- what is done about it: from false to true or one level up; the way back begins; one level deeper
unfoldable pub act : List ℕ → Finding → List ℕ
act w Exhausted = w
act w Back =
    pick (value_of w (depth_of w - 1) == 1) (slice_set (slice_set w (256 + (depth_of w - 1)) 2) 1 0) (slice_set w 0 (depth_of w - 1))
act w Conflict = slice_set w 1 1
act w (Failed i) = slice_set w 1 1
act w Open = slice_set (slice_set w (256 + depth_of w) 1) 0 (depth_of w + 1)
act w Full = w

-- THE CORE: marks by the assumptions' places, 1 for one that was false where a branch ended
unfoldable pub mark : List ℕ → Finding → List ℕ
mark ks Exhausted = ks
mark ks Back = ks
mark ks Conflict = ks
mark ks (Failed i) = slice_set ks i 1
mark ks Open = ks
mark ks Full = ks

unfoldable pub marked : List ℕ → List ℕ → List ℕ
marked [] as₁ = []
marked (k ∷ ks) [] = []
marked (k ∷ ks) (a ∷ as₁) = pick (k == 1) (a ∷ marked ks as₁) (marked ks as₁)

-- THE MODEL: a literal for each of k variables from v on
unfoldable pub model_lit : List ℕ → ℕ → ℕ
model_lit w v = pick (value_of w v == 1) (2 * v + 1) (2 * v)

unfoldable pub model_row : List ℕ → ℕ → ℕ → List ℕ
model_row w v zero = []
model_row w v (suc k) = model_lit w v ∷ model_row w (suc v) k
