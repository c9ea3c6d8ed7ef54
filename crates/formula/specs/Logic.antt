-- Literals, clauses, what is true of them, and proofs by unit propagation.
-- Definitions only: everything promised elsewhere is said in these words.
use Rattle.std.specs.Prelude.{◌≡◌, ℕ, zero, suc, ◌+◌, ◌-◌, ◌*◌, ◌/◌, ◌%◌, Bool, true, false, not, ◌&&◌, List, [], ◌∷◌, ◌++◌, length, take, ◌==◌, nat_eq}

abbrev pub pick : {A : Type 0} → Bool → A → A → A
pick true a b = a
pick false a b = b

abbrev pub or : Bool → Bool → Bool
or true b = true
or false b = b

unfoldable pub every : {A : Type 0} → (A → Bool) → List A → Bool
every f [] = true
every f (x ∷ xs) = f x && every f xs

unfoldable pub any : {A : Type 0} → (A → Bool) → List A → Bool
any f [] = false
any f (x ∷ xs) = or (f x) (any f xs)

unfoldable pub those : {A : Type 0} → (A → Bool) → List A → List A
those f [] = []
those f (x ∷ xs) = pick (f x) (x ∷ those f xs) (those f xs)

unfoldable pub each : {A B : Type 0} → (A → B) → List A → List B
each f [] = []
each f (x ∷ xs) = f x ∷ each f xs

unfoldable pub none_of : {A : Type 0} → List A → Bool
none_of [] = true
none_of (x ∷ xs) = false

-- a literal is twice its variable, and one more if it is negated
abbrev pub Clause : Type 0
Clause = List ℕ

abbrev pub var_of : ℕ → ℕ
var_of l = l / 2

abbrev pub other : ℕ → ℕ
other l = pick (l % 2 == 0) (suc l) (l - 1)

-- which variables are true
abbrev pub Truth : Type 0
Truth = ℕ → Bool

abbrev pub true_in : Truth → ℕ → Bool
true_in t l = pick (l % 2 == 0) (t (l / 2)) (not (t (l / 2)))

abbrev pub clause_true : Truth → Clause → Bool
clause_true t c = any (true_in t) c

abbrev pub all_true : Truth → List Clause → Bool
all_true t cs = every (clause_true t) cs

unfoldable pub CanBe : List Clause → Type 0
CanBe cs = (t : Truth) × (all_true t cs ≡ true)

unfoldable pub CannotBe : List Clause → Type 0
CannotBe cs = (t : Truth) → all_true t cs ≡ false

abbrev pub units : List ℕ → List Clause
units ls = each (λ l. l ∷ []) ls

-- a row of literals as truths: a variable is true if its plain literal stands there
abbrev pub has : List ℕ → ℕ → Bool
has ks k = any (nat_eq k) ks

abbrev pub truth_of : List ℕ → Truth
truth_of ls v = has ls (2 * v)

abbrev pub same_row : List ℕ → List ℕ → Bool
same_row as₁ bs = every (has bs) as₁ && every (has as₁) bs

-- UNIT PROPAGATION: literals taken to be true. A clause whose literals are all false is a conflict; one of which just one literal isn't, and none is true,
-- makes that true.
abbrev pub false_by : List ℕ → ℕ → Bool
false_by ts l = has ts (other l)

abbrev pub open_of : List ℕ → Clause → List ℕ
open_of ts c = those (λ l. not (false_by ts l)) c

abbrev pub conflict : List ℕ → List Clause → Bool
conflict ts cs = any (λ c. every (false_by ts) c) cs

unfoldable pub all_equal : List ℕ → Bool
all_equal [] = false
all_equal (l ∷ ls) = every (nat_eq l) ls

abbrev pub makes_unit : List ℕ → Clause → Bool
makes_unit ts c = not (any (has ts) c) && all_equal (open_of ts c)

unfoldable pub first_unit : List ℕ → List Clause → List ℕ
first_unit ts [] = []
first_unit ts (c ∷ cs) = pick (makes_unit ts c) (take 1 (open_of ts c)) (first_unit ts cs)

unfoldable pub refuted : ℕ → List Clause → List ℕ → Bool
refuted zero cs ts = conflict ts cs
refuted (suc n) cs ts = or (conflict ts cs) (pick (none_of (first_unit ts cs)) false (refuted n cs (first_unit ts cs ++ ts)))

unfoldable pub added_up : {A : Type 0} → (A → ℕ) → List A → ℕ
added_up f [] = 0
added_up f (x ∷ xs) = f x + added_up f xs

abbrev pub how_large : List Clause → ℕ
how_large cs = added_up length cs

-- a clause follows by propagation if it has a literal beside its other, or taking all its literals to be false leads to a conflict
abbrev pub by_propagation : List Clause → Clause → Bool
by_propagation cs c = or (any (λ l. has c (other l)) c) (refuted (suc (how_large cs)) cs (each other c))

-- STEPS OF A PROOF
pub data Step : Type 0 where
  adds : Clause → Step
  deletes : Clause → Step

-- the first clause with the same literals is left out; if there's none, nothing is
unfoldable pub without : Clause → List Clause → List Clause
without c [] = []
without c (d ∷ ds) = pick (same_row c d) ds (d ∷ without c ds)

unfoldable pub holds : List Clause → List Step → Bool
holds cs [] = true
holds cs (adds c ∷ ss) = by_propagation cs c && holds (c ∷ cs) ss
holds cs (deletes c ∷ ss) = holds (without c cs) ss

unfoldable pub has_empty : List Step → Bool
has_empty [] = false
has_empty (adds c ∷ ss) = or (none_of c) (has_empty ss)
has_empty (deletes c ∷ ss) = has_empty ss
