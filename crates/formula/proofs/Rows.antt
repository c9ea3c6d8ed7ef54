-- Tests, and what stands in a list: `In`, and what `every`, `any`, `those`, `each` and `has` say of it.
use Rattle.std.proofs.Common.{◌≡◌, ℕ, Bool, true, false, eqb, ◌⊎◌, List, [], ◌∷◌, ◌++◌, sym, refl, ap, ◌∙◌, subst, inl, inr, true≢false, arith}
use mathlib.Core.Bool.{false≢true}
use Rattle.std.proofs.lemmas.Bool.{eqb-true, eq-eqb, and_cases, false_from_ne_true}
use Rattle.std.specs.List.{list_any, list_all}
use Rattle.formula.specs.Logic.{or, every, any, those, each, has}

-- TESTS
pub clash : {A : Type 0} (b : Bool) → b ≡ true → b ≡ false → A
clash b p q = absurd (true≢false (sym p ∙ q))

pub or_left : (a b : Bool) → a ≡ true → or a b ≡ true
or_left a b e = grind arith

pub or_right : (a b : Bool) → b ≡ true → or a b ≡ true
or_right a b e = grind arith

pub or_cases : (a b : Bool) → or a b ≡ true → (a ≡ true) ⊎ (b ≡ true)
or_cases true b e = inl refl
or_cases false b e = inr e

pub or_parts : (a b : Bool) → or a b ≡ false → (a ≡ false) × (b ≡ false)
or_parts a b e = grind arith

-- STANDING IN A LIST
abbrev pub In : {A : Type 0} → A → List A → Type 0
In x [] = ⊥
In x (y ∷ ys) = (x ≡ y) ⊎ In x ys

abbrev pub Sub : {A : Type 0} → List A → List A → Type 0
Sub {A} xs ys = (x : A) → In x xs → In x ys

pub in_left : {A : Type 0} (x : A) (xs ys : List A) → In x xs → In x (xs ++ ys)
in_left x [] ys i = absurd i
in_left x (y ∷ xs) ys (inl e) = inl e
in_left x (y ∷ xs) ys (inr i) = inr (in_left x xs ys i)

pub in_right : {A : Type 0} (x : A) (xs ys : List A) → In x ys → In x (xs ++ ys)
in_right x [] ys i = i
in_right x (y ∷ xs) ys i = inr (in_right x xs ys i)

pub in_cases : {A : Type 0} (x : A) (xs ys : List A) → In x (xs ++ ys) → In x xs ⊎ In x ys
in_cases x [] ys i = inr i
in_cases x (y ∷ xs) ys (inl e) = inl (inl e)
in_cases x (y ∷ xs) ys (inr i) = elim (in_cases x xs ys i) [ inl j ↦ inl (inr j) | inr j ↦ inr j ]

pub in_each : {A B : Type 0} (f : A → B) (x : A) (xs : List A) → In x xs → In (f x) (each f xs)
unfolding each
in_each f x [] i = absurd i
in_each f x (y ∷ xs) (inl e) = inl (ap f e)
in_each f x (y ∷ xs) (inr i) = inr (in_each f x xs i)

pub each_in : {A B : Type 0} (f : A → B) (y : B) (xs : List A) → In y (each f xs) → (x : A) × In x xs × (y ≡ f x)
unfolding each
each_in f y [] i = absurd i
each_in f y (x ∷ xs) (inl e) = (x, inl refl, e)
each_in f y (x ∷ xs) (inr i) = let r = each_in f y xs i in (r.0, inr r.1, r.2)

-- EVERY AND ANY
pub every_at : {A : Type 0} (f : A → Bool) (x : A) (xs : List A) → every f xs ≡ true → In x xs → f x ≡ true
unfolding every
every_at f x [] e i = absurd i
every_at f x (y ∷ xs) e (inl p) = grind arith
every_at f x (y ∷ xs) e (inr i) = every_at f x xs (grind arith) i

pub every_of : {A : Type 0} (f : A → Bool) (xs : List A) → ((x : A) → In x xs → f x ≡ true) → every f xs ≡ true
unfolding every
every_of f [] h = refl
every_of f (y ∷ xs) h = let ih = every_of f xs (λ x i. h x (inr i)) in grind arith

pub every_not : {A : Type 0} (f : A → Bool) (xs : List A) → every f xs ≡ false → (x : A) × In x xs × (f x ≡ false)
unfolding every
every_not f [] e = absurd (true≢false e)
every_not f (y ∷ xs) e = elim (and_cases (f y) (every f xs) e) [ inl p ↦ (y, inl refl, p) | inr q ↦ (let r = every_not f xs q in (r.0, inr r.1, r.2)) ]

pub any_at : {A : Type 0} (f : A → Bool) (xs : List A) → any f xs ≡ true → (x : A) × In x xs × (f x ≡ true)
unfolding any
any_at f [] e = absurd (false≢true e)
any_at f (y ∷ xs) e = elim (or_cases (f y) (any f xs) e) [ inl p ↦ (y, inl refl, p) | inr q ↦ (let r = any_at f xs q in (r.0, inr r.1, r.2)) ]

pub any_of : {A : Type 0} (f : A → Bool) (x : A) (xs : List A) → In x xs → f x ≡ true → any f xs ≡ true
unfolding any
any_of f x [] i e = absurd i
any_of f x (y ∷ xs) (inl p) e = grind arith
any_of f x (y ∷ xs) (inr i) e = let ih = any_of f x xs i e in grind arith

pub any_none : {A : Type 0} (f : A → Bool) (x : A) (xs : List A) → any f xs ≡ false → In x xs → f x ≡ false
any_none f x xs e i = let h = any_of f x xs i in grind arith

pub none_any : {A : Type 0} (f : A → Bool) (xs : List A) → ((x : A) → In x xs → f x ≡ false) → any f xs ≡ false
none_any f xs h = false_from_ne_true (any f xs) (λ e. let r = any_at f xs e in clash (f r.0) r.2 (h r.0 r.1))

-- THOSE
pub in_those : {A : Type 0} (f : A → Bool) (x : A) (xs : List A) → In x xs → f x ≡ true → In x (those f xs)
unfolding those
in_those f x [] i e = absurd i
in_those f x (y ∷ xs) (inl p) e = grind arith
in_those f x (y ∷ xs) (inr i) e = let ih = in_those f x xs i e in grind arith

pub those_in : {A : Type 0} (f : A → Bool) (x : A) (xs : List A) → In x (those f xs) → In x xs × (f x ≡ true)
unfolding those
those_in f x [] i = absurd i
those_in f x (y ∷ xs) i = let ih = those_in f x xs in grind arith

-- HAS
pub has_in : (k : ℕ) (ks : List ℕ) → has ks k ≡ true → In k ks
has_in k ks e = let r = any_at (eqb k) ks e in subst (λ x. In x ks) (sym (eqb-true k r.0 r.2)) r.1

pub in_has : (k : ℕ) (ks : List ℕ) → In k ks → has ks k ≡ true
in_has k ks i = any_of (eqb k) k ks i (eq-eqb k k refl)

pub has_not : (k : ℕ) (ks : List ℕ) → has ks k ≡ false → In k ks → ⊥
has_not k ks e i = clash (has ks k) (in_has k ks i) e

pub not_has : (k : ℕ) (ks : List ℕ) → (In k ks → ⊥) → has ks k ≡ false
not_has k ks h = false_from_ne_true (has ks k) (λ e. h (has_in k ks e))

-- IN STD'S WORDS
pub any_is_list_any : {A : Type 0} (f : A → Bool) (xs : List A) → list_any f xs ≡ any f xs
unfolding any
any_is_list_any f [] = refl
any_is_list_any f (x ∷ xs) = let ih = any_is_list_any f xs in grind arith

pub every_is_list_all : {A : Type 0} (f : A → Bool) (xs : List A) → list_all f xs ≡ every f xs
unfolding every
every_is_list_all f [] = refl
every_is_list_all f (x ∷ xs) = let ih = every_is_list_all f xs in grind arith

pub has_is_contains : (k : ℕ) (xs : List ℕ) → list_any (λ x. eqb x k) xs ≡ has xs k
unfolding any
has_is_contains k [] = refl
has_is_contains k (x ∷ xs) = let ih = has_is_contains k xs in grind arith
