-- Small lemmas on `pick`, `every` and `larger`.
-- What holds of both cases holds of a `pick`; what holds of every entry is kept by cuts and writes; the bounds of `larger`.
use Rattle.std.proofs.Common.{◌≡◌, ℕ, zero, suc, ◌<◌, ◌≤◌, Bool, true, false, ltb, List, [], ◌∷◌, ◌++◌, get_or, take, drop, set, sym, refl, ⊎_elim, arith}
use lib.Seq.{sets}
use Rattle.std.proofs.lemmas.Bool.{ltb-true, lt-ltb, le-ltb, and_parts, and_from, cases_lt}
use borrow.Author.Tests.{clash}
use Rattle.formula.specs.Logic.{pick, every}
use Rattle.dimacs.specs.Text.{larger}

pub pick_both : {A : Type 0} (P : A → Type 0) (b : Bool) (x y : A) → (b ≡ true → P x) → (b ≡ false → P y) → P (pick b x y)
pick_both P true x y f g = f refl
pick_both P false x y f g = g refl

pub pick_yes : {A : Type 0} (b : Bool) (x y : A) → b ≡ true → pick b x y ≡ x
pick_yes true x y h = refl
pick_yes false x y h = absurd (clash h)

pub pick_no : {A : Type 0} (b : Bool) (x y : A) → b ≡ false → pick b x y ≡ y
pick_no true x y h = absurd (clash (sym h))
pick_no false x y h = refl

module _ {A : Type 0} (f : A → Bool) where
  pub every_append : (xs ys : List A) → every f xs ≡ true → every f ys ≡ true → every f (xs ++ ys) ≡ true
  unfolding every
  every_append [] ys p q = q
  every_append (x ∷ xs) ys p q = let r = and_parts (f x) (every f xs) p in and_from _ _ r.0 (every_append xs ys r.1 q)

  pub every_one : (x : A) → f x ≡ true → every f (x ∷ []) ≡ true
  unfolding every
  every_one x p = and_from _ _ p refl

  pub every_take : (n : ℕ) (xs : List A) → every f xs ≡ true → every f (take n xs) ≡ true
  unfolding every
  every_take zero xs p = refl
  every_take (suc n) [] p = refl
  every_take (suc n) (x ∷ xs) p = let r = and_parts (f x) (every f xs) p in and_from _ _ r.0 (every_take n xs r.1)

  pub every_drop : (n : ℕ) (xs : List A) → every f xs ≡ true → every f (drop n xs) ≡ true
  unfolding every
  every_drop zero xs p = p
  every_drop (suc n) [] p = refl
  every_drop (suc n) (x ∷ xs) p = every_drop n xs (and_parts (f x) (every f xs) p).1

  pub every_set : (xs : List A) (i : ℕ) (a : A) → f a ≡ true → every f xs ≡ true → every f (set xs i a) ≡ true
  unfolding every
  every_set [] i a h p = refl
  every_set (x ∷ xs) zero a h p = and_from _ _ h (and_parts (f x) (every f xs) p).1
  every_set (x ∷ xs) (suc i) a h p = let r = and_parts (f x) (every f xs) p in and_from _ _ r.0 (every_set xs i a h r.1)

  pub every_sets : (vs xs : List A) (i : ℕ) → every f vs ≡ true → every f xs ≡ true → every f (sets xs i vs) ≡ true
  unfolding every
  every_sets [] xs i h p = p
  every_sets (v ∷ vs) xs i h p = let r = and_parts (f v) (every f vs) h in every_sets vs (set xs i v) (suc i) r.1 (every_set xs i v r.0 p)

  pub every_getD : (xs : List A) (i : ℕ) (d : A) → f d ≡ true → every f xs ≡ true → f (get_or xs i d) ≡ true
  unfolding every
  every_getD [] i d h p = h
  every_getD (x ∷ xs) zero d h p = (and_parts (f x) (every f xs) p).0
  every_getD (x ∷ xs) (suc i) d h p = every_getD xs i d h (and_parts (f x) (every f xs) p).1

  pub every_imp : (g : A → Bool) → ((x : A) → f x ≡ true → g x ≡ true) → (xs : List A) → every f xs ≡ true → every g xs ≡ true
  unfolding every
  every_imp g w [] p = refl
  every_imp g w (x ∷ xs) p = let r = and_parts (f x) (every f xs) p in and_from _ _ (w x r.0) (every_imp g w xs r.1)

-- below 2^64
abbrev pub few : ℕ → Bool
few m = ltb m 18446744073709551616

pub larger_left : (a b : ℕ) → a ≤ larger a b
larger_left a b = pick_both (λ x. a ≤ x) (ltb a b) b a (λ h. omega (arith, ltb-true a b h)) (λ h. omega arith)

pub larger_right : (a b : ℕ) → b ≤ larger a b
larger_right a b = ⊎_elim (λ (h : a < b). rw (lt-ltb a b h) (omega arith)) (λ (h : b ≤ a). rw (le-ltb a b h) h) (cases_lt a b)

pub larger_in : (a b n : ℕ) → a ≤ n → b ≤ n → larger a b ≤ n
larger_in a b n p q = pick_both (λ x. x ≤ n) (ltb a b) b a (λ h. q) (λ h. p)
