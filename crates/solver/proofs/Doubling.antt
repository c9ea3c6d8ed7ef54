-- The reluctant doubling sequence goes by blocks: one with largest term h has 2h - 1 terms, two blocks of half that
-- and then h itself. So a term is found by halving, in as many turns as its block has halves.
use Rattle.std.proofs.Common.{◌≡◌, ℕ, zero, suc, ◌+◌, ◌-◌, ◌*◌, ◌/◌, ◌%◌, ◌<◌, ◌≤◌, Bool, sym, refl, ap, ◌∙◌, inl, inr, add-one, arith}
use Rattle.std.proofs.lemmas.Bool.{eq-eqb, ne_eqb, cases_lt}
use Rattle.formula.specs.Logic.{pick}
use Rattle.solver.specs.Entry.{goes_into, term}

-- b doubled k times
unfoldable pub doubled : ℕ → ℕ → ℕ
doubled zero b = b
doubled (suc k) b = 2 * doubled k b

pub doubled_add : (k a b : ℕ) → doubled k (a + b) ≡ doubled k a + doubled k b
unfolding doubled
doubled_add zero a b = refl
doubled_add (suc k) a b = omega (arith, doubled_add k a b)

pub doubled_twice : (k a : ℕ) → doubled k (2 * a) ≡ 2 * doubled k a
unfolding doubled
doubled_twice zero a = refl
doubled_twice (suc k) a = omega (arith, doubled_twice k a)

pub doubled_positive : (k b : ℕ) → 1 ≤ b → 1 ≤ doubled k b
unfolding doubled
doubled_positive zero b h = h
doubled_positive (suc k) b h = omega (arith, doubled_positive k b h)

-- THE LARGEST POWER OF TWO in a number
goes_positive : (f u : ℕ) → 1 ≤ goes_into f u
unfolding goes_into
goes_positive zero u = omega arith
goes_positive (suc f) u = let ih = goes_positive f (u / 2) in grind arith

goes_doubled : (k f n b : ℕ) → n ≡ k + f → goes_into n (doubled k b) ≡ doubled k (goes_into f b)
unfolding goes_into doubled
goes_doubled zero f n b h = let e : n ≡ f = omega arith in ap (λ (x : ℕ). goes_into x b) e
goes_doubled (suc k) f zero b h = absurd (omega arith)
goes_doubled (suc k) f (suc n) b h =
    let even : (2 * doubled k b) % 2 ≡ 0 = omega arith in
    let half : (2 * doubled k b) / 2 ≡ doubled k b = omega arith in
    rw (even, half) (ap (λ (x : ℕ). 2 * x) (goes_doubled k f n b (omega arith)))

goes_odd : (k a : ℕ) → k ≤ 20 → goes_into 64 (doubled k (2 * a + 1)) ≡ doubled k 1
unfolding goes_into
goes_odd k a h =
    let odd : (2 * a + 1) % 2 ≡ 1 = omega arith in
    let one : goes_into (suc (63 - k)) (2 * a + 1) ≡ 1 = rw odd refl in
    goes_doubled k (suc (63 - k)) 64 (2 * a + 1) (omega arith) ∙ ap (doubled k) one

goes_even : (k a : ℕ) → k ≤ 20 → goes_into 64 (doubled (suc k) (a + 1)) ≡ doubled k 1 → ⊥
unfolding doubled
goes_even k a h e =
    let g = goes_doubled (suc k) (63 - k) 64 (a + 1) (omega arith) in
    let p = goes_positive (63 - k) (a + 1) in
    let q = doubled_positive k 1 (omega arith) in
    let c : goes_into (63 - k) (a + 1) ≡ 1 + (goes_into (63 - k) (a + 1) - 1) = omega arith in
    let d = ap (doubled k) c ∙ doubled_add k 1 (goes_into (63 - k) (a + 1) - 1) in
    omega arith

-- ONE TERM ON
term_ends : (n u v : ℕ) → goes_into 64 u ≡ v → term (suc n) u v ≡ term n (suc u) 1
unfolding term
term_ends n u v e = ap (λ (b : Bool). pick b (term n (suc u) 1) (term n u (2 * v))) (eq-eqb (goes_into 64 u) v e)

term_doubles : (n u v : ℕ) → (goes_into 64 u ≡ v → ⊥) → term (suc n) u v ≡ term n u (2 * v)
unfolding term
term_doubles n u v e = ap (λ (b : Bool). pick b (term n (suc u) 1) (term n u (2 * v))) (ne_eqb (goes_into 64 u) v e)

-- BLOCKS. From a block's first term to its last, which is its largest
pub block_end : (k a m n : ℕ) → k ≤ 20 → n + 2 ≡ 2 * doubled k 1 + m → term n (doubled k a + 1) 1 ≡ term m (doubled k (a + 1)) (doubled k 1)
unfolding doubled
block_end zero a m n h e = let q : n ≡ m = omega arith in ap (λ (x : ℕ). term x (a + 1) 1) q
block_end (suc k) a m n h e =
    ap (λ (x : ℕ). term n (x + 1) 1) (sym (doubled_twice k a))
    ∙ (block_end k (2 * a) (suc m₂) n (omega arith) (omega (arith, m₂_is))
    ∙ (term_ends m₂ (doubled k (2 * a + 1)) (doubled k 1) (goes_odd k a (omega arith))
    ∙ (ap (λ (x : ℕ). term m₂ x 1) (sym (add-one (doubled k (2 * a + 1))))
    ∙ (block_end k (2 * a + 1) (suc m) m₂ (omega arith) (omega (arith, m₂_is))
    ∙ (ap (λ (x : ℕ). term (suc m) x (doubled k 1)) last
    ∙ term_doubles m (2 * doubled k (a + 1)) (doubled k 1) (goes_even k a (omega arith)))))))
  where
    m₂ : ℕ
    m₂ = 2 * doubled k 1 + m - 1

    m₂_is : m₂ + 1 ≡ 2 * doubled k 1 + m
    m₂_is = omega (arith, doubled_positive k 1 (omega arith))

    last : doubled k (2 * a + 1 + 1) ≡ 2 * doubled k (a + 1)
    last = let s : 2 * a + 1 + 1 ≡ 2 * (a + 1) = omega arith in ap (doubled k) s ∙ doubled_twice k (a + 1)

-- past the first half the second begins, as a block of its own
pub second_half : (k a m n : ℕ) → k ≤ 20 → n + 1 ≡ 2 * doubled k 1 + m → term n (doubled k (2 * a) + 1) 1 ≡ term m (doubled k (2 * a + 1) + 1) 1
second_half k a m n h e =
    block_end k (2 * a) (suc m) n h (omega arith)
    ∙ (term_ends m (doubled k (2 * a + 1)) (doubled k 1) (goes_odd k a h) ∙ ap (λ (x : ℕ). term m x 1) (sym (add-one (doubled k (2 * a + 1)))))

-- blocks of one size are alike
pub block_same : (k a b n : ℕ) → k ≤ 20 → n + 1 < 2 * doubled k 1 → term n (doubled k a + 1) 1 ≡ term n (doubled k b + 1) 1
unfolding doubled term
block_same zero a b zero h l = refl
block_same zero a b (suc n) h l = absurd (omega arith)
block_same (suc k) a b n h l = elim (cases_lt (n + 1) (2 * doubled k 1)) [
  | inl f ↦ rw (sym (doubled_twice k a), sym (doubled_twice k b)) (block_same k (2 * a) (2 * b) n (omega arith) f)
  | inr f ↦ elim (cases_lt (n + 2) (4 * doubled k 1)) [
    | inl g ↦ rw (sym (doubled_twice k a), sym (doubled_twice k b)) (in_second (n + 1 - 2 * doubled k 1) (omega arith) (block_same k (2 * a + 1) (2 * b + 1) (n + 1 - 2 * doubled k 1) (omega arith) (omega arith)))
    | inr g ↦ block_end (suc k) a 0 n h (omega arith) ∙ sym (block_end (suc k) b 0 n h (omega arith))
  ]
]
  where
    in_second : (m : ℕ) → n + 1 ≡ 2 * doubled k 1 + m → term m (doubled k (2 * a + 1) + 1) 1 ≡ term m (doubled k (2 * b + 1) + 1) 1 →
        term n (doubled k (2 * a) + 1) 1 ≡ term n (doubled k (2 * b) + 1) 1
    in_second m e f = second_half k a m n (omega arith) e ∙ (f ∙ sym (second_half k b m n (omega arith) e))

doubled_none : (k : ℕ) → doubled k 0 ≡ 0
unfolding doubled
doubled_none zero = refl
doubled_none (suc k) = omega (arith, doubled_none k)

-- THE SEARCH for a term: where the turn stands in the first block of largest term h, the terms are the sought one's
pub record Within (n at largest : ℕ) : Type 0 where
  pub order : ℕ
  pub few : order ≤ 20
  pub small : largest ≤ 1048576
  pub power : largest ≡ doubled order 1
  pub inside : at + 1 < 2 * largest
  pub same : term at 1 1 ≡ term n 1 1

pub within_start : (n : ℕ) → n ≤ 1048576 → Within n n 1048576
unfolding doubled
within_start n h = record { order = 20; few = omega arith; small = omega arith; power = refl; inside = omega arith; same = refl }

-- from the sequence's start, seen as the start of a block
from_start : (k n : ℕ) → term n (doubled k 0 + 1) 1 ≡ term n 1 1
from_start k n = ap (λ (x : ℕ). term n (x + 1) 1) (doubled_none k)

pub within_last : (n at largest : ℕ) → Within n at largest → at ≡ 2 * (largest - 1) → largest ≡ term n 1 1
unfolding term
within_last n at largest w e =
    let k = w.order in
    let p = w.power in
    let q = doubled_positive k 1 (omega arith) in
    p ∙ (sym (block_end k 0 0 at w.few (omega arith)) ∙ (from_start k at ∙ w.same))

-- a smaller block: the first half as it is, the second moved to the start
halved : (k largest : ℕ) → 1 < largest → largest ≡ doubled k 1 → (j : ℕ) × (k ≡ suc j) × (largest / 2 ≡ doubled j 1) × (largest ≡ 2 * doubled j 1)
unfolding doubled
halved zero largest h e = absurd (omega arith)
halved (suc j) largest h e = (j, refl, omega arith, e)

pub within_first : (n at largest : ℕ) → 1 < largest → Within n at largest → at < largest - 1 → Within n at (largest / 2)
within_first n at largest h w l =
    let j = halved w.order largest h w.power in
    let s = w.small in
    let f = w.few in
    record { order = j.0; few = omega arith; small = omega arith; power = j.2; inside = omega arith; same = w.same }

pub within_second : (n at largest : ℕ) → 1 < largest → Within n at largest → (at ≡ 2 * (largest - 1) → ⊥) → largest - 1 ≤ at → Within n (at - (largest - 1)) (largest / 2)
within_second n at largest h w e l =
    let j = halved w.order largest h w.power in
    let s = w.small in
    let f = w.few in
    let i = w.inside in
    record {
      order = j.0;
      few = omega arith;
      small = omega arith;
      power = j.2;
      inside = omega arith;
      same =
          sym (from_start j.0 (at - (largest - 1)))
          ∙ (block_same j.0 0 1 (at - (largest - 1)) (omega arith) (omega arith)
          ∙ (sym (second_half j.0 0 (at - (largest - 1)) at (omega arith) (omega arith)) ∙ (from_start j.0 at ∙ w.same)));
    }

pub within_one : (n at largest : ℕ) → Within n at largest → largest ≤ 1 → 1 ≡ term n 1 1
unfolding term
within_one n at largest w h =
    let q = doubled_positive w.order 1 (omega arith) in
    let p = w.power in
    let i = w.inside in
    let z : at ≡ 0 = omega arith in
    ap (λ (x : ℕ). term x 1 1) (sym z) ∙ w.same
