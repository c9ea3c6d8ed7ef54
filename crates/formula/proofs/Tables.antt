-- Parts of a table and rows written into one: what the code's clamped bounds come to.
-- Each lemma is an equation between what the code leaves and `take`, `drop` or `sets`.
use Rattle.std.proofs.Common.{◌≡◌, ℕ, suc, ◌+◌, ◌-◌, ◌<◌, zero, ◌≤◌, min, List, [], ◌∷◌, ◌++◌, length, take, drop, set, sym, refl, ap, ◌∙◌, inl, inr, append_assoc, arith}
use lib.Seq.{sets, sets-eq}
use Rattle.std.proofs.lemmas.Bool.{cases_lt}
use Rattle.std.proofs.lemmas.List.{set_past, length-set, length-take, drop-drop}
use borrow.Rule.Slice.PartMut.{put_mid}

pub sets_past : (xs t : List ℕ) (i : ℕ) → length t ≤ i → sets t i xs ≡ t
sets_past [] t i h = refl
sets_past (x ∷ xs) t i h = let e = set_past t i x h in ap (λ (u : List ℕ). sets u (suc i) xs) e ∙ sets_past xs t (suc i) (omega arith)

pub sets_from : (t row : List ℕ) (start p : ℕ) → p ≡ min start (length t) → sets t p row ≡ sets t start row
sets_from t row start p e = elim (cases_lt start (length t)) [
  | inl h ↦ ap (λ k. sets t k row) (omega arith)
  | inr h ↦ sets_past row t p (omega arith) ∙ sym (sets_past row t start (omega arith))
]

-- what doesn't fit may be cut off
pub sets_fit : (row t : List ℕ) (i n : ℕ) → n ≡ min (length row) (length t - i) → sets t i (take n row) ≡ sets t i row
sets_fit [] t i zero h = refl
sets_fit [] t i (suc n) h = refl
sets_fit (x ∷ row) t i zero h = sym (sets_past (x ∷ row) t i (omega arith))
sets_fit (x ∷ row) t i (suc n) h = let e = length-set t i x in sets_fit row (set t i x) (suc i) n (omega arith)

-- a copy of as much of a row as fits
pub copied : (t row ys : List ℕ) (start p n k : ℕ) → p ≡ min (length t) start → n ≡ min (length row) (length t - p) → ys ≡ take n row → k ≡ n → put_mid p k t ys ≡ sets t start row
copied t row ys start p n k hp hn hy hk =
    let m = length-take n row in
    let cut : ys ++ drop k (drop p t) ≡ take n row ++ drop (p + length (take n row)) t
    = (λ i. hy i ++ drop-drop k p t i) ∙ ap (λ j. take n row ++ drop j t) (omega arith) in
    ap (λ l. take p t ++ l) cut ∙ (sym (append_assoc (take p t) (take n row) _) ∙ (sym (sets-eq (take n row) t p (omega arith)) ∙ (sets_fit row t p n hn ∙ sets_from t row start p (omega arith))))

-- a clause is stored as its length and its literals
pub stored : (t row : List ℕ) (start next n : ℕ) → next ≡ min (start + 1) 18446744073709551615 → length t < 18446744073709551616 →
    sets (set t start n) next row ≡ sets t start (n ∷ row)
stored t row start next n e h = elim (cases_lt start (length t)) [
  | inl l ↦ ap (λ k. sets (set t start n) k row) (omega arith)
  | inr l ↦ (let p = set_past t start n l in
      ap (λ (u : List ℕ). sets u next row) p ∙ (sets_past row t next (omega arith) ∙ sym (ap (λ (u : List ℕ). sets u (suc start) row) p ∙ sets_past row t (suc start) (omega arith))))
]
