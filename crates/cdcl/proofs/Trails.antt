-- The trail cut, and walked back over from a conflict: what one turn of a loop makes of the turns that are left, and what is left at its end.
use Rattle.std.proofs.Common.{◌≡◌, ℕ, zero, suc, ◌+◌, ◌-◌, ◌<◌, ◌≤◌, leb, List, refl, ap, ◌∙◌, arith}
use Rattle.std.proofs.lemmas.Bool.{le-leb, lt-leb}
use Rattle.formula.specs.Logic.{pick}
use Rattle.cdcl.specs.declared.analyze_conflict.Until.{Until}
use Rattle.cdcl.specs.Assignment.{lit_level, trail_lit, popped, is_above, cut}
use Rattle.cdcl.specs.Analysis.{resolve, walk_back}

module _ (w : List ℕ) (b : ℕ) where
  cut_suc : (n m : ℕ) → n ≡ m + 1 → cut n w b ≡ pick (is_above w b) (cut m (popped w) b) w
  unfolding cut
  cut_suc zero m e = absurd (omega arith)
  cut_suc (suc n) m e =
      let same : n ≡ m = omega arith in
      ap (λ (j : ℕ). pick (is_above w b) (cut j (popped w) b) w) same

  pub cut_turn : (size i : ℕ) → i < size → cut (size - i) w b ≡ pick (is_above w b) (cut (size - (i + 1)) (popped w) b) w
  cut_turn size i l = cut_suc (size - i) (size - (i + 1)) (omega arith)

  pub cut_end : (n : ℕ) → n ≤ 0 → cut n w b ≡ w
  unfolding cut
  cut_end zero l = refl
  cut_end (suc n) l = absurd (omega arith)

pub ruleset cutting = (cut_turn, cut_end)

module _ (d : ℕ) (u : Until) (w : List ℕ) where
  walk_back_suc : (n m : ℕ) → n ≡ m + 1 → walk_back n d u w ≡ pick (leb d (lit_level w (trail_lit w m))) (walk_back m d u (resolve d u w (trail_lit w m))) w
  unfolding walk_back
  walk_back_suc zero m e = absurd (omega arith)
  walk_back_suc (suc n) m e =
      let same : n ≡ m = omega arith in
      ap (λ (j : ℕ). pick (leb d (lit_level w (trail_lit w j))) (walk_back j d u (resolve d u w (trail_lit w j))) w) same

  pub walk_back_more : (n : ℕ) → 0 < n → d ≤ lit_level w (trail_lit w (n - 1)) → walk_back (n - 1) d u (resolve d u w (trail_lit w (n - 1))) ≡ walk_back n d u w
  walk_back_more n pos high =
      let s = walk_back_suc n (n - 1) (omega arith) in
      let h = le-leb d (lit_level w (trail_lit w (n - 1))) high in
      rw (s, h)

  pub walk_back_stays : (n : ℕ) → 0 < n → lit_level w (trail_lit w (n - 1)) < d → walk_back n d u w ≡ w
  walk_back_stays n pos low =
      let h = lt-leb d (lit_level w (trail_lit w (n - 1))) low in
      walk_back_suc n (n - 1) (omega arith) ∙ rw h

  pub walk_back_end : (n : ℕ) → n ≤ 0 → walk_back n d u w ≡ w
  unfolding walk_back
  walk_back_end zero l = refl
  walk_back_end (suc n) l = absurd (omega arith)

pub ruleset walking_back = (walk_back_more, walk_back_stays, walk_back_end)
