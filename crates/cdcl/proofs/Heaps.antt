-- A variable's way through the heap: what one turn of the loop makes of the turns that are left, and what is left at its end.
use Rattle.std.proofs.Common.{◌≡◌, ℕ, zero, suc, ◌+◌, ◌-◌, ◌<◌, ◌≤◌, List, Option, refl, ap, arith}
use Rattle.cdcl.specs.Vsids.{put_node, sift_by, sift}

module _ (f : List ℕ → ℕ → ℕ → Option ℕ) (w : List ℕ) (i v : ℕ) where
  sift_suc : (n m : ℕ) → n ≡ m + 1 → sift f n w i v ≡ sift_by w i v (f w i v) (λ x j. sift f m x j v)
  unfolding sift
  sift_suc zero m e = absurd (omega arith)
  sift_suc (suc n) m e =
      let same : n ≡ m = omega arith in
      ap (λ (k : ℕ). sift_by w i v (f w i v) (λ x j. sift f k x j v)) same

  pub sift_turn : (most t : ℕ) → t < most → sift f (most - t) w i v ≡ sift_by w i v (f w i v) (λ x j. sift f (most - (t + 1)) x j v)
  sift_turn most t l = sift_suc (most - t) (most - (t + 1)) (omega arith)

  pub sift_end : (n : ℕ) → n ≤ 0 → sift f n w i v ≡ put_node w i v
  unfolding sift
  sift_end zero l = refl
  sift_end (suc n) l = absurd (omega arith)

pub ruleset sifting = (sift_turn, sift_end)
