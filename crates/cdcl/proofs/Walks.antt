-- Lists and the trail walked over: what one turn of a loop makes of the turns that are left, and what is left at its end.
use Rattle.std.proofs.Common.{◌≡◌, ℕ, zero, suc, ◌+◌, ◌-◌, ◌<◌, ◌≤◌, List, Ok, Err, refl, ap, ◌∙◌, arith}
use Rattle.std.proofs.lemmas.Bool.{lt-ltb, le-ltb}
use Rattle.cdcl.specs.declared.propagate.Conflict.{Conflict}
use Rattle.cdcl.specs.Work.{outcome}
use Rattle.cdcl.specs.Assignment.{size_of, queue_of}
use Rattle.cdcl.specs.Watch.{slot_at, and_then, walk_by, walk, look, propagated}

module _ (w : List ℕ) (p : ℕ) where
  walk_suc : (n m : ℕ) → n ≡ m + 1 → walk n w p ≡ walk_by w p (slot_at w p) (walk m)
  unfolding walk
  walk_suc zero m e = absurd (omega arith)
  walk_suc (suc n) m e =
      let same : n ≡ m = omega arith in
      ap (λ (j : ℕ). walk_by w p (slot_at w p) (walk j)) same

  pub walk_turn : (most i : ℕ) → i < most → walk (most - i) w p ≡ walk_by w p (slot_at w p) (walk (most - (i + 1)))
  walk_turn most i l = walk_suc (most - i) (most - (i + 1)) (omega arith)

  pub walk_end : (n : ℕ) → n ≤ 0 → walk n w p ≡ outcome w (Ok tt)
  unfolding walk
  walk_end zero l = refl
  walk_end (suc n) l = absurd (omega arith)

pub ruleset walking = (walk_turn, walk_end)

module _ (w : List ℕ) where
  pub propagated_done : (n : ℕ) → size_of w ≤ queue_of w → propagated n w ≡ outcome w (Ok tt)
  unfolding propagated
  propagated_done zero l = refl
  propagated_done (suc n) l = rw (le-ltb (queue_of w) (size_of w) l)

  pub propagated_end : (n : ℕ) → n ≤ 0 → propagated n w ≡ outcome w (Ok tt)
  unfolding propagated
  propagated_end zero l = refl
  propagated_end (suc n) l = absurd (omega arith)

  module _ (left : queue_of w < size_of w) where
    propagated_suc : (n m : ℕ) → n ≡ m + 1 → propagated n w ≡ and_then (look w) (λ v _. propagated m v)
    unfolding propagated
    propagated_suc zero m e = absurd (omega arith)
    propagated_suc (suc n) m e =
        let same : n ≡ m = omega arith in
        rw (lt-ltb (queue_of w) (size_of w) left, same)

    module _ (most i : ℕ) (l : i < most) where
      pub propagated_clash : (c : Conflict) → (look w).answer ≡ Err c → propagated (most - i) w ≡ outcome (look w).after (Err c)
      propagated_clash c h = propagated_suc (most - i) (most - (i + 1)) (omega arith) ∙ rw h

      pub propagated_more : (look w).answer ≡ Ok tt → propagated (most - (i + 1)) (look w).after ≡ propagated (most - i) w
      propagated_more h = let e = propagated_suc (most - i) (most - (i + 1)) (omega arith) in rw (e, h)

pub ruleset propagating = (propagated_done, propagated_clash, propagated_more, propagated_end)
