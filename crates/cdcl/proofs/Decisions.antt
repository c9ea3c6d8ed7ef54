-- The heap gone through for a decision: each lemma takes one step of the loop, or says what is left at its end.
use Rattle.std.proofs.Common.{◌≡◌, ℕ, zero, suc, ◌+◌, ◌-◌, ◌<◌, ◌≤◌, true, false, List, Some, None, refl, arith}
use Rattle.std.proofs.lemmas.Bool.{eq-eqb, ne_eqb}
use Rattle.cdcl.specs.Work.{outcome}
use Rattle.cdcl.specs.Vsids.{heap_len, heap_at, heap_pop}
use Rattle.cdcl.specs.Deciding.{is_free, heaviest}

module _ (n : ℕ) (w : List ℕ) where
  pub heaviest_none : (f : ℕ) → heap_len w ≡ 0 → heaviest f n w ≡ outcome w None
  unfolding heaviest
  heaviest_none zero e = refl
  heaviest_none (suc f) e = rw (eq-eqb (heap_len w) 0 e)

  pub heaviest_here : (f : ℕ) → 0 < f → (heap_len w ≡ 0 → ⊥) → is_free n w (heap_at w 0) ≡ true → heaviest f n w ≡ outcome (heap_pop w) (Some (heap_at w 0))
  unfolding heaviest
  heaviest_here zero pos ne h = absurd (omega arith)
  heaviest_here (suc f) pos ne h = rw (ne_eqb (heap_len w) 0 ne, h)

  heaviest_suc : (f g : ℕ) → f ≡ g + 1 → (heap_len w ≡ 0 → ⊥) → is_free n w (heap_at w 0) ≡ false → heaviest g n (heap_pop w) ≡ heaviest f n w
  unfolding heaviest
  heaviest_suc zero g e ne h = absurd (omega arith)
  heaviest_suc (suc f) g e ne h =
      let same : g ≡ f = omega arith in
      rw (ne_eqb (heap_len w) 0 ne, h, same)

  pub heaviest_more : (most i : ℕ) → i < most → (heap_len w ≡ 0 → ⊥) → is_free n w (heap_at w 0) ≡ false → heaviest (most - (i + 1)) n (heap_pop w) ≡ heaviest (most - i) n w
  heaviest_more most i l ne h = heaviest_suc (most - i) (most - (i + 1)) (omega arith) ne h

  pub heaviest_end : (f : ℕ) → f ≤ 0 → heaviest f n w ≡ outcome w None
  unfolding heaviest
  heaviest_end zero l = refl
  heaviest_end (suc f) l = absurd (omega arith)

pub ruleset choosing = (heaviest_none, heaviest_here, heaviest_more, heaviest_end)
