-- The model recorded literal by literal.
-- Each lemma is one way through the code.
use Rattle.std.proofs.Common.{◌≡◌, ℕ, zero, suc, ◌+◌, ◌<◌, ltb, set, refl, ap, ◌∙◌, add-one, arith}
use lib.Seq.{sets}
use Rattle.std.proofs.lemmas.Bool.{lt-ltb}
use Rattle.formula.specs.Logic.{pick}
use Rattle.search.specs.Plain.{model_lit, model_row}
use Rattle.solver.specs.State.{State, with_model}

-- THE MODEL RECORDED: k literals from variable v on
abbrev pub recorded : State → ℕ → ℕ → State
recorded s v k = with_model s (sets s.model v (model_row s.work v k))

pub recorded_more : (s s₁ : State) (v k j lit : ℕ) → k ≡ j + 1 → v < 16384 → lit ≡ pick (ltb v 16384) (model_lit s.work v) 0 → s₁ ≡ with_model s (set s.model v lit) →
    recorded s₁ (v + 1) j ≡ recorded s v k
unfolding model_row
recorded_more s s₁ v zero j lit e l p q = absurd (omega arith)
recorded_more s s₁ v (suc k) j lit e l p q =
    let r : k ≡ j = omega arith in
    ap (λ (x : State). recorded x (v + 1) j) q ∙ rw (p, lt-ltb v 16384 l, add-one v, r)

pub recorded_none : (s : State) (v k : ℕ) → k ≡ 0 → recorded s v k ≡ s
unfolding model_row
recorded_none s v zero e = refl
recorded_none s v (suc k) e = absurd (omega arith)
