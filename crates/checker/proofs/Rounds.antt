-- The parts of a round put together: a trail that grows, a conflict in one of them, and what the round answers.
use Rattle.std.proofs.Common.{◌≡◌, ◌+◌, Bool, true, false, List, ◌∙◌, subst}
use mathlib.Core.Bool.{false≢true}
use Rattle.formula.specs.Logic.{Clause}
use Rattle.checker.specs.declared.trail.Trail.{Trail}
use Rattle.checker.specs.declared.propagate.Outcome.{Outcome}
use Rattle.checker.specs.declared.propagate.Outcome.TheVariants.{Conflict}
use Rattle.checker.specs.Forced.{Grows, Assumed, Refuted}
use Rattle.checker.specs.Outcomes.{Visited, Propagated, Answered}
use Rattle.checker.proofs.Forcing.{grows_then, refuted_later}

pub visited_conflict : (cs : List Clause) (t t₁ t₂ : Trail) (o : Outcome) → Grows cs t t₁ → o ≡ Conflict → Visited cs t₁ t₂ o → Propagated cs t t₂ true
visited_conflict cs t t₁ t₂ o g e v =
    let u = subst (λ x. Visited cs t₁ t₂ x) e v in
    record { grows = grows_then cs t t₁ t₂ g v.grows; clash = λ _. refuted_later cs t t₁ g u.clash }

pub propagated_none : (cs : List Clause) (t t₁ : Trail) → Grows cs t t₁ → Propagated cs t t₁ false
propagated_none cs t t₁ g = record { grows = g; clash = λ e. absurd (false≢true e) }

pub propagated_then : (cs : List Clause) (t t₁ t₂ : Trail) (b : Bool) → Grows cs t t₁ → Propagated cs t₁ t₂ b → Propagated cs t t₂ b
propagated_then cs t t₁ t₂ b g p = record { grows = grows_then cs t t₁ t₂ g p.grows; clash = λ e. refuted_later cs t t₁ g (p.clash e) }

-- a yes, as it was told
pub propagated_yes : (cs : List Clause) (t t₁ t₂ : Trail) (b : Bool) → Grows cs t t₁ → b ≡ true → Propagated cs t₁ t₂ b → Propagated cs t t₂ true
propagated_yes cs t t₁ t₂ b g e p = subst (λ (x : Bool). Propagated cs t t₂ x) e (propagated_then cs t t₁ t₂ b g p)

pub answered_assumed : (cs : List Clause) (c : Clause) (t t₁ t₂ : Trail) (b : Bool) → t₁.round ≡ t.round + 1 → b ≡ true → Assumed c t₁ t₂ b → Answered cs c t t₂ true
answered_assumed cs c t t₁ t₂ b r e a = record { round = a.same ∙ r; right = λ _. a.clash e cs }

pub answered_by : (cs : List Clause) (c : Clause) (t t₁ t₂ t₃ : Trail) (a b : Bool) → t₁.round ≡ t.round + 1 → Assumed c t₁ t₂ a → Propagated cs t₂ t₃ b → Answered cs c t t₃ b
unfolding Refuted
answered_by cs c t t₁ t₂ t₃ a b r s p = record { round = p.grows.same ∙ (s.same ∙ r); right = λ e. p.clash e c (s.sound cs) }
