-- What the literals of the trail are known by: each is forced, in every settled row in which the clause that is
-- checked is false. So neither the order of the trail nor its reasons have to be kept.
use Rattle.std.specs.Prelude.{◌≡◌, ℕ, Bool, true, List, vec_items, ◌==◌, slice_index}
use Rattle.formula.specs.Logic.{Clause, has, other, by_propagation}
use Rattle.formula.proofs.Rows.{In}
use Rattle.formula.proofs.Soundness.{Settled}
use Rattle.formula.proofs.Completeness.{Consistent}
use Rattle.checker.specs.declared.trail.Trail.{Trail}

-- a literal is true if its stamp is that of the round
abbrev pub is_true : Trail → ℕ → Bool
is_true t l = slice_index (vec_items t.stamps) l == t.round

unfoldable pub Forced : List Clause → Clause → ℕ → Type 0
Forced cs c l = (us : List ℕ) → ((k : ℕ) → In k c → In (other k) us) → Consistent us → Settled cs (has us) → In l us

unfoldable pub AllForced : List Clause → Clause → Trail → Type 0
AllForced cs c t = (l : ℕ) → is_true t l ≡ true → Forced cs c l

-- what happens to the trail in a round
pub record Grows (cs : List Clause) (t t₁ : Trail) : Type 0 where
  pub same : t₁.round ≡ t.round
  pub sound : (c : Clause) → AllForced cs c t → AllForced cs c t₁

-- a clause is taken to be false, and if that does not go together it follows
pub record Assumed (c : Clause) (t t₁ : Trail) (b : Bool) : Type 0 where
  pub same : t₁.round ≡ t.round
  pub sound : (cs : List Clause) → AllForced cs c t₁
  pub clash : b ≡ true → (cs : List Clause) → by_propagation cs c ≡ true

-- a conflict is known: the clause of which the trail is forced follows
unfoldable pub Refuted : List Clause → Trail → Type 0
Refuted cs t = (c : Clause) → AllForced cs c t → by_propagation cs c ≡ true
