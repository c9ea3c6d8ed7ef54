-- A loop over numbers from 0 on, as far as it has come.
use Rattle.std.proofs.Common.{◌≡◌, ℕ, ◌+◌, refl, ap, add-one}
use Rattle.cdcl.specs.Work.{for_each}

pub for_each_none : {A : Type 0} (f : A → ℕ → A) (a : A) → for_each f 0 a ≡ a
unfolding for_each
for_each_none f a = refl

pub for_each_next : {A : Type 0} (f : A → ℕ → A) (n : ℕ) (a : A) → for_each f (n + 1) a ≡ f (for_each f n a) n
unfolding for_each
for_each_next f n a = ap (λ (m : ℕ). for_each f m a) (add-one n)

pub ruleset looping = (for_each_none, for_each_next)
