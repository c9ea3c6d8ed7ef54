-- What the sink that keeps what it is told needs for the laws of sinks: rows that grow by nothing, and by one row after another.
use Rattle.std.specs.Prelude.{◌≡◌, ℕ, List, [], ◌++◌}
use Rattle.std.proofs.Common.{sym, ap, ◌∙◌, append-nil, append_assoc}

pub grown_by_nothing : (xs : List ℕ) → xs ≡ xs ++ []
grown_by_nothing xs = sym (append-nil xs)

pub grown : (xs ys zs ss ts : List ℕ) → ys ≡ xs ++ ss → zs ≡ ys ++ ts → zs ≡ xs ++ (ss ++ ts)
grown xs ys zs ss ts p q = q ∙ (ap (λ (x : List ℕ). x ++ ts) p ∙ append_assoc xs ss ts)
