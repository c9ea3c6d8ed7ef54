-- Scans over assumptions and marks: what std's words for the place of the first and for any come to in the words of the search.
use Rattle.std.proofs.Common.{◌≡◌, ℕ, suc, not, eqb, List, [], ◌∷◌, length, take, min, Some, None, refl, add-one, arith}
use Rattle.std.proofs.Math.Nat.{min-zero, zero-min, suc-min-suc}
use Rattle.std.specs.List.{list_any, position_from}
use Rattle.formula.specs.Logic.{none_of}
use Rattle.search.specs.declared.plain.Finding.{Finding}
use Rattle.search.specs.declared.plain.Finding.TheVariants.{Failed}
use Rattle.search.specs.Plain.{lit_false, first_failed, marked}

-- ASSUMPTIONS
pub first_failed_some : (d : ℕ) (w as₁ : List ℕ) (i k : ℕ) (f : Finding) → position_from (lit_false d w) i as₁ ≡ Some k → first_failed d w i as₁ f ≡ Failed k
unfolding first_failed
first_failed_some d w [] i k f e = grind arith
first_failed_some d w (l ∷ ls) i k f e = let ih = first_failed_some d w ls (suc i) k f in let h = add-one i in grind arith

pub first_failed_none : (d : ℕ) (w as₁ : List ℕ) (i : ℕ) (f : Finding) → position_from (lit_false d w) i as₁ ≡ None → first_failed d w i as₁ f ≡ f
unfolding first_failed
first_failed_none d w [] i f e = refl
first_failed_none d w (l ∷ ls) i f e = let ih = first_failed_none d w ls (suc i) f in let h = add-one i in grind arith

-- MARKS
pub some_marked_take : (ks as₁ : List ℕ) → not (none_of (marked ks as₁)) ≡ list_any (λ k. eqb k 1) (take (min (length ks) (length as₁)) ks)
unfolding marked none_of
some_marked_take [] as₁ = rw zero-min refl
some_marked_take (k ∷ ks) [] = rw min-zero refl
some_marked_take (k ∷ ks) (a ∷ as₁) = let ih = some_marked_take ks as₁ in rw suc-min-suc (grind arith)
