-- Both values of each variable are tried: either the clauses can be, or there's a proof that they can't.
use Rattle.std.proofs.Common.{◌≡◌, ℕ, zero, suc, ◌+◌, ◌*◌, ◌/◌, ◌<◌, ◌≤◌, Bool, true, false, ◌⊎◌, List, [], ◌∷◌, ◌++◌, sym, refl, ap, ◌∙◌, subst, inl, inr, arith}
use Rattle.std.proofs.lemmas.Bool.{and_parts, and_from}
use Rattle.formula.specs.Logic.{each, none_of, has, other, Clause, truth_of, true_in, clause_true, all_true, CanBe, CannotBe, by_propagation, added_up, Step, adds, holds, has_empty}
use Rattle.formula.specs.Statements.{ProofThere, OneOrOther, ProofSound}
use Rattle.formula.proofs.Rows.{clash, or_right, In, Sub, in_each, every_not, any_none, has_in, in_has}
use Rattle.formula.proofs.Soundness.{other_other, other_even, Settled, proof_sound}
use Rattle.formula.proofs.Completeness.{complete, forced_in, clash_in, follows_there}

-- the clauses after some were added one by one
abbrev pub onto : List Clause → List Clause → List Clause
onto [] cs = cs
onto (g ∷ gs) cs = onto gs (g ∷ cs)

pub onto_sub : (gs cs : List Clause) → Sub cs (onto gs cs)
onto_sub [] cs c i = i
onto_sub (g ∷ gs) cs c i = onto_sub gs (g ∷ cs) c (inr i)

pub onto-++ : (gs hs cs : List Clause) → onto (gs ++ hs) cs ≡ onto hs (onto gs cs)
onto-++ [] hs cs = refl
onto-++ (g ∷ gs) hs cs = onto-++ gs hs (g ∷ cs)

pub holds-++ : (gs hs cs : List Clause) → holds cs (each adds gs) ≡ true → holds (onto gs cs) (each adds hs) ≡ true → holds cs (each adds (gs ++ hs)) ≡ true
unfolding holds each
holds-++ [] hs cs p q = q
holds-++ (g ∷ gs) hs cs p q = let r = and_parts (by_propagation cs g) _ p in and_from _ _ r.0 (holds-++ gs hs (g ∷ cs) r.1 q)

-- a clause that steps lead to
pub record Derived (cs : List Clause) (c : Clause) : Type 0 where
  pub added : List Clause
  pub good : holds cs (each adds added) ≡ true
  pub there : In c (onto added cs)

pub derived_one : (cs : List Clause) (c : Clause) → by_propagation cs c ≡ true → Derived cs c
unfolding holds each
derived_one cs c e = record { added = c ∷ []; good = and_from _ _ e refl; there = inl refl }

pub derived_then : (cs gs : List Clause) (c : Clause) → holds cs (each adds gs) ≡ true → Derived (onto gs cs) c → Derived cs c
derived_then cs gs c p d = record { added = gs ++ d.added; good = holds-++ gs d.added cs p d.good; there = subst (λ (x : List Clause). In c x) (sym (onto-++ gs d.added cs)) d.there }

-- a number above all literals
unfoldable pub above : List ℕ → ℕ
above [] = 0
above (l ∷ ls) = suc l + above ls

pub above_in : (l : ℕ) (ls : List ℕ) → In l ls → l < above ls
unfolding above
above_in l [] i = absurd i
above_in l (k ∷ ls) (inl e) = omega arith
above_in l (k ∷ ls) (inr i) = omega (arith, above_in l ls i)

pub above_all : (l : ℕ) (c : Clause) (cs : List Clause) → In c cs → In l c → l < added_up above cs
unfolding added_up
above_all l c [] i j = absurd i
above_all l c (d ∷ ds) (inl e) j = omega (arith, above_in l d (subst (λ (x : Clause). In l x) e j))
above_all l c (d ∷ ds) (inr i) j = omega (arith, above_all l c ds i j)

-- the literals decided, from variable n on
abbrev pub Decided : ℕ → ℕ → List ℕ → Type 0
Decided n top ds = (v : ℕ) → n ≤ v → v < top → In (2 * v) ds ⊎ In (suc (2 * v)) ds

pub decided_more : (n top : ℕ) (ds : List ℕ) (l : ℕ) → (l ≡ 2 * n) ⊎ (l ≡ suc (2 * n)) → Decided (suc n) top ds → Decided n top (l ∷ ds)
decided_more n top ds l w h v p q = grind arith

-- with all decided, a literal that isn't true has its other among them
pub false_decided : (top : ℕ) (ds : List ℕ) (l : ℕ) → Decided 0 top ds → l / 2 < top → true_in (truth_of ds) l ≡ false → In (other l) ds
false_decided top ds l h b e = let w = h (l / 2) (omega arith) b in grind (arith, in_has, has_in)

pub row_in : (ds us : List ℕ) → ((k : ℕ) → In k (each other ds) → In (other k) us) → Sub ds us
row_in ds us h l i = subst (λ x. In x us) (other_other l) (h (other l) (in_each other l ds i))

-- the clause of the decisions, from those of both values
pub both : (es : List Clause) (ds : List ℕ) (n : ℕ) → In (each other (2 * n ∷ ds)) es → In (each other (suc (2 * n) ∷ ds)) es → by_propagation es (each other ds) ≡ true
unfolding each
both es ds n i j = complete es (each other ds) (λ us h a s. clash_in es us s (each other (suc (2 * n) ∷ ds)) j (second us h (first us h s)))
  where
    first : (us : List ℕ) → ((k : ℕ) → In k (each other ds) → In (other k) us) → Settled es (has us) → In (suc (2 * n)) us
    first us h s = subst (λ x. In x us) (other_even (2 * n) (omega arith)) (forced_in es us s (each other (2 * n ∷ ds)) (other (2 * n)) i case)
      where
        case : (k : ℕ) → In k (other (2 * n) ∷ each other ds) → (k ≡ other (2 * n)) ⊎ In (other k) us
        case k (inl p) = inl p
        case k (inr m) = inr (h k m)

    second : (us : List ℕ) → ((k : ℕ) → In k (each other ds) → In (other k) us) → In (suc (2 * n)) us → (k : ℕ) → In k (other (suc (2 * n)) ∷ each other ds) → In (other k) us
    second us h f k (inl p) = subst (λ x. In x us) (sym (ap other p ∙ other_other (suc (2 * n)))) f
    second us h f k (inr m) = h k m

module _ (cs : List Clause) (top : ℕ) (below : (l : ℕ) (c : Clause) → In c cs → In l c → l / 2 < top) where
  leaf : (ds : List ℕ) (es : List Clause) → Decided 0 top ds → Sub cs es → CanBe cs ⊎ Derived es (each other ds)
  unfolding CanBe
  leaf ds es h b = go (all_true (truth_of ds) cs) refl
    where
      go : (v : Bool) → all_true (truth_of ds) cs ≡ v → CanBe cs ⊎ Derived es (each other ds)
      go true e = inl (truth_of ds, e)
      go false e = let r = every_not (clause_true (truth_of ds)) cs e in
          inr (derived_one es (each other ds) (complete es (each other ds) (λ us g a s. clash_in es us s r.0 (b r.0 r.1)
          (λ k i. row_in ds us g (other k) (false_decided top ds k h (below k r.0 r.1 i) (any_none (true_in (truth_of ds)) k r.0 r.2 i))))))

  tree : (n : ℕ) (ds : List ℕ) (es : List Clause) → Decided n top ds → Sub cs es → CanBe cs ⊎ Derived es (each other ds)
  tree zero ds es h b = leaf ds es h b
  tree (suc n) ds es h b = go (tree n (2 * n ∷ ds) es (decided_more n top ds (2 * n) (inl refl) h) b) (λ fs s. tree n (suc (2 * n) ∷ ds) fs (decided_more n top ds (suc (2 * n)) (inr refl) h) s)
    where
      go : CanBe cs ⊎ Derived es (each other (2 * n ∷ ds)) → ((fs : List Clause) → Sub cs fs → CanBe cs ⊎ Derived fs (each other (suc (2 * n) ∷ ds))) → CanBe cs ⊎ Derived es (each other ds)
      go (inl m) k = inl m
      go (inr d) k = elim (k (onto d.added es) (λ c i. onto_sub d.added es c (b c i))) [
        | inl m ↦ inl m
        | inr f ↦ inr (derived_then es d.added (each other ds) d.good (derived_then (onto d.added es) f.added (each other ds) f.good
            (derived_one (onto f.added (onto d.added es)) (each other ds) (both (onto f.added (onto d.added es)) ds n (onto_sub f.added (onto d.added es) _ d.there) f.there))))
      ]

pub has_empty_end : (gs : List Clause) → has_empty (each adds (gs ++ [] ∷ [])) ≡ true
unfolding has_empty each none_of
has_empty_end [] = refl
has_empty_end (g ∷ gs) = or_right (none_of g) _ (has_empty_end gs)

-- A MODEL OR A PROOF
pub model_or_proof : (cs : List Clause) → CanBe cs ⊎ ((ss : List Step) × (holds cs ss ≡ true) × (has_empty ss ≡ true))
unfolding each holds
model_or_proof cs = go (tree cs top (λ l c i j. omega (arith, above_all l c cs i j)) top [] cs (λ v p q. absurd (omega arith)) (λ c i. i))
  where
    top : ℕ
    top = added_up above cs

    go : CanBe cs ⊎ Derived cs [] → CanBe cs ⊎ ((ss : List Step) × (holds cs ss ≡ true) × (has_empty ss ≡ true))
    go (inl m) = inl m
    go (inr d) =
        inr (each adds (d.added ++ [] ∷ []), holds-++ d.added ([] ∷ []) cs d.good (and_from _ true (follows_there (onto d.added cs) [] d.there) refl), has_empty_end d.added)

pub proof_there : ProofThere
unfolding ProofThere CannotBe CanBe
proof_there cs h = elim (model_or_proof cs) [ inl m ↦ clash (all_true m.0 cs) m.1 (h m.0) | inr p ↦ p ]

pub one_or_other : OneOrOther
unfolding OneOrOther ProofSound
one_or_other cs = elim (model_or_proof cs) [ inl m ↦ inl m | inr p ↦ inr (proof_sound cs p.0 p.1 p.2) ]
