-- For a search that learns: clauses that are implied, learned clauses from marks and ranks, steps one after another, models and cores.
use Rattle.std.proofs.Common.{◌≡◌, ℕ, zero, suc, ◌<◌, Bool, true, false, not, ◌⊎◌, List, [], ◌∷◌, ◌++◌, sym, refl, ap, ◌∙◌, subst, inl, inr, arith}
use mathlib.Core.Bool.{false≢true}
use Rattle.std.proofs.lemmas.Bool.{and_parts, and_from, false_from_ne_true}
use Rattle.formula.specs.Logic.{pick, or, any, each, has, other, Clause, Truth, truth_of, true_in, clause_true, all_true, CannotBe, units, by_propagation, same_row, Step, adds, deletes, without, holds, has_empty}
use Rattle.formula.specs.Statements.{PropagationSound}
use Rattle.formula.proofs.Rows.{clash, In, in_left, in_right, in_each, each_in, every_at, every_of, any_at, has_in, in_has}
use Rattle.formula.proofs.Soundness.{true_other, clause_of, Settled, propagation_sound, without_sub}
use Rattle.formula.proofs.Completeness.{Consistent, complete, forced_in, clash_in}

-- IMPLIED: true wherever the clauses are
abbrev pub Implied : List Clause → Clause → Type 0
Implied cs c = (t : Truth) → all_true t cs ≡ true → clause_true t c ≡ true

pub implied_there : (cs : List Clause) (c : Clause) → In c cs → Implied cs c
implied_there cs c i t a = every_at (clause_true t) c cs a i

pub implied_by : (cs ds : List Clause) (c : Clause) → ((d : Clause) → In d ds → Implied cs d) → by_propagation ds c ≡ true → Implied cs c
unfolding PropagationSound
implied_by cs ds c h e t a = propagation_sound ds c t e (every_of (clause_true t) ds (λ d i. h d i t a))

pub implied_empty : (cs : List Clause) → Implied cs [] → CannotBe cs
unfolding CannotBe any
implied_empty cs h t = false_from_ne_true (all_true t cs) (λ a. false≢true (h t a))

-- A CORE: the others of some literals, as a clause that's implied
pub implied_core : (cs : List Clause) (ks : List ℕ) → Implied cs (each other ks) → CannotBe (cs ++ units ks)
unfolding CannotBe any
implied_core cs ks h t = false_from_ne_true (all_true t (cs ++ units ks)) bad
  where
    bad : all_true t (cs ++ units ks) ≡ true → ⊥
    bad a =
        let r = any_at (true_in t) (each other ks) (h t (every_of (clause_true t) cs (λ c i. every_at (clause_true t) c (cs ++ units ks) a (in_left c cs (units ks) i)))) in
        let q = each_in other r.0 ks r.1 in
        let u = any_at (true_in t) (q.0 ∷ []) (every_at (clause_true t) (q.0 ∷ []) (cs ++ units ks) a (in_right (q.0 ∷ []) cs (units ks) (in_each (λ l. l ∷ []) q.0 ks q.1))) in
        let k : true_in t q.0 ≡ true = elim u.1 [ inl p ↦ ap (true_in t) (sym p) ∙ u.2 | inr p ↦ absurd p ] in
        clash (not (true_in t q.0)) (sym (true_other t q.0) ∙ (ap (true_in t) (sym q.2) ∙ r.2)) (ap not k)

-- LEARNED: literals are marked, each with a clause that forces it from marked ones of lower rank and from what's false in c; and a clause that's then false
module _ (cs : List Clause) (c : Clause) (mark : ℕ → Bool) (rank : ℕ → ℕ) (why : ℕ → Clause)
    (there : (l : ℕ) → mark l ≡ true → In (why l) cs)
    (earlier : (l : ℕ) → mark l ≡ true → (k : ℕ) → In k (why l) → (k ≡ l) ⊎ (In k c ⊎ ((mark (other k) ≡ true) × (rank (other k) < rank l)))) where
  rank_in : (us : List ℕ) → ((k : ℕ) → In k c → In (other k) us) → Settled cs (has us) → (n l : ℕ) → rank l < n → mark l ≡ true → In l us
  rank_in us h s zero l b m = absurd (omega arith)
  rank_in us h s (suc n) l b m = forced_in cs us s (why l) l (there l m) (λ k i. go k (rank_in us h s n (other k)) (earlier l m k i))
    where
      go : (k : ℕ) → (rank (other k) < n → mark (other k) ≡ true → In (other k) us) → (k ≡ l) ⊎ (In k c ⊎ ((mark (other k) ≡ true) × (rank (other k) < rank l))) → (k ≡ l) ⊎ In (other k) us
      go k ih (inl p) = inl p
      go k ih (inr (inl i)) = inr (h k i)
      go k ih (inr (inr p)) = inr (ih (omega (arith, p.1)) p.0)

  pub by_rank : (d : Clause) → In d cs → ((k : ℕ) → In k d → In k c ⊎ (mark (other k) ≡ true)) → by_propagation cs c ≡ true
  by_rank d i g = complete cs c (λ us h a s. clash_in cs us s d i (λ k j. elim (g k j) [ inl p ↦ h k p | inr p ↦ rank_in us h s (suc (rank (other k))) (other k) (omega arith) p ]))

-- STEPS one after another
abbrev pub after : List Clause → List Step → List Clause
after cs [] = cs
after cs (adds c ∷ ss) = after (c ∷ cs) ss
after cs (deletes c ∷ ss) = after (without c cs) ss

pub after-++ : (cs : List Clause) (ss rs : List Step) → after cs (ss ++ rs) ≡ after (after cs ss) rs
after-++ cs [] rs = refl
after-++ cs (adds c ∷ ss) rs = after-++ (c ∷ cs) ss rs
after-++ cs (deletes c ∷ ss) rs = after-++ (without c cs) ss rs

pub holds_then : (cs : List Clause) (ss rs : List Step) → holds cs ss ≡ true → holds (after cs ss) rs ≡ true → holds cs (ss ++ rs) ≡ true
unfolding holds
holds_then cs [] rs p q = q
holds_then cs (adds c ∷ ss) rs p q = let r = and_parts (by_propagation cs c) _ p in and_from _ _ r.0 (holds_then (c ∷ cs) ss rs r.1 q)
holds_then cs (deletes c ∷ ss) rs p q = holds_then (without c cs) ss rs p q

pub has_empty_then : (ss rs : List Step) → has_empty (ss ++ rs) ≡ or (has_empty ss) (has_empty rs)
unfolding has_empty
has_empty_then [] rs = refl
has_empty_then (adds c ∷ ss) rs = let ih = has_empty_then ss rs in grind arith
has_empty_then (deletes c ∷ ss) rs = has_empty_then ss rs

-- what isn't the deleted clause stays
pub without_keeps : (c d : Clause) (cs : List Clause) → In d cs → same_row c d ≡ false → In d (without c cs)
unfolding without
without_keeps c d [] i e = absurd i
without_keeps c d (b ∷ bs) (inl p) e = grind arith
without_keeps c d (b ∷ bs) (inr j) e =
    let ih = without_keeps c d bs j e in
    elim (same_row c b) as (λ v. In d (pick v bs (b ∷ without c bs))) [ true ↦ j | false ↦ inr ih ]

-- A MODEL: a row with no literal beside its other, in which each clause has a literal
pub row_true : (ms : List ℕ) (l : ℕ) → Consistent ms → In l ms → true_in (truth_of ms) l ≡ true
row_true ms l a i = let x = in_has l ms i in let y = has_in (other l) ms in let z = a l i in grind arith

pub row_model : (ms : List ℕ) (cs : List Clause) → Consistent ms → ((c : Clause) → In c cs → (l : ℕ) × In l c × In l ms) → all_true (truth_of ms) cs ≡ true
row_model ms cs a h = every_of (clause_true (truth_of ms)) cs (λ c i. let r = h c i in clause_of (truth_of ms) c r.0 r.1 (row_true ms r.0 a r.2))

-- clauses that steps have added are implied
pub holds_implied : (os cs : List Clause) (ss : List Step) → ((c : Clause) → In c cs → Implied os c) → holds cs ss ≡ true → (d : Clause) → In d (after cs ss) → Implied os d
unfolding holds
holds_implied os cs [] h e d i = h d i
holds_implied os cs (adds c ∷ ss) h e d i = holds_implied os (c ∷ cs) ss more r.1 d i
  where
    r : (by_propagation cs c ≡ true) × (holds (c ∷ cs) ss ≡ true)
    r = and_parts (by_propagation cs c) _ e

    more : (b : Clause) → In b (c ∷ cs) → Implied os b
    more b (inl p) = subst (λ (x : Clause). Implied os x) (sym p) (implied_by os cs c h r.0)
    more b (inr j) = h b j
holds_implied os cs (deletes c ∷ ss) h e d i = holds_implied os (without c cs) ss (λ b j. h b (without_sub c cs b j)) e d i
