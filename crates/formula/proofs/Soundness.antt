-- What's true of a literal and its other; that propagation and proofs are sound; that order, tautologies and such change nothing.
use Rattle.std.proofs.Common.{◌≡◌, ℕ, zero, suc, ◌%◌, ◌<◌, Bool, true, false, not, eqb, ◌⊎◌, List, [], ◌∷◌, ◌++◌, take, sym, refl, ap, ◌∙◌, subst, inl, inr, arith}
use mathlib.Core.Bool.{false≢true}
use Rattle.std.proofs.lemmas.Bool.{not-true, not_from_false, eqb-true, eq-eqb, and_parts, and_from, false_from_ne_true, true_from_ne_false}
use Rattle.formula.specs.Logic.{pick, every, any, each, none_of, has, other, Truth, Clause, true_in, clause_true, all_true, CanBe, CannotBe, units, false_by, open_of, conflict, all_equal, makes_unit, first_unit, refuted, by_propagation, how_large, Step, adds, deletes, without, holds, has_empty}
use Rattle.formula.specs.Statements.{PropagationSound, ProofSound, OrderFree, Tautology}
use Rattle.formula.proofs.Rows.{clash, or_cases, In, Sub, in_left, in_right, in_cases, in_each, each_in, every_at, every_of, any_at, any_of, any_none, in_those, those_in, has_in}

-- A LITERAL AND ITS OTHER
pub other_even : (l : ℕ) → l % 2 ≡ 0 → other l ≡ suc l
other_even l e = rw (eq-eqb (l % 2) 0 e) refl

pub even_or_odd : (l : ℕ) → (l % 2 ≡ 0) ⊎ (l % 2 ≡ 1)
even_or_odd l = go (l % 2) (omega arith)
  where
    go : (n : ℕ) → n < 2 → (n ≡ 0) ⊎ (n ≡ 1)
    go zero h = inl refl
    go (suc zero) h = inr refl
    go (suc (suc n)) h = absurd (omega arith)

pub other_other : (l : ℕ) → other (other l) ≡ l
other_other l = grind arith

pub true_other : (t : Truth) (l : ℕ) → true_in t (other l) ≡ not (true_in t l)
true_other t l = grind arith

-- A clause is true if one of its literals is, and clauses are if each is
pub clause_of : (t : Truth) (c : Clause) (l : ℕ) → In l c → true_in t l ≡ true → clause_true t c ≡ true
clause_of t c l i e = any_of (true_in t) l c i e

pub taut_true : (t : Truth) (c : Clause) (l : ℕ) → In l c → In (other l) c → clause_true t c ≡ true
taut_true t c l i j = grind (arith, clause_of, true_other)

pub all_sub : (t : Truth) (cs ds : List Clause) → Sub ds cs → all_true t cs ≡ true → all_true t ds ≡ true
all_sub t cs ds s a = every_of (clause_true t) ds (λ c i. every_at (clause_true t) c cs a (s c i))

pub clause_sub : (t : Truth) (c d : Clause) → Sub c d → clause_true t c ≡ true → clause_true t d ≡ true
clause_sub t c d s a = let r = any_at (true_in t) c a in clause_of t d r.0 (s r.0 r.1) r.2

pub row_sub : (c d : List ℕ) → every (has d) c ≡ true → Sub c d
row_sub c d e l i = has_in l d (every_at (has d) l c e i)

-- A literal map is SETTLED by clauses if it makes none of them a conflict, and makes true what any of them forces
pub record Settled (cs : List Clause) (M : ℕ → Bool) : Type 0 where
  pub no_clash : (c : Clause) → In c cs → ((l : ℕ) → In l c → M (other l) ≡ true) → ⊥
  pub forced : (c : Clause) (l : ℕ) → In c cs → ((k : ℕ) → In k c → (k ≡ l) ⊎ (M (other k) ≡ true)) → M l ≡ true

-- the first unit: the literal, and its clause
pub record Found (ts : List ℕ) (cs : List Clause) : Type 0 where
  pub lit : ℕ
  pub clause : Clause
  pub is : first_unit ts cs ≡ lit ∷ []
  pub there : In clause cs
  pub inside : In lit clause
  pub unset : false_by ts lit ≡ false
  pub new : has ts lit ≡ false
  pub rest : (k : ℕ) → In k clause → (k ≡ lit) ⊎ (false_by ts k ≡ true)

pub unit_is : (ts : List ℕ) (c : Clause) (cs : List Clause) (os : List ℕ) → open_of ts c ≡ os → makes_unit ts c ≡ true → all_equal os ≡ true → any (has ts) c ≡ false →
    Found ts (c ∷ cs)
unfolding all_equal first_unit
unit_is ts c cs [] e u a n = absurd (false≢true a)
unit_is ts c cs (l ∷ ls) e u a n = record {
  lit = l;
  clause = c;
  is = ap (λ (b : Bool). pick b (take 1 (open_of ts c)) (first_unit ts cs)) u ∙ ap (take 1) e;
  there = inl refl;
  inside = here.0;
  unset = not-true (false_by ts l) here.1;
  new = any_none (has ts) l c n here.0;
  rest = λ k i. left k i (false_by ts k) refl;
}
  where
    here : In l c × (not (false_by ts l) ≡ true)
    here = those_in (λ k. not (false_by ts k)) l c (subst (λ (x : List ℕ). In l x) (sym e) (inl refl))

    left : (k : ℕ) → In k c → (b : Bool) → false_by ts k ≡ b → (k ≡ l) ⊎ (false_by ts k ≡ true)
    left k i true f = inr f
    left k i false f = inl (at (subst (λ (x : List ℕ). In k x) e (in_those (λ j. not (false_by ts j)) k c i (not_from_false (false_by ts k) f))))
      where
        at : In k (l ∷ ls) → k ≡ l
        at (inl p) = p
        at (inr j) = sym (eqb-true l k (every_at (eqb l) k ls a j))

pub unit_of : (ts : List ℕ) (cs : List Clause) → (first_unit ts cs ≡ []) ⊎ Found ts cs
unfolding first_unit
unit_of ts [] = inl refl
unit_of ts (c ∷ cs) = go (unit_of ts cs) (makes_unit ts c) refl
  where
    go : (first_unit ts cs ≡ []) ⊎ Found ts cs → (b : Bool) → makes_unit ts c ≡ b → (first_unit ts (c ∷ cs) ≡ []) ⊎ Found ts (c ∷ cs)
    go ih true e = inr (unit_is ts c cs (open_of ts c) refl e (and_parts _ (all_equal (open_of ts c)) e).1 (not-true (any (has ts) c) (and_parts (not (any (has ts) c)) _ e).0))
    go (inl p) false e = inl (ap (λ (b : Bool). pick b (take 1 (open_of ts c)) (first_unit ts cs)) e ∙ p)
    go (inr f) false e = inr (record {
      lit = f.lit;
      clause = f.clause;
      is = ap (λ (b : Bool). pick b (take 1 (open_of ts c)) (first_unit ts cs)) e ∙ f.is;
      there = inr f.there;
      inside = f.inside;
      unset = f.unset;
      new = f.new;
      rest = f.rest;
    })

-- what's settled is never refuted
module _ (cs : List Clause) (M : ℕ → Bool) (s : Settled cs M) where
  no_conflict : (ts : List ℕ) → ((l : ℕ) → In l ts → M l ≡ true) → conflict ts cs ≡ true → ⊥
  no_conflict ts h e =
      let r = any_at (λ c. every (false_by ts) c) cs e in
      s.no_clash r.0 r.1 (λ l i. h (other l) (has_in (other l) ts (every_at (false_by ts) l r.0 r.2 i)))

  pub not_refuted : (n : ℕ) (ts : List ℕ) → ((l : ℕ) → In l ts → M l ≡ true) → refuted n cs ts ≡ true → ⊥
  unfolding refuted none_of
  not_refuted zero ts h e = no_conflict ts h e
  not_refuted (suc n) ts h e = go (or_cases (conflict ts cs) _ e) (unit_of ts cs) (not_refuted n)
    where
      go : (conflict ts cs ≡ true) ⊎ (pick (none_of (first_unit ts cs)) false (refuted n cs (first_unit ts cs ++ ts)) ≡ true) → (first_unit ts cs ≡ []) ⊎ Found ts cs →
          ((us : List ℕ) → ((l : ℕ) → In l us → M l ≡ true) → refuted n cs us ≡ true → ⊥) → ⊥
      go (inl c) u ih = no_conflict ts h c
      go (inr p) (inl z) ih = false≢true (rw z at p)
      go (inr p) (inr f) ih = ih (f.lit ∷ ts) more (rw f.is at p)
        where
          more : (l : ℕ) → In l (f.lit ∷ ts) → M l ≡ true
          more l (inl q) = ap M q ∙ s.forced f.clause f.lit f.there (λ k i. elim (f.rest k i) [ inl a ↦ inl a | inr b ↦ inr (h (other k) (has_in (other k) ts b)) ])
          more l (inr i) = h l i

pub truth_settled : (cs : List Clause) (t : Truth) → all_true t cs ≡ true → Settled cs (true_in t)
truth_settled cs t a = record { no_clash = no; forced = yes₁ }
  where
    no : (c : Clause) → In c cs → ((l : ℕ) → In l c → true_in t (other l) ≡ true) → ⊥
    no c i h = let r = any_at (true_in t) c (every_at (clause_true t) c cs a i) in
        clash (not (true_in t r.0)) (sym (true_other t r.0) ∙ h r.0 r.1) (ap not r.2)

    yes₁ : (c : Clause) (l : ℕ) → In c cs → ((k : ℕ) → In k c → (k ≡ l) ⊎ (true_in t (other k) ≡ true)) → true_in t l ≡ true
    yes₁ c l i h = let r = any_at (true_in t) c (every_at (clause_true t) c cs a i) in
        elim (h r.0 r.1) [ inl p ↦ ap (true_in t) (sym p) ∙ r.2 | inr q ↦ clash (not (true_in t r.0)) (sym (true_other t r.0) ∙ q) (ap not r.2) ]

pub propagation_sound : PropagationSound
unfolding PropagationSound
propagation_sound cs c t h a = go (or_cases (any (λ l. has c (other l)) c) _ h)
  where
    go : (any (λ l. has c (other l)) c ≡ true) ⊎ (refuted (suc (how_large cs)) cs (each other c) ≡ true) → clause_true t c ≡ true
    go (inl e) = let r = any_at (λ l. has c (other l)) c e in taut_true t c r.0 r.1 (has_in (other r.0) c r.2)
    go (inr e) = true_from_ne_false (clause_true t c) (λ f. not_refuted cs (true_in t) (truth_settled cs t a) (suc (how_large cs)) (each other c)
        (λ l i. let r = each_in other l c i in ap (true_in t) r.2 ∙ (true_other t r.0 ∙ ap not (any_none (true_in t) r.0 c f r.1))) e)

pub without_sub : (c : Clause) (cs : List Clause) → Sub (without c cs) cs
unfolding without
without_sub c [] d i = i
without_sub c (e ∷ es) d i = let ih = without_sub c es d in grind arith

pub proof_runs : (ss : List Step) (cs : List Clause) (t : Truth) → holds cs ss ≡ true → has_empty ss ≡ true → all_true t cs ≡ true → ⊥
unfolding holds has_empty every any none_of PropagationSound
proof_runs [] cs t h e a = false≢true e
proof_runs (adds c ∷ ss) cs t h e a = go c (propagation_sound cs c t p.0 a) (or_cases (none_of c) _ e) (λ b k. proof_runs ss (c ∷ cs) t p.1 k (and_from _ _ b a))
  where
    p : (by_propagation cs c ≡ true) × (holds (c ∷ cs) ss ≡ true)
    p = and_parts (by_propagation cs c) _ h

    go : (d : Clause) → clause_true t d ≡ true → (none_of d ≡ true) ⊎ (has_empty ss ≡ true) → (clause_true t d ≡ true → has_empty ss ≡ true → ⊥) → ⊥
    go [] b z ih = false≢true b
    go (l ∷ ls) b (inl z) ih = false≢true z
    go (l ∷ ls) b (inr k) ih = ih b k
proof_runs (deletes c ∷ ss) cs t h e a = proof_runs ss (without c cs) t h e (all_sub t cs (without c cs) (without_sub c cs) a)

pub proof_sound : ProofSound
unfolding ProofSound CannotBe
proof_sound cs ss h e t = false_from_ne_true (all_true t cs) (proof_runs ss cs t h e)

pub tautology : Tautology
unfolding Tautology CannotBe every
tautology cs c l i j h t = false_from_ne_true (all_true t cs) (λ a. clash (all_true t (c ∷ cs)) (and_from (clause_true t c) _ (taut_true t c l (has_in l c i) (has_in (other l) c j)) a) (h t))

pub order_free : OrderFree
unfolding OrderFree CanBe every
order_free cs ds c d p q = (λ m. (m.0, moved m.0 m.1), λ m. (m.0, and_from _ _ (and_parts (clause_true m.0 c) _ m.1).0 m.1))
  where
    moved : (t : Truth) → all_true t (cs ++ c ∷ ds) ≡ true → all_true t (d ∷ ds ++ cs) ≡ true
    moved t a = and_from (clause_true t d) _
        (clause_sub t c d (row_sub c d q) (every_at (clause_true t) c (cs ++ c ∷ ds) a (in_right c cs (c ∷ ds) (inl refl))))
        (all_sub t (cs ++ c ∷ ds) (ds ++ cs) (λ e i. elim (in_cases e ds cs i) [ inl j ↦ in_right e cs (c ∷ ds) (inr j) | inr j ↦ in_left e cs (c ∷ ds) j ]) a)

-- what can't be with some of the assumptions can't be with all
pub part_shows : (cs : List Clause) (as₁ ks : List ℕ) → every (has as₁) ks ≡ true → CannotBe (cs ++ units ks) → CannotBe (cs ++ units as₁)
unfolding CannotBe
part_shows cs as₁ ks p h t = false_from_ne_true (all_true t (cs ++ units as₁)) (λ a. clash (all_true t (cs ++ units ks)) (all_sub t (cs ++ units as₁) (cs ++ units ks) sub a) (h t))
  where
    sub : Sub (cs ++ units ks) (cs ++ units as₁)
    sub c i = elim (in_cases c cs (units ks) i) [
      | inl j ↦ in_left c cs (units as₁) j
      | inr j ↦ (let r = each_in (λ l. l ∷ []) c ks j in in_right c cs (units as₁) (subst (λ (x : Clause). In x (units as₁)) (sym r.2) (in_each (λ l. l ∷ []) r.0 as₁ (row_sub ks as₁ p r.0 r.1))))
    ]
