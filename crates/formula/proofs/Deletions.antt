-- Clauses that are deleted: how many of a row of literals are left, and that a shorter clause does for a longer one.
use Rattle.std.proofs.Common.{◌≡◌, ℕ, ◌+◌, ◌≤◌, Bool, true, false, List, [], ◌∷◌, length, sym, refl, subst, inl, arith}
use Rattle.std.proofs.lemmas.Bool.{and_parts, and_from}
use Rattle.formula.specs.Logic.{every, those, has, Clause, by_propagation, same_row, without}
use Rattle.formula.proofs.Rows.{In, Sub, every_of, in_has, those_in}
use Rattle.formula.proofs.Soundness.{row_sub, Settled}
use Rattle.formula.proofs.Completeness.{complete, follows_not}

-- SUBSUMED: each clause of cs has one of ds with no other literals
abbrev pub Subsumed : List Clause → List Clause → Type 0
Subsumed cs ds = (c : Clause) → In c cs → (d : Clause) × In d ds × Sub d c

pub settled_subsumed : (cs ds : List Clause) (M : ℕ → Bool) → Subsumed cs ds → Settled ds M → Settled cs M
settled_subsumed cs ds M b s = record {
  no_clash = λ c i h. let r = b c i in s.no_clash r.0 r.1 (λ l j. h l (r.2 l j));
  forced = λ c l i h. let r = b c i in s.forced r.0 l r.1 (λ k j. h k (r.2 k j));
}

pub follows_subsumed : (cs ds : List Clause) (c d : Clause) → Subsumed cs ds → Sub c d → by_propagation cs c ≡ true → by_propagation ds d ≡ true
follows_subsumed cs ds c d b s e = complete ds d (λ us h a t. follows_not cs c us e (λ l i. h l (s l i)) a (settled_subsumed cs ds (has us) b t))

-- SAME ROWS
pub same_subs : (c d : Clause) → same_row c d ≡ true → Sub c d × Sub d c
same_subs c d e = let r = and_parts (every (has d) c) _ e in (row_sub c d r.0, row_sub d c r.1)

pub subs_same : (c d : Clause) → Sub c d → Sub d c → same_row c d ≡ true
subs_same c d a b = and_from _ _ (every_of (has d) c (λ l i. in_has l d (a l i))) (every_of (has c) d (λ l i. in_has l c (b l i)))

pub same_refl : (c : Clause) → same_row c c ≡ true
same_refl c = subs_same c c (λ l i. i) (λ l i. i)

pub same_sym : (c d : Clause) → same_row c d ≡ true → same_row d c ≡ true
same_sym c d e = let r = same_subs c d e in subs_same d c r.1 r.0

pub same_trans : (c d e : Clause) → same_row c d ≡ true → same_row d e ≡ true → same_row c e ≡ true
same_trans c d e p q = let a = same_subs c d p in let b = same_subs d e q in subs_same c e (λ l i. b.0 l (a.0 l i)) (λ l i. a.1 l (b.1 l i))

-- HOW MANY of a row there are
abbrev pub copies : Clause → List Clause → ℕ
copies e cs = length (those (same_row e) cs)

pub copies_in : (e : Clause) (cs : List Clause) → 1 ≤ copies e cs → (d : Clause) × In d cs × (same_row e d ≡ true)
copies_in e cs h = go (those (same_row e) cs) refl h
  where
    go : (ds : List Clause) → those (same_row e) cs ≡ ds → 1 ≤ length ds → (d : Clause) × In d cs × (same_row e d ≡ true)
    go [] p h = absurd (omega arith)
    go (d ∷ ds) p h = let r = those_in (same_row e) d cs (subst (λ (x : List Clause). In d x) (sym p) (inl refl)) in (d, r.0, r.1)

-- a deletion takes one of its own row, and none of another
pub copies_other : (c e : Clause) (cs : List Clause) → same_row c e ≡ false → copies e (without c cs) ≡ copies e cs
unfolding without those
copies_other c e [] n = refl
copies_other c e (d ∷ ds) n =
    let ih = copies_other c e ds n in
    let j = same_trans c d e in
    let k = same_sym e d in
    grind arith

pub copies_own : (c e : Clause) (cs : List Clause) → same_row c e ≡ true → 1 ≤ copies e cs → copies e (without c cs) + 1 ≡ copies e cs
unfolding without those
copies_own c e [] n h = absurd (omega arith)
copies_own c e (d ∷ ds) n h =
    let ih = copies_own c e ds n in
    let j = same_trans c e d n in
    let k = same_trans e c d (same_sym c e n) in
    grind arith
