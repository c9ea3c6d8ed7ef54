-- Clauses that stand, and how many of a row there are, as clauses are added and deleted.
use Rattle.std.proofs.Common.{◌≡◌, ℕ, zero, suc, ◌+◌, ◌<◌, ◌≤◌, Bool, true, false, List, [], ◌∷◌, ◌++◌, length, get_or, set, Some, None, Option, MatchOption, Bor, refl, ap, inl, inr, arith}
use mathlib.Core.Bool.{false≢true}
use Rattle.std.specs.List.{AllWithin, HoldsAt}
use Rattle.std.proofs.lemmas.Bool.{cases_lt}
use Rattle.std.proofs.lemmas.List.{get_or_past}
use Rattle.formula.specs.Logic.{those, Clause, same_row, without, by_propagation}
use Rattle.formula.proofs.Rows.{In, in_those}
use Rattle.formula.proofs.Deletions.{copies, copies_in, copies_own, copies_other, same_refl, same_sym, same_trans, same_subs, follows_subsumed}
use Rattle.checker.specs.Standing.{Rows, standing, dropped, is_copy, copy_at, Found}
use Rattle.checker.specs.Going.{Fewer}

-- a row that is there stands
pub in_standing : (rs : Rows) (i : ℕ) (r : Bor (List ℕ)) → get_or rs i None ≡ Some r → In r.now (standing rs)
unfolding standing
in_standing [] i r e = cc
in_standing (o ∷ rs) zero r e = rw e (inl refl)
in_standing (None ∷ rs) (suc i) r e = in_standing rs i r e
in_standing (Some q ∷ rs) (suc i) r e = inr (in_standing rs i r e)

-- ONE ROW MORE
pub standing_push : (rs : Rows) (r : Bor (List ℕ)) → standing (rs ++ Some r ∷ []) ≡ standing rs ++ r.now ∷ []
unfolding standing
standing_push [] r = refl
standing_push (None ∷ rs) r = standing_push rs r
standing_push (Some q ∷ rs) r = ap (λ (cs : List Clause). q.now ∷ cs) (standing_push rs r)

pub copies_push : (e c : Clause) (cs : List Clause) → copies e (cs ++ c ∷ []) ≡ copies e (c ∷ cs)
unfolding those
copies_push e c [] = refl
copies_push e c (d ∷ ds) = let ih = copies_push e c ds in grind arith

-- ONE ROW TAKEN AWAY
pub copies_less : (e : Clause) (rs : Rows) (i : ℕ) (r : Bor (List ℕ)) → get_or rs i None ≡ Some r → copies e (r.now ∷ standing (set rs i None)) ≡ copies e (standing rs)
unfolding standing those
copies_less e [] i r h = cc
copies_less e (o ∷ rs) zero r h = rw h refl
copies_less e (None ∷ rs) (suc i) r h = copies_less e rs i r h
copies_less e (Some q ∷ rs) (suc i) r h = let ih = copies_less e rs i r h in grind arith

-- none of the row stands
pub copies_none : (c : Clause) (rs : Rows) → ((i : ℕ) → copy_at rs c i ≡ false) → copies c (standing rs) ≡ 0
unfolding standing those
copies_none c [] h = refl
copies_none c (None ∷ rs) h = copies_none c rs (λ i. h (suc i))
copies_none c (Some r ∷ rs) h = let ih = copies_none c rs (λ i. h (suc i)) in let k = h 0 in grind arith

-- copies of two equal rows
pub copies_same : (c e : Clause) (cs : List Clause) → same_row c e ≡ true → copies c cs ≡ copies e cs
unfolding those
copies_same c e [] h = refl
copies_same c e (d ∷ ds) h =
    let ih = copies_same c e ds h in
    let j = same_trans c e d h in
    let k = same_trans e c d (same_sym c e h) in
    grind arith

-- a row with the same literals
pub copy_row : (c : Clause) (o : Option (Bor (List ℕ))) → is_copy c o ≡ true → (r : Bor (List ℕ)) × (o ≡ Some r) × (same_row c r.now ≡ true)
copy_row c None h = absurd (false≢true h)
copy_row c (Some r) h = (r, refl, h)

-- there is none past the last
pub none_past : (rs : Rows) (c : Clause) (n : ℕ) → length rs ≤ n → ((i : ℕ) → i < n → copy_at rs c i ≡ false) → (i : ℕ) → copy_at rs c i ≡ false
none_past rs c n h g i = elim (cases_lt i n) [ inl l ↦ g i l | inr l ↦ ap (is_copy c) (get_or_past rs i None (omega arith)) ]

-- a look at each number finds one, or there is none
pub found_scan : (rs : Rows) (c : Clause) (o : Option ℕ) (a n : ℕ) → a ≡ 0 → length rs ≤ n →
    MatchOption o ((k : ℕ) → a ≤ k → k < n → copy_at rs c k ≡ false) (λ i. (a ≤ i) × (i < n) × (copy_at rs c i ≡ true) × ((k : ℕ) → a ≤ k → k < i → copy_at rs c k ≡ false)) → Found rs c o
found_scan rs c None a n z h f = none_past rs c n h (λ i l. f i (omega arith) l)
found_scan rs c (Some i) a n z h f = f.2

-- and so does a look at each row
pub found_position : (rs : Rows) (c : Clause) (o : Option ℕ)
    → MatchOption o (AllWithin (λ r. is_copy c r ≡ false) rs 0 (length rs)) (λ i. (i < length rs) × HoldsAt (λ r. is_copy c r ≡ true) rs i × AllWithin (λ r. is_copy c r ≡ false) rs 0 i) → Found rs c o
found_position rs c None f = found_scan rs c None 0 (length rs) refl (omega arith) (λ k l m. f k None l m)
found_position rs c (Some i) f = found_scan rs c (Some i) 0 (length rs) refl (omega arith) (omega arith, f.0, f.1 None, λ k l m. f.2 k None l m)

-- COPIES, one clause more
pub copies_one : (e c : Clause) (cs : List Clause) → same_row e c ≡ true → copies e (c ∷ cs) ≡ copies e cs + 1
unfolding those
copies_one e c cs h = grind arith

pub copies_up : (e c : Clause) (cs : List Clause) → copies e cs ≤ copies e (c ∷ cs)
unfolding those
copies_up e c cs = grind arith

pub copies_both : (e c : Clause) (cs ds : List Clause) → copies e cs ≤ copies e ds → copies e (c ∷ cs) ≤ copies e (c ∷ ds)
unfolding those
copies_both e c cs ds h = grind arith

-- AS THE STEPS GO
pub fewer_added : (rs : Rows) (r : Bor (List ℕ)) (cs : List Clause) → Fewer rs cs → Fewer (rs ++ Some r ∷ []) (r.now ∷ cs)
unfolding Fewer
fewer_added rs r cs f e = omega (arith, ap (copies e) (standing_push rs r), copies_push e r.now (standing rs), copies_both e r.now (standing rs) cs (f e))

pub fewer_deleted : (rs : Rows) (i : ℕ) (c : Clause) (cs : List Clause) → copy_at rs c i ≡ true → Fewer rs cs → Fewer (set rs i None) (without c cs)
unfolding Fewer
fewer_deleted rs i c cs g f e = go (same_row c e) refl
  where
    row : (r : Bor (List ℕ)) × (get_or rs i None ≡ Some r) × (same_row c r.now ≡ true)
    row = copy_row c (get_or rs i None) g

    less : copies e (row.0.now ∷ standing (set rs i None)) ≡ copies e (standing rs)
    less = copies_less e rs i row.0 row.1

    go : (b : Bool) → same_row c e ≡ b → copies e (standing (set rs i None)) ≤ copies e (without c cs)
    go true p =
        let q = copies_one e row.0.now (standing (set rs i None)) (same_trans e c row.0.now (same_sym c e p) row.2) in
        let u = f e in
        let v = copies_own c e cs p (omega (arith, less)) in
        omega (arith, less)
    go false p = omega (arith, less, f e, copies_other c e cs p, copies_up e row.0.now (standing (set rs i None)))

pub fewer_kept : (rs : Rows) (c : Clause) (cs : List Clause) → ((i : ℕ) → copy_at rs c i ≡ false) → Fewer rs cs → Fewer rs (without c cs)
unfolding Fewer
fewer_kept rs c cs n f e = go (same_row c e) refl
  where
    go : (b : Bool) → same_row c e ≡ b → copies e (standing rs) ≤ copies e (without c cs)
    go true p = omega (arith, copies_none c rs n, copies_same c e (standing rs) p)
    go false p = omega (arith, f e, copies_other c e cs p)

-- found or not
pub fewer_dropped : (rs : Rows) (c : Clause) (o : Option ℕ) → Found rs c o → (cs : List Clause) → Fewer rs cs → Fewer (dropped rs o) (without c cs)
fewer_dropped rs c None k cs f = fewer_kept rs c cs k f
fewer_dropped rs c (Some i) k cs f = fewer_deleted rs i c cs k f

-- what follows from the clauses that stand follows
pub follows_fewer : (rs : Rows) (c : Clause) (cs : List Clause) → Fewer rs cs → by_propagation (standing rs) c ≡ true → by_propagation cs c ≡ true
unfolding Fewer
follows_fewer rs c cs f = follows_subsumed (standing rs) cs c c (λ d i.
    let r = copies_in d cs (omega (arith, f d, some d (those (same_row d) (standing rs)) (in_those (same_row d) d (standing rs) i (same_refl d)))) in
    (r.0, r.1, (same_subs d r.0 r.2).1)) (λ l i. i)
  where
    some : (d : Clause) (ds : List Clause) → In d ds → 1 ≤ length ds
    some d [] i = absurd i
    some d (x ∷ ds) i = omega arith
