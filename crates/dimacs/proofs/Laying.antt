-- A literal that is done, in a table and in the counts: what code writes is what the definitions lay there.
-- First rows written one after another, then `literal_done`.
use Rattle.std.proofs.Common.{◌≡◌, ℕ, suc, ◌+◌, ◌-◌, ◌*◌, ◌/◌, ◌<◌, Bool, true, false, eqb, ◌≢◌, List, [], ◌∷◌, ◌++◌, length, set, take, drop, min, sym, refl, ap, ◌∙◌, append_assoc, append-nil, arith}
use lib.Seq.{sets}
use borrow.Rule.Slice.PartMut.{put_mid}
use Rattle.std.proofs.lemmas.List.{set_comm, length-append, length_push, take-append-drop, take-set-le, take_min, take_rest, drop_min, drop_all, drop-set-add, length-drop}
use Rattle.formula.specs.Logic.{pick, Clause, how_large, added_up, var_of}
use Rattle.formula.specs.Arena.{clause_row, rows_of, size}
use Rattle.dimacs.specs.Text.{Reader, Header, reader, literal_done, larger, row_vars, vars_of}
use Rattle.dimacs.specs.Scan.{laid}
use Rattle.dimacs.specs.declared.scan.State.{State}
use Rattle.dimacs.specs.declared.scan.Tally.{Tally}
use Rattle.dimacs.specs.Scanning.{tally_of, value_of, negated_of, in_number, clause_ended, literal_added, literal_of, tally_done, rows_done}

-- ROWS
pub sets_append : (t xs ys : List ℕ) (i : ℕ) → sets t i (xs ++ ys) ≡ sets (sets t i xs) (i + length xs) ys
sets_append t [] ys i = ap (λ k. sets t k ys) (omega arith)
sets_append t (x ∷ xs) ys i = sets_append (set t i x) xs ys (suc i) ∙ ap (λ k. sets (sets (set t i x) (suc i) xs) k ys) (omega arith)

pub set_before : (t xs : List ℕ) (i j x : ℕ) → j < i → set (sets t i xs) j x ≡ sets (set t j x) i xs
set_before t [] i j x h = refl
set_before t (y ∷ xs) i j x h =
    let ne : i ≢ j = omega arith in
    set_before (set t i y) xs (suc i) j x (omega arith) ∙ ap (λ (u : List ℕ). sets u (suc i) xs) (set_comm t i j y x ne)

pub rows_append : (cs ds : List Clause) → rows_of (cs ++ ds) ≡ rows_of cs ++ rows_of ds
unfolding rows_of
rows_append [] ds = refl
rows_append (c ∷ cs) ds = ap (λ (x : List ℕ). clause_row c ++ x) (rows_append cs ds) ∙ sym (append_assoc (clause_row c) (rows_of cs) (rows_of ds))

pub rows_length : (cs : List Clause) → length (rows_of cs) ≡ size cs
unfolding rows_of clause_row added_up
rows_length [] = omega arith
rows_length (c ∷ cs) = let ih = rows_length cs in let k = length-append (clause_row c) (rows_of cs) in omega arith

-- a part of a table, written as the whole from there on
pub sets_front : (t xs : List ℕ) (m i : ℕ) → take m (sets t (m + i) xs) ≡ take m t
sets_front t [] m i = refl
sets_front t (x ∷ xs) m i =
    ap (λ k. take m (sets (set t (m + i) x) k xs)) (omega arith) ∙ (sets_front (set t (m + i) x) xs m (suc i) ∙ take-set-le m t (m + i) x (omega arith))

pub sets_behind : (t xs : List ℕ) (m i : ℕ) → drop m (sets t (m + i) xs) ≡ sets (drop m t) i xs
sets_behind t [] m i = refl
sets_behind t (x ∷ xs) m i =
    ap (λ k. drop m (sets (set t (m + i) x) k xs)) (omega arith)
    ∙ (sets_behind (set t (m + i) x) xs m (suc i) ∙ ap (λ (u : List ℕ). sets u (suc i) xs) (drop-set-add m t i x))

pub laid_behind : (t : List ℕ) (m : ℕ) (r : Reader) → laid t m r ≡ take m t ++ laid (drop m t) 0 r
unfolding laid
laid_behind t m r = sym (take-append-drop m (laid t m r)) ∙ (ap (λ (u : List ℕ). u ++ drop m (laid t m r)) front ∙ ap (λ (u : List ℕ). take m t ++ u) behind)
  where
    rows : List ℕ
    rows = rows_of r.read_clauses

    first : sets t (m + 0) rows ≡ sets t m rows
    first = ap (λ k. sets t k rows) (omega arith)

    front : take m (laid t m r) ≡ take m t
    front =
        ap (λ k. take m (sets (sets t m rows) k r.part)) (omega arith)
        ∙ (sets_front (sets t m rows) r.part m (size r.read_clauses + 1) ∙ (ap (take m) (sym first) ∙ sets_front t rows m 0))

    behind : drop m (laid t m r) ≡ laid (drop m t) 0 r
    behind =
        ap (λ k. drop m (sets (sets t m rows) k r.part)) (omega arith)
        ∙ (sets_behind (sets t m rows) r.part m (0 + size r.read_clauses + 1)
        ∙ ap (λ (u : List ℕ). sets u (0 + size r.read_clauses + 1) r.part) (ap (drop m) (sym first) ∙ sets_behind t rows m 0))

pub laid_part : (t : List ℕ) (start : ℕ) (r : Reader) → laid t start r ≡ take (min start (length t)) t ++ laid (drop (min start (length t)) t) 0 r
laid_part t start r = rw (take_min start t, drop_min start t) (laid_behind t start r)

-- the rest of a table, from a place or its end on, put back with what is laid there
pub laid_back : (t : List ℕ) (start m : ℕ) (rows : List ℕ) (r : Reader) → m ≡ min start (length t) → rows ≡ laid (take (length t - m) (drop m t)) 0 r →
    put_mid m (length t - m) t rows ≡ laid t start r
laid_back t start m rows r e g =
    let none : drop (length t - m) (drop m t) ≡ [] = drop_all (length t - m) (drop m t) (omega (arith, length-drop m t)) in
    let rest : rows ≡ laid (drop m t) 0 r = g ∙ ap (λ (u : List ℕ). laid u 0 r) (take_rest t m) in
    ap (λ (u : List ℕ). take m t ++ (rows ++ u)) none
    ∙ (ap (λ (u : List ℕ). take m t ++ u) (append-nil rows ∙ rest) ∙ (ap (λ k. take k t ++ laid (drop k t) 0 r) e ∙ sym (laid_part t start r)))

-- COUNTS
pub large_more : (cs : List Clause) (c : Clause) → how_large (cs ++ c ∷ []) ≡ how_large cs + length c
unfolding added_up
large_more [] c = omega arith
large_more (x ∷ cs) c = let h = large_more cs c in omega arith

pub row_vars_more : (p : List ℕ) (l : ℕ) → row_vars (p ++ l ∷ []) ≡ larger (row_vars p) (suc (var_of l))
unfolding row_vars
row_vars_more [] l = grind arith
row_vars_more (x ∷ p) l = let ih = row_vars_more p l in grind arith

pub vars_more : (cs : List Clause) (c : Clause) → vars_of (cs ++ c ∷ []) ≡ larger (vars_of cs) (row_vars c)
unfolding vars_of
vars_more [] c = grind arith
vars_more (x ∷ cs) c = let ih = vars_more cs c in grind arith

pub same_tally : {a b c d a₁ b₁ c₁ d₁ : ℕ} → a ≡ a₁ → b ≡ b₁ → c ≡ c₁ → d ≡ d₁ →
    ◌≡◌ {A = Tally} (record { counts = record { clauses = a; literals = b; vars = d }; part = c }) (record { counts = record { clauses = a₁; literals = b₁; vars = d₁ }; part = c₁ })
same_tally p q r s = cc

pub tally_clause : (cs : List Clause) (p : List ℕ) → clause_ended (tally_of cs p) ≡ tally_of (cs ++ p ∷ []) []
unfolding row_vars
tally_clause cs p =
    let k = length_push cs p in let l = large_more cs p in let v = vars_more cs p in
    same_tally (sym k) (sym l) refl (grind arith)

pub tally_literal : (cs : List Clause) (p : List ℕ) (n l : ℕ) → suc (var_of l) ≡ n → literal_added n (tally_of cs p) ≡ tally_of cs (p ++ l ∷ [])
tally_literal cs p n l h =
    let k = length_push p l in let v = row_vars_more p l in
    same_tally refl refl (sym k) (grind arith)

-- A LITERAL IS DONE
pub laid_clause : (t : List ℕ) (cs : List Clause) (p : List ℕ) →
    set (sets (sets t 0 (rows_of cs)) (size cs + 1) p) (length cs + how_large cs) (length p) ≡ sets t 0 (rows_of (cs ++ p ∷ []))
unfolding rows_of clause_row
laid_clause t cs p =
    set_before (sets t 0 (rows_of cs)) p (size cs + 1) (length cs + how_large cs) (length p) (omega arith)
    ∙ (ap (λ k. sets (set (sets t 0 (rows_of cs)) (length cs + how_large cs) (length p)) k p) (omega arith)
    ∙ (ap (λ k. sets (sets t 0 (rows_of cs)) k (length p ∷ p)) (omega (arith, rows_length cs))
    ∙ (sym (sets_append t (rows_of cs) (length p ∷ p) 0)
    ∙ (ap (λ (x : List ℕ). sets t 0 (rows_of cs ++ x)) (sym (append-nil (length p ∷ p))) ∙ ap (sets t 0) (sym (rows_append cs (p ∷ [])))))))

pub laid_literal : (t : List ℕ) (cs : List Clause) (p : List ℕ) (l : ℕ) →
    set (sets (sets t 0 (rows_of cs)) (size cs + 1) p) (length cs + how_large cs + 1 + length p) l ≡ sets (sets t 0 (rows_of cs)) (size cs + 1) (p ++ l ∷ [])
laid_literal t cs p l =
    ap (λ k. set (sets (sets t 0 (rows_of cs)) (size cs + 1) p) k l) (omega arith)
    ∙ sym (sets_append (sets t 0 (rows_of cs)) p (l ∷ []) (size cs + 1))

-- the clauses and the part of one, with what is read as a number done
abbrev pub done_clauses : State → List Clause → List ℕ → List Clause
done_clauses x cs p = pick (in_number x) (pick (eqb (value_of x) 0) (cs ++ p ∷ []) cs) cs

abbrev pub done_part : State → List ℕ → List ℕ
done_part x p = pick (in_number x) (pick (eqb (value_of x) 0) [] (p ++ literal_of x ∷ [])) p

pub picks : {A B C : Type 0} (f : A → B → C) (l z : Bool) (a b x : C) (p q r : A) (u v w : B) → a ≡ f p u → (z ≡ false → b ≡ f q v) → x ≡ f r w →
    pick l (pick z a b) x ≡ f (pick l (pick z p q) r) (pick l (pick z u v) w)
picks f true true a b x p q r u v w e g h = e
picks f true false a b x p q r u v w e g h = g refl
picks f false z a b x p q r u v w e g h = h

abbrev pub laid_by : List ℕ → List Clause → List ℕ → List ℕ
laid_by t cs p = sets (sets t 0 (rows_of cs)) (size cs + 1) p

pub rows_are : (t : List ℕ) (cs : List Clause) (p : List ℕ) (x : State) → rows_done (laid_by t cs p) x (tally_of cs p) ≡ laid_by t (done_clauses x cs p) (done_part x p)
rows_are t cs p x =
    picks (laid_by t) (in_number x) (eqb (value_of x) 0) _ _ _ _ _ _ _ _ _ (laid_clause t cs p) (λ e. laid_literal t cs p (literal_of x)) refl

pub tally_is : (cs : List Clause) (p : List ℕ) (x : State) → tally_done x (tally_of cs p) ≡ tally_of (done_clauses x cs p) (done_part x p)
tally_is cs p x =
    picks tally_of (in_number x) (eqb (value_of x) 0) _ _ _ _ _ _ _ _ _ (tally_clause cs p)
    (λ e. tally_literal cs p (value_of x) (literal_of x) (half (value_of x) (negated_of x) e)) refl
  where
    half : (n : ℕ) (m : Bool) → eqb n 0 ≡ false → suc ((2 * (n - 1) + pick m 1 0) / 2) ≡ n
    half n true e = grind arith
    half n false e = grind arith

pub done_is : (cs : List Clause) (p : List ℕ) (x : State) (skips heading starts : Bool) (line : ℕ) (row : List ℕ) (hs : List Header) →
    literal_done (reader cs p (value_of x) (negated_of x) (in_number x) skips heading starts line row hs)
    ≡ reader (done_clauses x cs p) (done_part x p) (value_of x) (negated_of x) (in_number x) skips heading starts line row hs
unfolding literal_done
done_is cs p x skips heading starts line row hs =
    picks (λ (ds : List Clause) (q : List ℕ). reader ds q (value_of x) (negated_of x) (in_number x) skips heading starts line row hs) (in_number x) (eqb (value_of x) 0) _ _ _ _ _ _ _ _
    _ refl (λ e. refl) refl
