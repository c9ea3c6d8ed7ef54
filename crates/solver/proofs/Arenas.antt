-- Clauses in the arena: a table that begins with a formula's rows has its clauses, and more are written behind them.
-- Also what the machine's test of the sizes comes to, and that a row's variables are below the number counted for it.
use Rattle.std.proofs.Common.{◌≡◌, ℕ, suc, ◌+◌, ◌-◌, ◌/◌, ◌≤◌, true, ◌&&◌, ltb, leb, List, [], ◌∷◌, ◌++◌, length, take, drop, set, sym, refl, ap, ◌∙◌, append_assoc, append-nil, zero-add, arith, length-append, take-append-drop, length-take-le, take_at, drop_at}
use lib.Seq.{sets, sets-eq, take-set-le}
use Rattle.std.proofs.lemmas.Bool.{ltb-true, lt-ltb, leb-true, and_parts, and_from}
use Rattle.formula.specs.Logic.{every, Clause, added_up, how_large}
use Rattle.formula.specs.Arena.{clause_row, rows_of, size, clauses_in}
use Rattle.dimacs.specs.Text.{row_vars, vars_of, larger}
use Rattle.dimacs.specs.Statements.{lits_fit}
use Rattle.search.specs.Ends.{row_below}
use Rattle.solver.specs.House.{fitting}
use Rattle.solver.proofs.Picks.{pick_both, larger_left, larger_right, every_imp}

clauses_in_rows : (cs : List Clause) (rest : List ℕ) → clauses_in (length cs) (rows_of cs ++ rest) ≡ cs
unfolding clauses_in rows_of clause_row
clauses_in_rows [] rest = refl
clauses_in_rows (c ∷ cs) rest =
    let q : List ℕ = rows_of cs ++ rest in
    ap (λ (x : List ℕ). take (length c) x ∷ clauses_in (length cs) (drop (length c) x)) (append_assoc c (rows_of cs) rest)
    ∙ ap (λ (x : List ℕ). x ∷ clauses_in (length cs) (drop (length c) (c ++ q))) (take_at c q (length c) refl)
    ∙ ap (λ (x : List ℕ). c ∷ clauses_in (length cs) x) (drop_at c q (length c) refl)
    ∙ ap (λ (x : List Clause). c ∷ x) (clauses_in_rows cs rest)

pub clauses_are : (cs : List Clause) (n : ℕ) (ar : List ℕ) → take n ar ≡ rows_of cs → clauses_in (length cs) ar ≡ cs
clauses_are cs n ar e =
    ap (clauses_in (length cs)) (sym (take-append-drop n ar) ∙ ap (λ (x : List ℕ). x ++ drop n ar) e) ∙ clauses_in_rows cs (drop n ar)

-- MORE OF THEM
rows_of_append : (cs ds : List Clause) → rows_of (cs ++ ds) ≡ rows_of cs ++ rows_of ds
unfolding rows_of
rows_of_append [] ds = refl
rows_of_append (c ∷ cs) ds = ap (λ (x : List ℕ). clause_row c ++ x) (rows_of_append cs ds) ∙ sym (append_assoc (clause_row c) (rows_of cs) (rows_of ds))

pub rows_one : (c : Clause) → rows_of (c ∷ []) ≡ clause_row c
unfolding rows_of
rows_one c = append-nil (clause_row c)

how_large_append : (cs ds : List Clause) → how_large (cs ++ ds) ≡ how_large cs + how_large ds
unfolding added_up
how_large_append [] ds = omega arith
how_large_append (x ∷ cs) ds = let h = how_large_append cs ds in omega arith

pub how_large_one : (c : Clause) → how_large (c ∷ []) ≡ length c
unfolding added_up
how_large_one c = omega arith

pub size_append : (cs ds : List Clause) → size (cs ++ ds) ≡ size cs + size ds
size_append cs ds = let a = how_large_append cs ds in let b = length-append cs ds in omega arith

length_rows : (cs : List Clause) → length (rows_of cs) ≡ size cs
unfolding rows_of clause_row added_up
length_rows [] = refl
length_rows (c ∷ cs) = let a = length-append c (rows_of cs) in let b = length_rows cs in omega arith

-- A ROW WRITTEN
take_sets : (l vs : List ℕ) (i : ℕ) → i + length vs ≤ length l → take (i + length vs) (sets l i vs) ≡ take i l ++ vs
take_sets l vs i h =
    ap (λ (x : List ℕ). take (i + length vs) x) (sets-eq vs l i h)
    ∙ take_at (take i l ++ vs) (drop (i + length vs) l) (i + length vs)
    (length-append (take i l) vs ∙ ap (λ (x : ℕ). x + length vs) (length-take-le i l (omega arith)))

-- a row written in front is what stands there
pub take_front : (t row : List ℕ) → length row ≤ length t → take (length row) (sets t 0 row) ≡ row
take_front t row l = ap (λ (n : ℕ). take n (sets t 0 row)) (sym (zero-add (length row))) ∙ take_sets t row 0 (omega arith)

-- what stands before it stays
pub take_before : (vs l : List ℕ) (n i : ℕ) → n ≤ i → take n (sets l i vs) ≡ take n l
take_before [] l n i h = refl
take_before (v ∷ vs) l n i h = take_before vs (set l i v) n (suc i) (omega arith) ∙ take-set-le n l i v h

pub take_rows : (cs ds : List Clause) (ar : List ℕ) → size (cs ++ ds) ≤ length ar → take (size cs) ar ≡ rows_of cs →
    take (size (cs ++ ds)) (sets ar (size cs) (rows_of ds)) ≡ rows_of (cs ++ ds)
take_rows cs ds ar h e =
    let n = length_rows ds in
    let sz : size (cs ++ ds) ≡ size cs + length (rows_of ds) = let k = size_append cs ds in omega arith in
    ap (λ (n : ℕ). take n (sets ar (size cs) (rows_of ds))) sz ∙ take_sets ar (rows_of ds) (size cs) (omega arith)
    ∙ ap (λ (x : List ℕ). x ++ rows_of ds) e ∙ sym (rows_of_append cs ds)

-- the machine's test is whether they fit
pub fits_same : (cs ds : List Clause) → (leb (length cs + length ds) 16384 && leb (size cs - length cs + how_large ds) 65536) ≡ fitting (cs ++ ds)
fits_same cs ds =
    let a : size cs - length cs + how_large ds ≡ how_large (cs ++ ds) = let h = how_large_append cs ds in omega arith in
    ap (λ (x : ℕ). leb (length cs + length ds) 16384 && leb x 65536) a
    ∙ ap (λ (x : ℕ). leb x 16384 && leb (how_large (cs ++ ds)) 65536) (sym (length-append cs ds))

pub fitting_parts : (cs : List Clause) → fitting cs ≡ true → (length cs ≤ 16384) × (how_large cs ≤ 65536)
fitting_parts cs e = let q = and_parts (leb (length cs) 16384) (leb (how_large cs) 65536) e in (leb-true _ _ q.0, leb-true _ _ q.1)

-- VARIABLES
pub below_more : (n n₁ : ℕ) (c : Clause) → n ≤ n₁ → row_below n c ≡ true → row_below n₁ c ≡ true
below_more n n₁ c le h = every_imp (λ l. ltb (l / 2) n) (λ l. ltb (l / 2) n₁) (λ l k. let q = ltb-true (l / 2) n k in lt-ltb _ _ (omega arith)) c h

pub all_below_more : (n n₁ : ℕ) (cs : List Clause) → n ≤ n₁ → every (row_below n) cs ≡ true → every (row_below n₁) cs ≡ true
all_below_more n n₁ cs le h = every_imp (row_below n) (row_below n₁) (λ c b. below_more n n₁ c le b) cs h

pub below_row : (c : Clause) → row_below (row_vars c) c ≡ true
unfolding every row_vars
below_row [] = refl
below_row (l ∷ c) =
    and_from _ _ (lt-ltb _ _ (larger_left (suc (l / 2)) (row_vars c)))
    (below_more (row_vars c) (larger (suc (l / 2)) (row_vars c)) c (larger_right (suc (l / 2)) (row_vars c)) (below_row c))

pub vars_of_one : (c : Clause) → vars_of (c ∷ []) ≡ row_vars c
unfolding vars_of
vars_of_one c = pick_both (λ (x : ℕ). x ≡ row_vars c) (ltb (row_vars c) 0) 0 (row_vars c) (λ h. let q = ltb-true (row_vars c) 0 h in omega arith) (λ h. refl)

pub vars_of_append : (cs ds : List Clause) → vars_of (cs ++ ds) ≡ larger (vars_of cs) (vars_of ds)
unfolding vars_of
vars_of_append [] ds = grind arith
vars_of_append (c ∷ cs) ds = let ih = vars_of_append cs ds in grind arith

pub below_vars : (cs : List Clause) → every (row_below (vars_of cs)) cs ≡ true
unfolding every vars_of
below_vars [] = refl
below_vars (c ∷ cs) =
    and_from _ _ (below_more (row_vars c) (larger (row_vars c) (vars_of cs)) c (larger_left (row_vars c) (vars_of cs)) (below_row c))
    (all_below_more (vars_of cs) (larger (row_vars c) (vars_of cs)) cs (larger_right (row_vars c) (vars_of cs)) (below_vars cs))

pub below_fit : (n : ℕ) (cs : List Clause) → n ≤ 16384 → every (row_below n) cs ≡ true → every lits_fit cs ≡ true
below_fit n cs le h =
    every_imp (row_below n) lits_fit (λ c b. every_imp (λ l. ltb (l / 2) n) (λ l. ltb l 32768) (λ l k. let q = ltb-true (l / 2) n k in lt-ltb _ _ (omega arith)) c b) cs h
