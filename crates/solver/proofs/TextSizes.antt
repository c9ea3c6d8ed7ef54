-- How long the text of a formula is: within the limits of clauses and literals it is bytes, and no more than can be read at once.
-- `text_fits` is promised of it.
use Rattle.std.proofs.Common.{◌≡◌, ℕ, zero, suc, ◌+◌, ◌*◌, ◌/◌, ◌%◌, ◌^◌, ◌<◌, ◌≤◌, Bool, true, eqb, ltb, List, [], ◌∷◌, length, refl, arith, length-append}
use Rattle.std.proofs.lemmas.Bool.{ltb-true, lt-ltb, le-leb, and_parts, and_from}
use Rattle.formula.specs.Logic.{every, added_up, how_large, Clause}
use Rattle.dimacs.specs.Text.{digits_rev, turned, number_text, literal_text, clause_text, clauses_text, formula_text, vars_of}
use Rattle.dimacs.specs.Statements.{lits_fit}
use Rattle.dimacs.proofs.Writing.{length_turned, number_few}
use Rattle.solver.specs.House.{fitting}
use Rattle.solver.specs.Machine.{file_fits}
use Rattle.solver.proofs.Picks.{pick_both, every_append, every_one}
use Rattle.solver.proofs.Arenas.{fitting_parts}

-- OF SMALL NUMBERS
few_digits : (k f n : ℕ) → n < 10 ^ suc k → length (digits_rev f n) ≤ suc k
unfolding digits_rev
few_digits k zero n h = omega arith
few_digits zero (suc f) n h =
    let e : ltb n 10 ≡ true = lt-ltb n 10 (omega arith) in
    rw e (omega arith)
few_digits (suc k) (suc f) n h =
    pick_both (λ (x : List ℕ). length x ≤ suc (suc k)) (ltb n 10) _ _ (λ e. omega arith) (λ e. let l = few_digits k f (n / 10) (omega arith) in omega arith)

short_literal : (l : ℕ) → l < 32768 → length (literal_text l) ≤ 6
short_literal l h =
    let a = length_turned (digits_rev 20 (suc (l / 2))) in
    let b = few_digits 4 20 (suc (l / 2)) (omega arith) in
    pick_both (λ (x : List ℕ). length x ≤ 6) (eqb (l % 2) 1) (45 ∷ number_text (suc (l / 2))) (number_text (suc (l / 2))) (λ e. omega arith) (λ e. omega arith)

short_clause : (c : Clause) → lits_fit c ≡ true → length (clause_text c) ≤ 7 * length c + 2
unfolding clause_text every
short_clause [] e = omega arith
short_clause (l ∷ ls) e =
    let q = and_parts (ltb l 32768) (lits_fit ls) e in
    let a = short_literal l (ltb-true l 32768 q.0) in
    let b = short_clause ls q.1 in
    let s = length-append (literal_text l) (32 ∷ clause_text ls) in
    omega arith

short_clauses : (cs : List Clause) → every lits_fit cs ≡ true → length (clauses_text cs) ≤ 7 * how_large cs + 2 * length cs
unfolding clauses_text every added_up
short_clauses [] e = omega arith
short_clauses (c ∷ cs) e =
    let q = and_parts (lits_fit c) (every lits_fit cs) e in
    let a = short_clause c q.0 in
    let b = short_clauses cs q.1 in
    let s = length-append (clause_text c) (clauses_text cs) in
    omega arith

short_text : (cs : List Clause) → every lits_fit cs ≡ true → fitting cs ≡ true → length (formula_text cs) ≤ 1048576
unfolding formula_text
short_text cs e fit =
    let q = fitting_parts cs fit in
    let q₀ = q.0 in
    let q₁ = q.1 in
    let a = number_few (vars_of cs) in
    let b = number_few (length cs) in
    let s = short_clauses cs e in
    simp length-append (omega arith)

-- BYTES
abbrev byte : ℕ → Bool
byte b = ltb b 256

byte_then : (b : ℕ) (bs : List ℕ) → b < 256 → every byte bs ≡ true → every byte (b ∷ bs) ≡ true
unfolding every
byte_then b bs h e = and_from _ _ (lt-ltb b 256 h) e

turned_bytes : (xs : List ℕ) → every byte xs ≡ true → every byte (turned xs) ≡ true
unfolding turned every
turned_bytes [] e = refl
turned_bytes (x ∷ xs) e =
    let q = and_parts (byte x) (every byte xs) e in every_append byte (turned xs) (x ∷ []) (turned_bytes xs q.1) (every_one byte x q.0)

digits_bytes : (f n : ℕ) → every byte (digits_rev f n) ≡ true
unfolding digits_rev every
digits_bytes zero n = refl
digits_bytes (suc f) n =
    pick_both (λ (x : List ℕ). every byte x ≡ true) (ltb n 10) _ _ (λ e. let l = ltb-true n 10 e in every_one byte (48 + n) (lt-ltb _ _ (omega arith)))
    (λ e. byte_then (48 + n % 10) (digits_rev f (n / 10)) (omega arith) (digits_bytes f (n / 10)))

number_bytes : (n : ℕ) → every byte (number_text n) ≡ true
number_bytes n = turned_bytes (digits_rev 20 n) (digits_bytes 20 n)

literal_bytes : (l : ℕ) → every byte (literal_text l) ≡ true
literal_bytes l =
    let a = number_bytes (suc (l / 2)) in
    pick_both (λ (x : List ℕ). every byte x ≡ true) (eqb (l % 2) 1) (45 ∷ number_text (suc (l / 2))) (number_text (suc (l / 2)))
    (λ e. byte_then 45 (number_text (suc (l / 2))) (omega arith) a) (λ e. a)

clause_bytes : (c : Clause) → every byte (clause_text c) ≡ true
unfolding clause_text every
clause_bytes [] = refl
clause_bytes (l ∷ ls) = every_append byte (literal_text l) (32 ∷ clause_text ls) (literal_bytes l) (byte_then 32 (clause_text ls) (omega arith) (clause_bytes ls))

clauses_bytes : (cs : List Clause) → every byte (clauses_text cs) ≡ true
unfolding clauses_text every
clauses_bytes [] = refl
clauses_bytes (c ∷ cs) = every_append byte (clause_text c) (clauses_text cs) (clause_bytes c) (clauses_bytes cs)

first_bytes : every byte (112 ∷ 32 ∷ 99 ∷ 110 ∷ 102 ∷ 32 ∷ []) ≡ true
unfolding every
first_bytes = refl

text_bytes : (cs : List Clause) → every byte (formula_text cs) ≡ true
unfolding formula_text
text_bytes cs =
    every_append byte _ (10 ∷ clauses_text cs)
    (every_append byte _ (32 ∷ number_text (length cs)) (every_append byte (112 ∷ 32 ∷ 99 ∷ 110 ∷ 102 ∷ 32 ∷ []) (number_text (vars_of cs)) first_bytes (number_bytes (vars_of cs)))
    (byte_then 32 (number_text (length cs)) (omega arith) (number_bytes (length cs))))
    (byte_then 10 (clauses_text cs) (omega arith) (clauses_bytes cs))

pub text_fits : (cs : List Clause) → every lits_fit cs ≡ true → fitting cs ≡ true → file_fits (formula_text cs) ≡ true
text_fits cs e fit = and_from _ _ (le-leb _ _ (short_text cs e fit)) (text_bytes cs)
