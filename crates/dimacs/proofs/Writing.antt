-- Text written piece by piece: a number's digits, texts one behind another, and the front of a row.
-- At the end, for users: a formula's text is its pieces, and how long a piece can be.
use Rattle.std.proofs.Common.{◌≡◌, ℕ, zero, suc, ◌+◌, ◌/◌, ◌%◌, ◌<◌, ◌≤◌, Bool, true, false, eqb, leb, List, [], ◌∷◌, ◌++◌, length, take, drop, sym, ap, ◌∙◌, subst, refl, append_assoc, arith}
use lib.Seq.{sets, sets-eq}
use borrow.Rule.Slice.PartMut.{put_mid}
use Rattle.std.specs.Fmt.{decimal}
use Rattle.std.proofs.lemmas.Fmt.{AppendsLastDigit, decimal_from_appends, length-decimal-le}
use Rattle.std.proofs.lemmas.List.{length-append, drop-drop}
use Rattle.std.proofs.lemmas.Bool.{lt-ltb, le-ltb}
use Rattle.formula.specs.Logic.{pick, Clause}
use Rattle.dimacs.specs.Text.{digits_rev, turned, number_text, literal_text, clauses_text, vars_of, formula_text}
use Rattle.dimacs.specs.Pieces.{header_text, literal_piece, Puts}
use Rattle.dimacs.specs.Written.{Written}
use Rattle.dimacs.proofs.Laying.{sets_append}

-- DIGITS
digits_appended : AppendsLastDigit (λ f n. turned (digits_rev f n))
unfolding digits_rev turned
digits_appended = record {
  one = λ k n h. rw (lt-ltb n 10 h) refl;
  more = λ k n h. rw (le-ltb n 10 h) refl;
}

pub number_text_is : (n : ℕ) → n < 18446744073709551616 → number_text n ≡ decimal n
number_text_is n h = decimal_from_appends (λ f m. turned (digits_rev f m)) digits_appended 20 n h (length-decimal-le 20 n (omega arith) (omega arith) h)

pub length_turned : (xs : List ℕ) → length (turned xs) ≡ length xs
unfolding turned
length_turned [] = refl
length_turned (x ∷ xs) = length-append (turned xs) (x ∷ []) ∙ (let ih = length_turned xs in omega arith)

pub digits_few : (f n : ℕ) → length (digits_rev f n) ≤ f
unfolding digits_rev
digits_few zero n = omega arith
digits_few (suc f) n = let ih = digits_few f (n / 10) in grind arith

pub number_few : (n : ℕ) → length (number_text n) ≤ 20
number_few n = let a = length_turned (digits_rev 20 n) in let b = digits_few 20 n in omega arith

-- ROWS of bytes
pub sets_front : (xs t : List ℕ) → length xs ≤ length t → sets t 0 xs ≡ xs ++ drop (length xs) t
sets_front xs t h = sets-eq xs t 0 (omega arith) ∙ ap (λ k. xs ++ drop k t) (omega arith)

pub text_copied : (t text ys : List ℕ) (start k : ℕ) → start + length text ≤ length t → ys ≡ text → k ≡ length text → put_mid start k t ys ≡ sets t start text
text_copied t text ys start k h e n =
    ap (λ (xs : List ℕ). take start t ++ (xs ++ drop k (drop start t))) e
    ∙ (ap (λ (xs : List ℕ). take start t ++ (text ++ xs)) (drop-drop k start t ∙ ap (λ j. drop (start + j) t) n) ∙ (sym (append_assoc (take start t) text (drop (start + length text) t)) ∙ sym (sets-eq text t start h)))

-- TEXTS one behind another
pub written_then : (xs ys t u v : List ℕ) (a b c : ℕ) → Written xs t a b u → Written ys u b c v → Written (xs ++ ys) t a c v
written_then xs ys t u v a b c p q = record {
  behind = let l = length-append xs ys in let x = p.behind in let y = q.behind in omega arith;
  row = let e = sets_append t xs ys a in let x = p.behind in let y = p.row in let z = q.row in cc;
}

pub puts_all : (xs t u : List ℕ) (r : ℕ) → Written xs t 0 r u → leb 128 (length t) ≡ true → length xs ≤ 128 → Puts xs t (leb 128 (length t)) r u
puts_all xs t u r w e h = rw e (w.behind ∙ (omega arith), w.row ∙ sets_front xs t (grind arith))

pub sign_before : (l n : ℕ) (b : Bool) → b ≡ eqb (l % 2) 1 → n ≡ suc (l / 2) → pick b (45 ∷ []) [] ++ number_text n ≡ literal_text l
sign_before l n true e h = rw (sym e, h)
sign_before l n false e h = rw (sym e, h)

pub literal_written : (l n p q : ℕ) (b : Bool) (t u v : List ℕ) → b ≡ eqb (l % 2) 1 → n ≡ suc (l / 2) → Written (pick b (45 ∷ []) []) t 0 p u → Written (number_text n) u p q v →
    Written (literal_text l) t 0 q v
literal_written l n p q b t u v e h x y = subst (λ (xs : List ℕ). Written xs t 0 q v) (sign_before l n b e h) (written_then _ _ _ _ _ _ _ _ x y)

-- FOR USERS: how long a piece can be
pub length_header : (v c : ℕ) → length (header_text v c) ≤ 48
unfolding header_text
length_header v c = let a = number_few v in let b = number_few c in simp length-append (omega arith)

pub length_literal : (l : ℕ) → length (literal_piece l) ≤ 22
unfolding literal_piece
length_literal l = let a = number_few (suc (l / 2)) in simp length-append (grind arith)

-- and a formula's text as its pieces
pub formula_pieces : (cs : List Clause) → formula_text cs ≡ header_text (vars_of cs) (length cs) ++ clauses_text cs
unfolding formula_text header_text
formula_pieces cs = sym (append_assoc (((112 ∷ 32 ∷ 99 ∷ 110 ∷ 102 ∷ 32 ∷ []) ++ number_text (vars_of cs)) ++ 32 ∷ number_text (length cs)) (10 ∷ []) (clauses_text cs))
