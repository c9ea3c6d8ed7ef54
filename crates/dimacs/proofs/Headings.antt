-- The header as code reads it is the header of Text: words, numbers, and what is refused.
-- Steps of the loops over words and digits first, then the whole line.
use Rattle.std.proofs.Common.{◌≡◌, ℕ, zero, suc, ◌+◌, ◌-◌, ◌*◌, ◌^◌, ◌<◌, ◌≤◌, Bool, true, false, not, cond, ◌&&◌, eqb, leb, ltb, ◌⊎◌, List, [], ◌∷◌, ◌++◌, length, take, drop, Some, None, Ok, Err, Option, Result, sym, refl, ap, ◌∙◌, inl, inr, append_assoc, append-nil, arith}
use Rattle.std.proofs.lemmas.Bool.{cases_Bool, and_parts, ltb-true, eqb-true}
use Rattle.std.specs.Char.{digit_value}
use Rattle.std.specs.List.{position_or_len}
use Rattle.std.specs.Cmp.Lexicographic.{pointwise}
use Rattle.std.specs.Str.{IsAscii, IsUtf8}
use Rattle.std.proofs.lemmas.Str.{IsUtf8-from_ascii}
use Rattle.std.specs.Str.Parse.{AllDigits, IsNumeral, ParsesUnsigned, digits_value, digits_value_after, without_leading_plus}
use Rattle.std.specs.Option.{unwrap_or}
use Rattle.std.specs.Result.{MatchResult, OkIff, result_ok}
use Rattle.std.proofs.lemmas.List.Sums.{prefix_len-le-length}
use Rattle.formula.specs.Logic.{pick, any, none_of}
use Rattle.dimacs.specs.Text.{is_blank, is_digit, words_from, number_of, word_number, same_bytes, Reader, Read, reader, goes_on, wrong, header_read, with_words, with_numbers}
use Rattle.dimacs.specs.declared.read.Fault.{Fault}
use Rattle.dimacs.specs.declared.read.Fault.TheVariants.{BadHeader}
use Rattle.dimacs.specs.Scan.{number_told, first_told, second_told}
use Rattle.dimacs.specs.declared.header.Promise.{Promise}
use Rattle.dimacs.specs.Heading.{unblanked, first_of, first_word, after_word, words_read, numbers_read, heading_read}

-- NUMBERS, by the library's words for what `parse` reads
pub digit_is : (c : ℕ) → is_digit c ≡ true → (digit_value c ≡ c - 48) × (digit_value c < 10)
digit_is c e = let k = and_parts (leb 48 c) (leb c 57) e in (grind arith, grind arith)

pub is_digit_from : (c : ℕ) → digit_value c < 10 → (is_digit c ≡ true) × (digit_value c ≡ c - 48)
is_digit_from c h = (grind arith, grind arith)

pub value_more : (n : ℕ) (ds : List ℕ) → n ≤ digits_value_after 10 n ds
value_more n [] = omega arith
value_more n (c ∷ cs) = let ih = value_more (n * 10 + digit_value c) cs in omega arith

pub number_is : (n : ℕ) (ds : List ℕ) → AllDigits 10 ds → digits_value_after 10 n ds < 18446744073709551616 → number_of n ds ≡ digits_value_after 10 n ds ∷ []
unfolding number_of
number_is n [] a h = refl
number_is n (c ∷ cs) a h =
    let d = is_digit_from c a.0 in
    let more = value_more (n * 10 + digit_value c) cs in
    let ih = number_is (n * 10 + digit_value c) cs a.1 h in
    grind arith

pub number_not : (n : ℕ) (ds : List ℕ) → n < 18446744073709551616 → (AllDigits 10 ds → digits_value_after 10 n ds < 18446744073709551616 → ⊥) → number_of n ds ≡ []
unfolding number_of
number_not n [] k h = absurd (h tt k)
number_not n (c ∷ cs) k h = elim (cases_Bool (is_digit c && ltb (n * 10 + (c - 48)) 18446744073709551616)) [
  | inl e ↦ (
      let t = and_parts (is_digit c) _ e in
      let d = digit_is c t.0 in
      rw e (number_not (n * 10 + (c - 48)) cs (ltb-true _ _ t.1) (λ a b. h (d.1, a) (rw d.0 b)))
      )
  | inr e ↦ rw e refl
]

-- a word without its plus is read alike
pub word_rest : (w : List ℕ) → word_number w ≡ pick (none_of (without_leading_plus w)) [] (number_of 0 (without_leading_plus w))
unfolding word_number none_of
word_rest [] = refl
word_rest (b ∷ w) = elim (cases_Bool (eqb b 43)) [
  | inl e ↦ rw e refl
  | inr e ↦ rw e refl
]

-- THE WHOLE LINE
pub same_is : (xs ys : List ℕ) → same_bytes xs ys ≡ pointwise eqb xs ys
unfolding same_bytes
same_is [] [] = refl
same_is [] (y ∷ ys) = refl
same_is (x ∷ xs) [] = refl
same_is (x ∷ xs) (y ∷ ys) = ap (λ b. eqb x y && b) (same_is xs ys)

pub some_last : (w : List ℕ) (b : ℕ) → none_of (w ++ b ∷ []) ≡ false
unfolding none_of
some_last [] b = refl
some_last (x ∷ w) b = refl

-- the words: the first, and those of what follows it
abbrev word_start : List ℕ → ℕ
word_start xs = position_or_len (λ b. not (is_blank b)) xs

abbrev word_end : List ℕ → ℕ
word_end xs = position_or_len is_blank xs

drop_one : (n b : ℕ) (xs : List ℕ) → drop (1 + n) (b ∷ xs) ≡ drop n xs
drop_one n b xs = let e : 1 + n ≡ suc n = omega arith in ap (λ k. drop k (b ∷ xs)) e

take_one : (n b : ℕ) (xs : List ℕ) → take (1 + n) (b ∷ xs) ≡ b ∷ take n xs
take_one n b xs = let e : 1 + n ≡ suc n = omega arith in ap (λ k. take k (b ∷ xs)) e

pub words_blank : (xs : List ℕ) → words_from [] xs ≡ words_from [] (unblanked xs)
unfolding words_from none_of
words_blank [] = refl
words_blank (b ∷ xs) = elim (cases_Bool (is_blank b)) [
  | inl e ↦ rw e (words_blank xs ∙ ap (words_from []) (sym (drop_one (word_start xs) b xs)))
  | inr e ↦ rw e (rw e refl)
]

pub no_blank : (xs : List ℕ) → word_start (unblanked xs) ≡ 0
no_blank [] = refl
no_blank (b ∷ xs) = elim (cases_Bool (is_blank b)) [
  | inl e ↦ rw e (ap word_start (drop_one (word_start xs) b xs) ∙ no_blank xs)
  | inr e ↦ rw e (rw e refl)
]

-- a word goes on as far as no blank comes
abbrev word_then : List ℕ → List ℕ → ℕ → List (List ℕ)
word_then w ys n = (w ++ take n ys) ∷ words_from [] (drop n ys)

pub words_word : (w ys : List ℕ) → none_of w ≡ false → words_from w ys ≡ word_then w ys (word_end ys)
unfolding words_from none_of
words_word w [] h = rw (h, append-nil w) refl
words_word w (b ∷ ys) h = elim (cases_Bool (is_blank b)) [
  | inl e ↦ rw (e, h, append-nil w) (rw e refl)
  | inr e ↦ rw e (go (word_end ys) (words_word (w ++ b ∷ []) ys (some_last w b)))
]
  where
    go : (n : ℕ) → words_from (w ++ b ∷ []) ys ≡ word_then (w ++ b ∷ []) ys n → words_from (w ++ b ∷ []) ys ≡ word_then w (b ∷ ys) (1 + n)
    go n ih =
        ih ∙ (ap (λ (z : List ℕ). z ∷ words_from [] (drop n ys)) (append_assoc w (b ∷ []) (take n ys) ∙ ap (λ (z : List ℕ). w ++ z) (sym (take_one n b ys)))
        ∙ ap (λ (z : List ℕ). (w ++ take (1 + n) (b ∷ ys)) ∷ words_from [] z) (sym (drop_one n b ys)))

pub words_here : (ys : List ℕ) → word_start ys ≡ 0 →
    words_from [] ys ≡ pick (none_of (take (word_end ys) ys)) [] (take (word_end ys) ys ∷ words_from [] (drop (word_end ys) ys))
unfolding words_from none_of
words_here [] h = refl
words_here (b ∷ ys) h = elim (cases_Bool (is_blank b)) [
  | inl e ↦ (let z : 1 + word_start ys ≡ 0 = rw e at h in absurd (omega arith))
  | inr e ↦ rw e (go (word_end ys) (words_word (b ∷ []) ys refl))
]
  where
    go : (n : ℕ) → words_from (b ∷ []) ys ≡ word_then (b ∷ []) ys n →
        words_from (b ∷ []) ys ≡ pick (none_of (take (1 + n) (b ∷ ys))) [] (take (1 + n) (b ∷ ys) ∷ words_from [] (drop (1 + n) (b ∷ ys)))
    go n ih = rw (take_one n b ys, drop_one n b ys) ih

pub words_first : (xs : List ℕ) → words_from [] xs ≡ pick (none_of (first_word xs)) [] (first_word xs ∷ words_from [] (after_word xs))
unfolding first_word after_word
words_first xs = words_blank xs ∙ words_here (unblanked xs) (no_blank xs)

-- what is told, from either side
abbrev pub second_row : Option ℕ → List ℕ
second_row None = []
second_row (Some n) = n ∷ []

abbrev pub numbers_told : Fault → List ℕ
numbers_told f = first_told f ∷ second_row (second_told f)

abbrev pub as_read : Reader → Result Promise Fault → Read
as_read r (Ok p) =
    goes_on (reader r.read_clauses r.part r.number r.minus r.in_lit r.skips false r.starts r.line [] (record { head_vars = p.vars; head_clauses = p.clauses } ∷ []))
as_read r (Err f) = wrong (number_told f) (numbers_told f)

pub one_number : (n : ℕ) (w : List ℕ) → (number_of n w ≡ []) ⊎ ((m : ℕ) × (number_of n w ≡ m ∷ []))
unfolding number_of
one_number n [] = inr (n, refl)
one_number n (b ∷ w) = elim (cases_Bool (is_digit b && ltb (n * 10 + (b - 48)) 18446744073709551616)) [
  | inl e ↦ rw e (one_number (n * 10 + (b - 48)) w)
  | inr e ↦ rw e (inl refl)
]

pub a_number : (w : List ℕ) → (word_number w ≡ []) ⊎ ((m : ℕ) × (word_number w ≡ m ∷ []))
unfolding word_number
a_number [] = inl refl
a_number (b ∷ w) = elim (cases_Bool (eqb b 43)) [
  | inl e ↦ rw e (elim (none_of w) as (λ v. (pick v [] (number_of 0 w) ≡ []) ⊎ ((m : ℕ) × (pick v [] (number_of 0 w) ≡ m ∷ []))) [ true ↦ inl refl | false ↦ one_number 0 w ])
  | inr e ↦ rw e (one_number 0 (b ∷ w))
]

pub words_are : (r : Reader) (w v c x : List ℕ) (t : List (List ℕ)) →
    with_words r (pick (none_of w) [] (w ∷ pick (none_of v) [] (v ∷ pick (none_of c) [] (c ∷ pick (none_of x) [] (x ∷ t)))))
    ≡ as_read r (pick (pointwise eqb w (99 ∷ 110 ∷ 102 ∷ [])) (numbers_read v c (eqb (length x) 0) r.line) (Err (BadHeader r.line)))
unfolding with_words with_numbers none_of any word_number
words_are r [] v c x t = refl
words_are r (a ∷ w) [] c x t = let e = same_is (a ∷ w) (99 ∷ 110 ∷ 102 ∷ []) in grind arith
words_are r (a ∷ w) (b ∷ v) [] x t = let n = a_number (b ∷ v) in let e = same_is (a ∷ w) (99 ∷ 110 ∷ 102 ∷ []) in grind arith
words_are r (a ∷ w) (b ∷ v) (d ∷ c) [] t = let n = a_number (b ∷ v) in let m = a_number (d ∷ c) in let e = same_is (a ∷ w) (99 ∷ 110 ∷ 102 ∷ []) in grind arith
words_are r (a ∷ w) (b ∷ v) (d ∷ c) (y ∷ x) t = let n = a_number (b ∷ v) in let m = a_number (d ∷ c) in let e = same_is (a ∷ w) (99 ∷ 110 ∷ 102 ∷ []) in grind arith

pub words_all : (xs : List ℕ) → let v : List ℕ = after_word xs in let c : List ℕ = after_word v in let x : List ℕ = after_word c in
    words_from [] xs
    ≡ pick (none_of (first_word xs)) [] (first_word xs ∷ pick (none_of (first_word v)) [] (first_word v ∷ pick (none_of (first_word c)) [] (first_word c ∷
    pick (none_of (first_word x)) [] (first_word x ∷ words_from [] (after_word x)))))
words_all xs =
    let v : List ℕ = after_word xs in let c : List ℕ = after_word v in let x : List ℕ = after_word c in
    words_first xs ∙ ap (λ (z : List (List ℕ)). pick (none_of (first_word xs)) [] (first_word xs ∷ z))
    (words_first v ∙ ap (λ (z : List (List ℕ)). pick (none_of (first_word v)) [] (first_word v ∷ z))
    (words_first c ∙ ap (λ (z : List (List ℕ)). pick (none_of (first_word c)) [] (first_word c ∷ z)) (words_first x)))

pub header_is : (r : Reader) → header_read r ≡ as_read r (heading_read r.header_row r.line)
unfolding header_read
header_is r =
    ap (λ b. pick b (with_words r (words_from [] xs)) bad) (same_is (take 2 r.header_row) (112 ∷ 32 ∷ []))
    ∙ (ap (λ z. pick (pointwise eqb (take 2 r.header_row) (112 ∷ 32 ∷ [])) z bad) (ap (with_words r) (words_all xs) ∙ words_are r _ _ _ _ _)
    ∙ out (pointwise eqb (take 2 r.header_row) (112 ∷ 32 ∷ [])))
  where
    xs : List ℕ
    xs = drop 2 r.header_row

    bad : Read
    bad = wrong 22 (r.line ∷ [])

    out : (b : Bool) → pick b (as_read r (words_read xs r.line)) bad ≡ as_read r (pick b (words_read xs r.line) (Err (BadHeader r.line)))
    out true = refl
    out false = refl

-- WHAT THE LIBRARY ANSWERS
pub place_is : (test : ℕ → Bool) (xs : List ℕ) (r : Option ℕ) (n : ℕ) → r ≡ cond (ltb (position_or_len test xs) (length xs)) (Some (position_or_len test xs)) None →
    n ≡ unwrap_or r (length xs) → n ≡ position_or_len test xs
place_is test xs r n e u = let k = prefix_len-le-length (λ x. not (test x)) xs in grind arith

pub parsed_is : {E : Type 0} (w : List ℕ) (r : Result ℕ E) → ParsesUnsigned 64 10 w r → result_ok r ≡ first_of (word_number w)
unfolding none_of
parsed_is {E} w r h = go (without_leading_plus w) r h ∙ ap first_of (sym (word_rest w))
  where
    go : (ds : List ℕ) (r : Result ℕ E) → OkIff r (IsNumeral 10 ds × (digits_value 10 ds < 2 ^ 64)) (digits_value 10 ds) → result_ok r ≡ first_of (pick (none_of ds) [] (number_of 0 ds))
    go [] (Ok n) ((a, b), v) = absurd (omega (arith, a.0))
    go (d ∷ ds) (Ok n) ((a, b), v) = rw (number_is 0 (d ∷ ds) a.1 b, v) refl
    go [] (Err e) h = refl
    go (d ∷ ds) (Err e) h = rw (number_not 0 (d ∷ ds) (omega arith) (λ a b. h ((omega arith, a), b))) refl

digits_ascii : (ds : List ℕ) → AllDigits 10 ds → IsAscii ds
digits_ascii [] a i = omega arith
digits_ascii (d ∷ ds) a zero = grind arith
digits_ascii (d ∷ ds) a (suc i) = digits_ascii ds a.1 i

plus_ascii : (w : List ℕ) → IsAscii (without_leading_plus w) → IsAscii w
plus_ascii [] a = a
plus_ascii (b ∷ w) a = elim (cases_Bool (eqb b 43)) [
  | inl e ↦ go (eqb-true b 43 e) (rw e at a)
  | inr e ↦ rw e at a
]
  where
    go : b ≡ 43 → IsAscii w → IsAscii (b ∷ w)
    go e a zero = omega arith
    go e a (suc i) = a i

-- a word that is no text is no number
pub unread_is : (w : List ℕ) → ¬ (IsUtf8 w) → None ≡ first_of (word_number w)
unfolding none_of
unread_is w h = ap first_of (sym (word_rest w ∙ go (without_leading_plus w) (λ a. h (IsUtf8-from_ascii w (plus_ascii w a)))))
  where
    go : (ds : List ℕ) → (IsAscii ds → ⊥) → pick (none_of ds) [] (number_of 0 ds) ≡ []
    go [] h = refl
    go (d ∷ ds) h = number_not 0 (d ∷ ds) (omega arith) (λ a b. h (digits_ascii (d ∷ ds) a))

pub unread_at : {A E : Type 0} (w : List ℕ) (P : A → Type 0) (Q : E → Type 0) (r : Result A E) → MatchResult r P (λ e. ¬ (IsUtf8 w) × Q e) → result_ok r ≡ None → None ≡ first_of (word_number w)
unread_at w P Q (Ok x) m e = (let z : ◌≡◌ {A = ℕ} 0 1 = cc in absurd (omega arith))
unread_at w P Q (Err x) m e = unread_is w m.0

pub text_at : {A E : Type 0} (P : A → Type 0) (Q : E → Type 0) (r : Result A E) (x : A) → MatchResult r P Q → result_ok r ≡ Some x → P x
text_at P Q (Ok y) x m e = (let z : x ≡ y = cc in rw z m)
text_at P Q (Err y) x m e = (let z : ◌≡◌ {A = ℕ} 0 1 = cc in absurd (omega arith))
