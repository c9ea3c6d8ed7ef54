-- A formula that is written is read as what it was: byte by byte, number by number, line by line.
-- The last lemma is the contract of `there_and_back`.
use Rattle.std.proofs.Common.{◌≡◌, ℕ, suc, ◌+◌, ◌-◌, ◌*◌, ◌/◌, ◌%◌, ◌<◌, ◌≤◌, Bool, true, false, ltb, ◌⊎◌, List, [], ◌∷◌, ◌++◌, length, sym, refl, ap, ◌∙◌, inl, inr, true≢false, append_assoc, append-nil, subst, arith}
use Rattle.formula.specs.Logic.{pick, every, none_of, Clause}
use Rattle.std.proofs.lemmas.Bool.{ltb-true, le-ltb, eq-eqb, and_parts}
use Rattle.formula.proofs.Rows.{In, in_cases}
use Rattle.formula.proofs.Soundness.{even_or_odd}
use Rattle.dimacs.specs.Text.{Reader, Header, Read, goes_on, reader, first_reader, bytes_read, next_byte, byte_read, digit_read, is_end, skipped, number_text, literal_text, clause_text, clauses_text, literal_done, number_of, word_number, words_from, is_blank, row_vars, vars_of, formula_text, file_read, at_end, ended, with_header, header_read, with_words, with_numbers, same_bytes, then_out}
use Rattle.std.specs.Fmt.{decimal}
use Rattle.std.proofs.lemmas.Fmt.{decimal_by_steps, decimal_is_IsNumeral}
use Rattle.dimacs.proofs.Headings.{number_is, some_last}
use Rattle.dimacs.proofs.Writing.{number_text_is}
use Rattle.dimacs.specs.Statements.{lits_fit}
use Rattle.dimacs.specs.Statements.{ThereAndBack}

pub bytes-++ : (xs ys : List ℕ) (r : Read) → bytes_read (xs ++ ys) r ≡ bytes_read ys (bytes_read xs r)
unfolding bytes_read
bytes-++ [] ys r = refl
bytes-++ (x ∷ xs) ys r = bytes-++ xs ys (next_byte x r)

-- between bytes of a clause
abbrev pub body : List Clause → List ℕ → ℕ → Bool → Bool → Bool → ℕ → List Header → Reader
body ds p n m l st i hs = reader ds p n m l false false st i [] hs

pub digit_step : (ds : List Clause) (p : List ℕ) (n b : ℕ) (m l st : Bool) (i : ℕ) (hs : List Header) → 48 ≤ b → b ≤ 57 → n * 10 + (b - 48) ≤ 16384 →
    next_byte b (goes_on (body ds p n m l st i hs)) ≡ goes_on (body ds p (n * 10 + (b - 48)) m true false i hs)
unfolding next_byte byte_read digit_read
digit_step ds p n b m l st i hs x y z = grind arith

pub blank_step : (ds : List Clause) (p : List ℕ) (n : ℕ) (m : Bool) (i : ℕ) (hs : List Header) →
    next_byte 32 (goes_on (body ds p (suc n) m true false i hs)) ≡ goes_on (body ds (p ++ (2 * n + pick m 1 0) ∷ []) 0 false false false i hs)
unfolding next_byte byte_read literal_done
blank_step ds p n m i hs = grind arith

pub minus_step : (ds : List Clause) (p : List ℕ) (st : Bool) (i : ℕ) (hs : List Header) →
    next_byte 45 (goes_on (body ds p 0 false false st i hs)) ≡ goes_on (body ds p 0 true false false i hs)
unfolding next_byte byte_read
minus_step ds p st i hs = refl

pub end_step : (ds : List Clause) (p : List ℕ) (st : Bool) (i : ℕ) (hs : List Header) →
    bytes_read (48 ∷ 10 ∷ []) (goes_on (body ds p 0 false false st i hs)) ≡ goes_on (body (ds ++ p ∷ []) [] 0 false false true (suc i) hs)
unfolding bytes_read next_byte byte_read digit_read literal_done
end_step ds p st i hs = refl

-- NUMBERS: one digit, or a number's tenth and its last digit
pub number_ind : (P : ℕ → List ℕ → Type 0) → ((n : ℕ) → n < 10 → P n ((48 + n) ∷ [])) → ((n : ℕ) (xs : List ℕ) → 10 ≤ n → P (n / 10) xs → P n (xs ++ (48 + n % 10) ∷ [])) →
    (n : ℕ) → n < 18446744073709551616 → P n (number_text n)
number_ind P one more n h = subst (P n) (sym (number_text_is n h)) (decimal_by_steps P one more n h)

abbrev pub Digits : List ℕ → Type 0
Digits xs = (b : ℕ) → In b xs → (48 ≤ b) × (b ≤ 57)

pub digits_in : (n : ℕ) → n < 18446744073709551616 → Digits (number_text n)
digits_in = number_ind (λ n xs. Digits xs) (λ n h b i. one n b h i) (λ n xs h ih b i. more n xs b ih (in_cases b xs ((48 + n % 10) ∷ []) i))
  where
    one : (n b : ℕ) → n < 10 → In b ((48 + n) ∷ []) → (48 ≤ b) × (b ≤ 57)
    one n b h (inl p) = omega arith
    one n b h (inr p) = absurd p

    more : (n : ℕ) (xs : List ℕ) (b : ℕ) → Digits xs → In b xs ⊎ In b ((48 + n % 10) ∷ []) → (48 ≤ b) × (b ≤ 57)
    more n xs b ih (inl i) = ih b i
    more n xs b ih (inr i) = one (n % 10) b (omega arith) i

pub number_read : (n : ℕ) (ds : List Clause) (p : List ℕ) (m l st : Bool) (i : ℕ) (hs : List Header) → n ≤ 16384 →
    bytes_read (number_text n) (goes_on (body ds p 0 m l st i hs)) ≡ goes_on (body ds p n m true false i hs)
unfolding bytes_read
number_read n ds p m l st i hs k = number_ind (λ n xs. n ≤ 16384 → bytes_read xs (goes_on (body ds p 0 m l st i hs)) ≡ goes_on (body ds p n m true false i hs)) one more n (omega arith) k
  where
    at : (n : ℕ) → n ≤ 16384 → (z : ℕ) → z ≡ n → goes_on (body ds p z m true false i hs) ≡ goes_on (body ds p n m true false i hs)
    at n k z e = ap (λ y. goes_on (body ds p y m true false i hs)) e

    one : (n : ℕ) → n < 10 → n ≤ 16384 → bytes_read ((48 + n) ∷ []) (goes_on (body ds p 0 m l st i hs)) ≡ goes_on (body ds p n m true false i hs)
    one n h k = digit_step ds p 0 (48 + n) m l st i hs (omega arith) (omega arith) (omega arith) ∙ at n k _ (omega arith)

    more : (n : ℕ) (xs : List ℕ) → 10 ≤ n → (n / 10 ≤ 16384 → bytes_read xs (goes_on (body ds p 0 m l st i hs)) ≡ goes_on (body ds p (n / 10) m true false i hs)) →
        n ≤ 16384 → bytes_read (xs ++ (48 + n % 10) ∷ []) (goes_on (body ds p 0 m l st i hs)) ≡ goes_on (body ds p n m true false i hs)
    more n xs h ih k = bytes-++ xs ((48 + n % 10) ∷ []) _ ∙ (ap (bytes_read ((48 + n % 10) ∷ [])) (ih (omega arith))
        ∙ (digit_step ds p (n / 10) (48 + n % 10) m true false i hs (omega arith) (omega arith) (omega arith) ∙ at n k _ (omega arith)))

-- a number in the header
pub number_back : (n : ℕ) → n < 18446744073709551616 → number_of 0 (number_text n) ≡ n ∷ []
number_back n h =
    let d = decimal_is_IsNumeral n h in
    rw (number_text_is n h) (number_is 0 (decimal n) d.0.1 (omega (arith, d.1)) ∙ ap (λ z. z ∷ []) d.1)

pub some_digits : (n : ℕ) → n < 18446744073709551616 → none_of (number_text n) ≡ false
unfolding none_of
some_digits = number_ind (λ n xs. none_of xs ≡ false) (λ n h. refl) (λ n xs h ih. some_last xs (48 + n % 10))

pub word_digits : (xs : List ℕ) → none_of xs ≡ false → Digits xs → word_number xs ≡ number_of 0 xs
unfolding word_number none_of
word_digits [] e d = absurd (true≢false e)
word_digits (x ∷ xs) e d = let k = d x (inl refl) in grind arith

-- LITERALS AND CLAUSES
pub lit_read : (ds : List Clause) (p : List ℕ) (l : ℕ) (st : Bool) (i : ℕ) (hs : List Header) → l < 32768 →
    bytes_read (literal_text l ++ 32 ∷ []) (goes_on (body ds p 0 false false st i hs)) ≡ goes_on (body ds (p ++ l ∷ []) 0 false false false i hs)
unfolding bytes_read
lit_read ds p l st i hs h = bytes-++ (literal_text l) (32 ∷ []) _ ∙ elim (even_or_odd l) [
  | inl e ↦ rw e (ap (next_byte 32) (number_read (suc (l / 2)) ds p false false st i hs (omega arith)) ∙ (blank_step ds p (l / 2) false i hs ∙ at (2 * (l / 2) + 0) (omega arith)))
  | inr e ↦ rw e (ap (λ x. next_byte 32 (bytes_read (number_text (suc (l / 2))) x)) (minus_step ds p st i hs) ∙ (ap (next_byte 32) (number_read (suc (l / 2)) ds p true false false i hs (omega arith))
      ∙ (blank_step ds p (l / 2) true i hs ∙ at (2 * (l / 2) + 1) (omega arith))))
]
  where
    at : (k : ℕ) → k ≡ l → goes_on (body ds (p ++ k ∷ []) 0 false false false i hs) ≡ goes_on (body ds (p ++ l ∷ []) 0 false false false i hs)
    at k e = ap (λ x. goes_on (body ds (p ++ x ∷ []) 0 false false false i hs)) e

pub clause_read : (ds : List Clause) (p c : List ℕ) (st : Bool) (i : ℕ) (hs : List Header) → every (λ l. ltb l 32768) c ≡ true →
    bytes_read (clause_text c) (goes_on (body ds p 0 false false st i hs)) ≡ goes_on (body (ds ++ (p ++ c) ∷ []) [] 0 false false true (suc i) hs)
unfolding clause_text every
clause_read ds p [] st i hs h = end_step ds p st i hs ∙ ap (λ (x : List ℕ). goes_on (body (ds ++ x ∷ []) [] 0 false false true (suc i) hs)) (sym (append-nil p))
clause_read ds p (l ∷ ls) st i hs h =
    let q = and_parts (ltb l 32768) _ h in
    ap (λ (x : List ℕ). bytes_read x (goes_on (body ds p 0 false false st i hs))) (sym (append_assoc (literal_text l) (32 ∷ []) (clause_text ls)))
    ∙ (bytes-++ (literal_text l ++ 32 ∷ []) (clause_text ls) _
    ∙ (ap (bytes_read (clause_text ls)) (lit_read ds p l st i hs (ltb-true l 32768 q.0))
    ∙ (clause_read ds (p ++ l ∷ []) ls false i hs q.1
    ∙ ap (λ (x : List ℕ). goes_on (body (ds ++ x ∷ []) [] 0 false false true (suc i) hs)) (append_assoc p (l ∷ []) ls))))

pub clauses_read : (ds cs : List Clause) (i : ℕ) (hs : List Header) → every lits_fit cs ≡ true →
    (j : ℕ) × (bytes_read (clauses_text cs) (goes_on (body ds [] 0 false false true i hs)) ≡ goes_on (body (ds ++ cs) [] 0 false false true j hs))
unfolding clauses_text bytes_read every
clauses_read ds [] i hs h = (i, ap (λ (x : List Clause). goes_on (body x [] 0 false false true i hs)) (sym (append-nil ds)))
clauses_read ds (c ∷ cs) i hs h =
    let q = and_parts (lits_fit c) _ h in
    let r = clauses_read (ds ++ c ∷ []) cs (suc i) hs q.1 in (
      r.0,
      bytes-++ (clause_text c) (clauses_text cs) _ ∙ (ap (bytes_read (clauses_text cs)) (clause_read ds [] c true i hs q.0)
          ∙ (r.1 ∙ ap (λ (x : List Clause). goes_on (body x [] 0 false false true r.0 hs)) (append_assoc ds (c ∷ []) cs))),
    )

-- THE HEADER
abbrev pub head : List ℕ → Reader
head row = reader [] [] 0 false false true true true 1 row []

pub head_bytes : (bs row : List ℕ) → ((b : ℕ) → In b bs → is_end b ≡ false) → bytes_read bs (goes_on (head row)) ≡ goes_on (head (row ++ bs))
unfolding bytes_read next_byte byte_read skipped
head_bytes [] row h = ap (λ (x : List ℕ). goes_on (head x)) (sym (append-nil row))
head_bytes (b ∷ bs) row h =
    let e : next_byte b (goes_on (head row)) ≡ goes_on (head (row ++ b ∷ [])) = (let k = h b (inl refl) in grind arith) in
    ap (bytes_read bs) e ∙ (head_bytes bs (row ++ b ∷ []) (λ c i. h c (inr i)) ∙ ap (λ (x : List ℕ). goes_on (head x)) (append_assoc row (b ∷ []) bs))

pub words_go : (ds w rest : List ℕ) → Digits ds → words_from w (ds ++ rest) ≡ words_from (w ++ ds) rest
unfolding words_from
words_go [] w rest d = ap (λ (x : List ℕ). words_from x rest) (sym (append-nil w))
words_go (b ∷ ds) w rest d =
    let e : is_blank b ≡ false = (let k = d b (inl refl) in grind arith) in
    rw e (words_go ds (w ++ b ∷ []) rest (λ c i. d c (inr i)) ∙ ap (λ (x : List ℕ). words_from x rest) (append_assoc w (b ∷ []) ds))

pub two_words : (v c : List ℕ) → Digits v → Digits c → none_of v ≡ false → none_of c ≡ false → words_from [] (v ++ 32 ∷ c) ≡ v ∷ c ∷ []
unfolding words_from
two_words v c p q e f = words_go v [] (32 ∷ c) p ∙ rw e (ap (λ (x : List (List ℕ)). v ∷ x) (ap (words_from []) (sym (append-nil c)) ∙ (words_go c [] [] q ∙ rw f refl)))

pub row_few : (c : Clause) → lits_fit c ≡ true → row_vars c ≤ 16384
unfolding row_vars every
row_few [] h = omega arith
row_few (l ∷ ls) h = let ih = row_few ls in grind arith

pub vars_few : (cs : List Clause) → every lits_fit cs ≡ true → vars_of cs ≤ 16384
unfolding vars_of every
vars_few [] h = omega arith
vars_few (c ∷ cs) h = let ih = vars_few cs in let k = row_few c in grind arith

pub newline : (v c : List ℕ) (n k : ℕ) → words_from [] (v ++ 32 ∷ c) ≡ v ∷ c ∷ [] → word_number v ≡ n ∷ [] → word_number c ≡ k ∷ [] → n ≤ 16384 →
    next_byte 10 (goes_on (head (112 ∷ 32 ∷ 99 ∷ 110 ∷ 102 ∷ 32 ∷ (v ++ 32 ∷ c)))) ≡ goes_on (body [] [] 0 false false true 2 (record { head_vars = n; head_clauses = k } ∷ []))
unfolding next_byte byte_read skipped then_out header_read with_words with_numbers words_from same_bytes none_of
newline v c n k e p q h = rw (e, p, q, le-ltb 16384 n h)

pub no_ends : (v c : List ℕ) → Digits v → Digits c → (b : ℕ) → In b (32 ∷ 99 ∷ 110 ∷ 102 ∷ 32 ∷ (v ++ 32 ∷ c)) → is_end b ≡ false
no_ends v c p q b i = let k = in_cases b v (32 ∷ c) in let x = p b in let y = q b in grind arith

pub ended_well : (cs : List Clause) (i : ℕ) → let r : Reader = body cs [] 0 false false true i (record { head_vars = vars_of cs; head_clauses = length cs } ∷ []) in at_end (goes_on r) ≡ goes_on r
unfolding at_end ended literal_done with_header none_of
ended_well cs i = rw (le-ltb (vars_of cs) (vars_of cs) (omega arith), eq-eqb (length cs) (length cs) refl)

pub there_and_back : ThereAndBack
unfolding ThereAndBack file_read formula_text bytes_read next_byte byte_read none_of
there_and_back cs h k = (body cs [] 0 false false true r.0 hs, ap at_end whole ∙ ended_well cs r.0, refl)
  where
    few : vars_of cs ≤ 16384
    few = vars_few cs h

    v : List ℕ
    v = number_text (vars_of cs)

    c : List ℕ
    c = number_text (length cs)

    hs : List Header
    hs = record { head_vars = vars_of cs; head_clauses = length cs } ∷ []

    dv : Digits v
    dv = digits_in (vars_of cs) (omega (arith, few))

    dc : Digits c
    dc = digits_in (length cs) k

    sv : none_of v ≡ false
    sv = some_digits (vars_of cs) (omega (arith, few))

    sc : none_of c ≡ false
    sc = some_digits (length cs) k

    row : List ℕ
    row = 32 ∷ 99 ∷ 110 ∷ 102 ∷ 32 ∷ (v ++ 32 ∷ c)

    first : bytes_read (112 ∷ row) (goes_on first_reader) ≡ goes_on (head (112 ∷ row))
    first = head_bytes row (112 ∷ []) (no_ends v c dv dc)

    second : next_byte 10 (goes_on (head (112 ∷ row))) ≡ goes_on (body [] [] 0 false false true 2 hs)
    second = newline v c (vars_of cs) (length cs) (two_words v c dv dc sv sc) (word_digits v sv dv ∙ number_back (vars_of cs) (omega (arith, few))) (word_digits c sc dc ∙ number_back (length cs) k) few

    r : (j : ℕ) × (bytes_read (clauses_text cs) (goes_on (body [] [] 0 false false true 2 hs)) ≡ goes_on (body cs [] 0 false false true j hs))
    r = clauses_read [] cs 2 hs h

    whole : bytes_read ((112 ∷ row) ++ 10 ∷ clauses_text cs) (goes_on first_reader) ≡ goes_on (body cs [] 0 false false true r.0 hs)
    whole = bytes-++ (112 ∷ row) (10 ∷ clauses_text cs) (goes_on first_reader) ∙ (ap (bytes_read (10 ∷ clauses_text cs)) first ∙ (ap (bytes_read (clauses_text cs)) second ∙ r.1))
