-- How formulas and proofs are written in bytes: the text form of CNF files, read byte by byte, and DRAT's text form.
-- Definitions only: `file_read` is the reader, `formula_text` and `proof_text` are the writers.
use Rattle.std.specs.Prelude.{ℕ, zero, suc, ◌+◌, ◌-◌, ◌*◌, ◌/◌, ◌%◌, Bool, true, false, not, ◌&&◌, ltb, List, [], ◌∷◌, ◌++◌, length, take, drop, ◌==◌, nat_le, nat_lt}
use Rattle.formula.specs.Logic.{pick, or, any, none_of, Clause, var_of, Step, adds, deletes}

-- NUMBERS as digits
unfoldable pub digits_rev : ℕ → ℕ → List ℕ
digits_rev zero n = []
digits_rev (suc f) n = pick (nat_lt n 10) ((48 + n) ∷ []) ((48 + n % 10) ∷ digits_rev f (n / 10))

unfoldable pub turned : {A : Type 0} → List A → List A
turned [] = []
turned (x ∷ xs) = turned xs ++ x ∷ []

abbrev pub number_text : ℕ → List ℕ
number_text n = turned (digits_rev 20 n)

-- a literal: its variable's number, from 1, behind a minus if it's negated
abbrev pub literal_text : ℕ → List ℕ
literal_text l = pick (l % 2 == 1) (45 ∷ number_text (suc (l / 2))) (number_text (suc (l / 2)))

unfoldable pub clause_text : Clause → List ℕ
clause_text [] = 48 ∷ 10 ∷ []
clause_text (l ∷ ls) = literal_text l ++ 32 ∷ clause_text ls

unfoldable pub clauses_text : List Clause → List ℕ
clauses_text [] = []
clauses_text (c ∷ cs) = clause_text c ++ clauses_text cs

abbrev pub larger : ℕ → ℕ → ℕ
larger a b = pick (nat_lt a b) b a

-- how many variables: one more than the largest
unfoldable pub row_vars : List ℕ → ℕ
row_vars [] = 0
row_vars (l ∷ ls) = larger (suc (var_of l)) (row_vars ls)

unfoldable pub vars_of : List Clause → ℕ
vars_of [] = 0
vars_of (c ∷ cs) = larger (row_vars c) (vars_of cs)

-- "p cnf variables clauses" and a line for each
unfoldable pub formula_text : List Clause → List ℕ
formula_text cs = (112 ∷ 32 ∷ 99 ∷ 110 ∷ 102 ∷ 32 ∷ []) ++ number_text (vars_of cs) ++ 32 ∷ number_text (length cs) ++ 10 ∷ clauses_text cs

-- a proof: a line for each step, "d " before what's deleted
unfoldable pub step_text : Step → List ℕ
step_text (adds c) = clause_text c
step_text (deletes c) = 100 ∷ 32 ∷ clause_text c

unfoldable pub proof_text : List Step → List ℕ
proof_text [] = []
proof_text (s ∷ ss) = step_text s ++ proof_text ss

-- READING, byte by byte
pub record Header : Type 0 where
  pub head_vars : ℕ
  pub head_clauses : ℕ

pub record Reader : Type 0 where
  pub read_clauses : List Clause  -- so far
  pub part : List ℕ  -- of a clause that isn't done
  pub number : ℕ
  pub minus : Bool
  pub in_lit : Bool
  pub skips : Bool  -- in a comment or the header
  pub in_header : Bool
  pub starts : Bool  -- at a line's start
  pub line : ℕ
  pub header_row : List ℕ
  pub header : List Header

abbrev pub reader : List Clause → List ℕ → ℕ → Bool → Bool → Bool → Bool → Bool → ℕ → List ℕ → List Header → Reader
reader cs p n m l s h b i r hs = record { read_clauses = cs; part = p; number = n; minus = m; in_lit = l; skips = s; in_header = h; starts = b; line = i; header_row = r; header = hs }

abbrev pub first_reader : Reader
first_reader = reader [] [] 0 false false false false true 1 [] []

-- what's wrong: 20 a byte that can't be there, with it; 21 a literal, or the header's variables, above 16,384; 22 the header; 23 a clause isn't ended; 24 there
-- are more variables than the header says; 25 another number of clauses
pub data Read : Type 0 where
  goes_on : Reader → Read
  wrong : ℕ → List ℕ → Read

abbrev pub is_digit : ℕ → Bool
is_digit b = nat_le 48 b && nat_le b 57

-- THE HEADER: words between blanks of any kind
abbrev pub is_blank : ℕ → Bool
is_blank b = or (b == 32) (or (b == 9) (or (b == 11) (b == 12)))

unfoldable pub words_from : List ℕ → List ℕ → List (List ℕ)
words_from w [] = pick (none_of w) [] (w ∷ [])
words_from w (b ∷ bs) = pick (is_blank b) (pick (none_of w) (words_from [] bs) (w ∷ words_from [] bs)) (words_from (w ++ b ∷ []) bs)

unfoldable pub number_of : ℕ → List ℕ → List ℕ
number_of n [] = n ∷ []
number_of n (b ∷ bs) = pick (is_digit b && nat_lt (n * 10 + (b - 48)) 18446744073709551616) (number_of (n * 10 + (b - 48)) bs) []

-- a plus may stand before it
unfoldable pub word_number : List ℕ → List ℕ
word_number [] = []
word_number (b ∷ bs) = pick (b == 43) (pick (none_of bs) [] (number_of 0 bs)) (number_of 0 (b ∷ bs))

unfoldable pub same_bytes : List ℕ → List ℕ → Bool
same_bytes [] [] = true
same_bytes [] (y ∷ ys) = false
same_bytes (x ∷ xs) [] = false
same_bytes (x ∷ xs) (y ∷ ys) = x == y && same_bytes xs ys

unfoldable pub with_numbers : Reader → List ℕ → List ℕ → Read
with_numbers r [] cs = wrong 22 (r.line ∷ [])
with_numbers r (v ∷ vs) [] = pick (nat_lt 16384 v) (wrong 21 (r.line ∷ [])) (wrong 22 (r.line ∷ []))
with_numbers r (v ∷ vs) (c ∷ cs) =
    pick (nat_lt 16384 v) (wrong 21 (r.line ∷ []))
    (goes_on (reader r.read_clauses r.part r.number r.minus r.in_lit r.skips false r.starts r.line []
    (record { head_vars = v; head_clauses = c } ∷ [])))

unfoldable pub with_words : Reader → List (List ℕ) → Read
with_words r [] = wrong 22 (r.line ∷ [])
with_words r (w ∷ []) = wrong 22 (r.line ∷ [])
with_words r (w ∷ v ∷ []) = pick (same_bytes w (99 ∷ 110 ∷ 102 ∷ [])) (with_numbers r (word_number v) []) (wrong 22 (r.line ∷ []))
with_words r (w ∷ v ∷ c ∷ []) = pick (same_bytes w (99 ∷ 110 ∷ 102 ∷ [])) (with_numbers r (word_number v) (word_number c)) (wrong 22 (r.line ∷ []))
with_words r (w ∷ v ∷ c ∷ x ∷ xs) =
    pick (same_bytes w (99 ∷ 110 ∷ 102 ∷ []))
    (pick (any (λ n. ltb 16384 n) (word_number v)) (wrong 21 (r.line ∷ [])) (wrong 22 (r.line ∷ []))) (wrong 22 (r.line ∷ []))

unfoldable pub header_read : Reader → Read
header_read r =
    pick (same_bytes (take 2 r.header_row) (112 ∷ 32 ∷ [])) (with_words r (words_from [] (drop 2 r.header_row))) (wrong 22 (r.line ∷ []))

-- a literal is done: 0 ends the clause
unfoldable pub literal_done : Reader → Reader
literal_done r =
    pick r.in_lit
    (pick (r.number == 0)
    (reader (r.read_clauses ++ r.part ∷ []) [] r.number r.minus r.in_lit r.skips r.in_header r.starts r.line r.header_row r.header)
    (reader r.read_clauses (r.part ++ (2 * (r.number - 1) + pick r.minus 1 0) ∷ []) r.number r.minus r.in_lit r.skips r.in_header r.starts r.line
    r.header_row r.header))
    r

abbrev pub is_end : ℕ → Bool
is_end b = or (b == 10) (b == 13)

abbrev pub out_of_line : Reader → Reader
out_of_line r = reader r.read_clauses r.part r.number r.minus r.in_lit false false true r.line r.header_row r.header

unfoldable pub then_out : Read → Read
then_out (goes_on r) = goes_on (out_of_line r)
then_out (wrong k ns) = wrong k ns

-- one byte, of a line whose number is counted already
unfoldable pub skipped : ℕ → Reader → Read
skipped b r =
    pick (is_end b) (pick r.in_header (then_out (header_read r)) (goes_on (out_of_line r)))
    (goes_on (pick r.in_header
    (reader r.read_clauses r.part r.number r.minus r.in_lit true true r.starts r.line (r.header_row ++ b ∷ []) r.header) r))

unfoldable pub digit_read : ℕ → Reader → Read
digit_read d r =
    pick (nat_lt 16384 (r.number * 10 + d)) (wrong 21 (r.line ∷ []))
    (goes_on (reader r.read_clauses r.part (r.number * 10 + d) r.minus true false r.in_header false r.line r.header_row r.header))

abbrev pub blank_read : ℕ → Reader → Reader
blank_read b r =
    let s : Reader = literal_done r in
    reader s.read_clauses s.part 0 false false false s.in_header (not (b == 32)) s.line s.header_row s.header

unfoldable pub byte_read : ℕ → Reader → Read
byte_read b r =
    pick r.skips (skipped b r)
    (pick (is_digit b) (digit_read (b - 48) r)
    (pick (b == 45 && (not r.minus && not r.in_lit))
    (goes_on (reader r.read_clauses r.part r.number true r.in_lit false r.in_header false r.line r.header_row r.header))
    (pick (or (b == 32) (is_end b) && or (not r.minus) r.in_lit) (goes_on (blank_read b r))
    (pick (b == 99 && r.starts)
    (goes_on (reader r.read_clauses r.part r.number r.minus r.in_lit true false r.starts r.line r.header_row r.header))
    (pick (b == 112 && (r.starts && none_of r.header))
    (goes_on (reader r.read_clauses r.part r.number r.minus r.in_lit true true r.starts r.line (112 ∷ []) r.header))
    (wrong 20 (r.line ∷ b ∷ [])))))))

abbrev pub counted : ℕ → Reader → Reader
counted b r =
    reader r.read_clauses r.part r.number r.minus r.in_lit r.skips r.in_header r.starts (pick (b == 10) (suc r.line) r.line) r.header_row r.header

unfoldable pub next_byte : ℕ → Read → Read
next_byte b (goes_on r) = byte_read b (counted b r)
next_byte b (wrong k ns) = wrong k ns

unfoldable pub bytes_read : List ℕ → Read → Read
bytes_read [] r = r
bytes_read (b ∷ bs) r = bytes_read bs (next_byte b r)

-- at the end
unfoldable pub with_header : List Header → List Clause → Reader → Read
with_header [] cs r = goes_on r
with_header (h ∷ hs) cs r =
    pick (nat_lt h.head_vars (vars_of cs)) (wrong 24 (vars_of cs ∷ h.head_vars ∷ []))
    (pick (length cs == h.head_clauses) (goes_on r) (wrong 25 (length cs ∷ h.head_clauses ∷ [])))

unfoldable pub ended : Reader → Read
ended r =
    let s : Reader = literal_done r in
    pick (none_of s.part) (with_header s.header s.read_clauses s) (wrong 23 (r.line ∷ []))

unfoldable pub then_ended : Read → Read
then_ended (goes_on r) = ended r
then_ended (wrong k ns) = wrong k ns

unfoldable pub at_end : Read → Read
at_end (goes_on r) = pick r.in_header (then_ended (header_read r)) (ended r)
at_end (wrong k ns) = wrong k ns

unfoldable pub file_read : List ℕ → Read
file_read bs = at_end (bytes_read bs (goes_on first_reader))
