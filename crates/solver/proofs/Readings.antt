-- What the reader of files keeps byte by byte: its literals fit, it has no more of them than bytes, and what is wrong is told in one or two
-- numbers. Also that a file read to its end stops with just the clauses that it is read as.
use Rattle.std.proofs.Common.{◌≡◌, ℕ, suc, ◌+◌, ◌-◌, ◌*◌, ◌<◌, ◌≤◌, Bool, true, false, not, ◌&&◌, eqb, ltb, leb, List, [], ◌∷◌, length, get_or, take, drop, sym, refl, ap, ◌∙◌, arith, length-append}
use Rattle.std.proofs.lemmas.Bool.{ltb-true, ltb-false, lt-ltb, le-leb, leb-true, and_parts, and_from}
use Rattle.formula.specs.Logic.{pick, or, every, any, none_of, Clause, added_up}
use Rattle.formula.specs.Arena.{size}
use Rattle.dimacs.specs.Text.{Header, Reader, first_reader, Read, goes_on, wrong, is_digit, is_end, number_of, word_number, same_bytes, with_numbers, with_words, words_from, header_read, literal_done, then_out, skipped, digit_read, byte_read, counted, next_byte, bytes_read, with_header, ended, then_ended, at_end, file_read, vars_of}
use Rattle.dimacs.specs.Scan.{by_read, stopped_at}
use Rattle.dimacs.specs.Statements.{lits_fit}
use Rattle.solver.specs.Machine.{file_fits}
use Rattle.solver.proofs.Picks.{pick_both, every_append, every_one, few}
use Rattle.solver.proofs.Arenas.{size_append, how_large_one}

abbrev header_in : Header → Bool
header_in x = leb x.head_vars 16384 && few x.head_clauses

-- of a reader after n bytes: its clauses, the part of one, the number that it is at, and the header
pub record Parts (n : ℕ) (cs : List Clause) (p : List ℕ) (k : ℕ) (hs : List Header) : Type 0 where
  pub clauses_lits : every lits_fit cs ≡ true
  pub part_lits : lits_fit p ≡ true
  pub number_in : k ≤ 16384
  pub room : size cs + length p ≤ n
  pub headers_in : every header_in hs ≡ true

abbrev pub Reads : ℕ → Reader → Type 0
Reads n r = Parts n r.read_clauses r.part r.number r.header

-- of what is wrong: its number, and one or two numbers with it
pub record Faults (k : ℕ) (ns : List ℕ) : Type 0 where
  pub number_from : 20 ≤ k
  pub number_to : k ≤ 25
  pub at_least_one : 1 ≤ length ns
  pub at_most_two : length ns ≤ 2
  pub second_small : get_or ns 1 0 < 18446744073709551616

pub data Sound (n : ℕ) : Read → Type 0 where
  well : {r : Reader} → Reads n r → Sound n (goes_on r)
  faulty : {k : ℕ} {ns : List ℕ} → Faults k ns → Sound n (wrong k ns)

pub reads_of : {n : ℕ} {r : Reader} → Sound n (goes_on r) → Reads n r
reads_of (well p) = p

pub faults_of : {n k : ℕ} {ns : List ℕ} → Sound n (wrong k ns) → Faults k ns
faults_of (faulty f) = f

one_number : (k x : ℕ) → 20 ≤ k → k ≤ 25 → Faults k (x ∷ [])
one_number k x a b = record { number_from = a; number_to = b; at_least_one = omega arith; at_most_two = omega arith; second_small = omega arith }

two_numbers : (k x y : ℕ) → 20 ≤ k → k ≤ 25 → y < 18446744073709551616 → Faults k (x ∷ y ∷ [])
two_numbers k x y a b c = record { number_from = a; number_to = b; at_least_one = omega arith; at_most_two = omega arith; second_small = c }

parts_more : {n : ℕ} {cs : List Clause} {p : List ℕ} {k : ℕ} {hs : List Header} (m : ℕ) → n ≤ m → Parts n cs p k hs → Parts m cs p k hs
parts_more m le q =
    record { clauses_lits = q.clauses_lits; part_lits = q.part_lits; number_in = q.number_in; room = (let l = q.room in omega arith); headers_in = q.headers_in }

parts_number : {n : ℕ} {cs : List Clause} {p : List ℕ} {k : ℕ} {hs : List Header} (k₁ : ℕ) → k₁ ≤ 16384 → Parts n cs p k hs → Parts n cs p k₁ hs
parts_number k₁ le q =
    record { clauses_lits = q.clauses_lits; part_lits = q.part_lits; number_in = le; room = q.room; headers_in = q.headers_in }

sound_more : {n : ℕ} {x : Read} (m : ℕ) → n ≤ m → Sound n x → Sound m x
sound_more m le (well p) = well (parts_more m le p)
sound_more m le (faulty f) = faulty f

-- THE HEADER
number_small : (n : ℕ) (bs : List ℕ) → n < 18446744073709551616 → every few (number_of n bs) ≡ true
unfolding number_of every
number_small n [] h = and_from _ _ (lt-ltb _ _ h) refl
number_small n (b ∷ bs) h =
    pick_both (λ (x : List ℕ). every few x ≡ true) (is_digit b && ltb (n * 10 + (b - 48)) 18446744073709551616) _ _
    (λ e. number_small (n * 10 + (b - 48)) bs (ltb-true _ _ (and_parts (is_digit b) (ltb (n * 10 + (b - 48)) 18446744073709551616) e).1)) (λ e. refl)

word_small : (w : List ℕ) → every few (word_number w) ≡ true
unfolding word_number every
word_small [] = refl
word_small (b ∷ bs) =
    pick_both (λ (x : List ℕ). every few x ≡ true) (eqb b 43) _ _
    (λ e. pick_both (λ (x : List ℕ). every few x ≡ true) (none_of bs) _ _ (λ k. refl) (λ k. number_small 0 bs (omega arith)))
    (λ e. number_small 0 (b ∷ bs) (omega arith))

module _ (n : ℕ) (r : Reader) (p : Reads n r) where
  bad : (k : ℕ) → 20 ≤ k → k ≤ 25 → Sound n (wrong k (r.line ∷ []))
  bad k a b = faulty (one_number k r.line a b)

  numbers_sound : (vs cs : List ℕ) → every few cs ≡ true → Sound n (with_numbers r vs cs)
  unfolding with_numbers every
  numbers_sound [] cs e = bad 22 (omega arith) (omega arith)
  numbers_sound (v ∷ vs) [] e = pick_both (Sound n) (ltb 16384 v) _ _ (λ k. bad 21 (omega arith) (omega arith)) (λ k. bad 22 (omega arith) (omega arith))
  numbers_sound (v ∷ vs) (c ∷ cs) e =
      pick_both (Sound n) (ltb 16384 v) _ _ (λ k. bad 21 (omega arith) (omega arith))
      (λ k. well (record {
        clauses_lits = p.clauses_lits;
        part_lits = p.part_lits;
        number_in = p.number_in;
        room = p.room;
        headers_in = and_from _ _ (and_from _ _ (le-leb v 16384 (ltb-false 16384 v k)) (and_parts (few c) (every few cs) e).0) refl;
      }))

  words_sound : (ws : List (List ℕ)) → Sound n (with_words r ws)
  unfolding with_words every
  words_sound [] = bad 22 (omega arith) (omega arith)
  words_sound (w ∷ []) = bad 22 (omega arith) (omega arith)
  words_sound (w ∷ v ∷ []) =
      pick_both (Sound n) (same_bytes w (99 ∷ 110 ∷ 102 ∷ [])) _ _ (λ k. numbers_sound (word_number v) [] refl) (λ k. bad 22 (omega arith) (omega arith))
  words_sound (w ∷ v ∷ c ∷ []) =
      pick_both (Sound n) (same_bytes w (99 ∷ 110 ∷ 102 ∷ [])) _ _ (λ k. numbers_sound (word_number v) (word_number c) (word_small c))
      (λ k. bad 22 (omega arith) (omega arith))
  words_sound (w ∷ v ∷ c ∷ x ∷ xs) =
      pick_both (Sound n) (same_bytes w (99 ∷ 110 ∷ 102 ∷ [])) _ _
      (λ k. pick_both (Sound n) (any (λ n. ltb 16384 n) (word_number v)) _ _ (λ j. bad 21 (omega arith) (omega arith)) (λ j. bad 22 (omega arith) (omega arith)))
      (λ k. bad 22 (omega arith) (omega arith))

  header_sound : Sound n (header_read r)
  unfolding header_read
  header_sound =
      pick_both (Sound n) (same_bytes (take 2 r.header_row) (112 ∷ 32 ∷ [])) _ _ (λ k. words_sound (words_from [] (drop 2 r.header_row)))
      (λ k. bad 22 (omega arith) (omega arith))

out_sound : (n : ℕ) (x : Read) → Sound n x → Sound n (then_out x)
unfolding then_out
out_sound n (goes_on r) (well p) = well p
out_sound n (wrong k ns) (faulty f) = faulty f

-- BYTES
literal_reads : (n : ℕ) (r : Reader) → Reads n r → Reads (suc n) (literal_done r)
unfolding literal_done every
literal_reads n r p =
    let l = p.room in
    pick_both (Reads (suc n)) r.in_lit _ _
    (λ e. pick_both (Reads (suc n)) (eqb r.number 0) _ _
    (λ k. let a = size_append r.read_clauses (r.part ∷ []) in let b = how_large_one r.part in
    record {
      clauses_lits = every_append lits_fit r.read_clauses (r.part ∷ []) p.clauses_lits (every_one lits_fit r.part p.part_lits);
      part_lits = refl;
      number_in = p.number_in;
      room = omega arith;
      headers_in = p.headers_in;
    })
    (λ k. let a = length-append r.part ((2 * (r.number - 1) + pick r.minus 1 0) ∷ []) in
    let q = p.number_in in
    let m : pick r.minus 1 0 ≤ 1 = pick_both (λ (x : ℕ). x ≤ 1) r.minus 1 0 (λ h. omega arith) (λ h. omega arith) in
    record {
      clauses_lits = p.clauses_lits;
      part_lits = every_append (λ l. ltb l 32768) r.part _ p.part_lits (every_one (λ l. ltb l 32768) (2 * (r.number - 1) + pick r.minus 1 0) (lt-ltb _ _ (omega arith)));
      number_in = p.number_in;
      room = omega arith;
      headers_in = p.headers_in;
    }))
    (λ e. parts_more (suc n) (omega arith) p)

skipped_sound : (n b : ℕ) (r : Reader) → Reads n r → Sound n (skipped b r)
unfolding skipped
skipped_sound n b r p =
    pick_both (Sound n) (is_end b) _ _ (λ e. pick_both (Sound n) r.in_header _ _ (λ k. out_sound n (header_read r) (header_sound n r p)) (λ k. well p))
    (λ e. well (pick_both (Reads n) r.in_header _ _ (λ k. p) (λ k. p)))

digit_sound : (n d : ℕ) (r : Reader) → Reads n r → Sound n (digit_read d r)
unfolding digit_read
digit_sound n d r p =
    pick_both (Sound n) (ltb 16384 (r.number * 10 + d)) _ _ (λ e. faulty (one_number 21 r.line (omega arith) (omega arith)))
    (λ e. well (parts_number (r.number * 10 + d) (ltb-false 16384 (r.number * 10 + d) e) p))

byte_sound : (n b : ℕ) (r : Reader) → b < 256 → Reads n r → Sound (suc n) (byte_read b r)
unfolding byte_read
byte_sound n b r lt p =
    let up : n ≤ suc n = omega arith in
    pick_both (Sound (suc n)) r.skips _ _ (λ e. sound_more (suc n) up (skipped_sound n b r p))
    (λ e. pick_both (Sound (suc n)) (is_digit b) _ _ (λ e₁. sound_more (suc n) up (digit_sound n (b - 48) r p))
    (λ e₁. pick_both (Sound (suc n)) (eqb b 45 && (not r.minus && not r.in_lit)) _ _ (λ e₂. well (parts_more (suc n) up p))
    (λ e₂. pick_both (Sound (suc n)) (or (eqb b 32) (is_end b) && or (not r.minus) r.in_lit) _ _ (λ e₃. well (parts_number 0 (omega arith) (literal_reads n r p)))
    (λ e₃. pick_both (Sound (suc n)) (eqb b 99 && r.starts) _ _ (λ e₄. well (parts_more (suc n) up p))
    (λ e₄. pick_both (Sound (suc n)) (eqb b 112 && (r.starts && none_of r.header)) _ _ (λ e₅. well (parts_more (suc n) up p))
    (λ e₅. faulty (two_numbers 20 r.line b (omega arith) (omega arith) (omega arith))))))))

next_sound : (n b : ℕ) (x : Read) → b < 256 → Sound n x → Sound (suc n) (next_byte b x)
unfolding next_byte
next_sound n b (goes_on r) lt (well p) = byte_sound n b (counted b r) lt p
next_sound n b (wrong k ns) lt (faulty f) = faulty f

bytes_sound : (bs : List ℕ) (n m : ℕ) (x : Read) → n + length bs ≤ m → every (λ b. ltb b 256) bs ≡ true → Sound n x → Sound m (bytes_read bs x)
unfolding bytes_read every
bytes_sound [] n m x le e s = sound_more m (omega arith) s
bytes_sound (b ∷ bs) n m x le e s =
    let q = and_parts (ltb b 256) (every (λ b. ltb b 256) bs) e in
    bytes_sound bs (suc n) m (next_byte b x) (omega arith) q.1 (next_sound n b x (ltb-true b 256 q.0) s)

-- THE END
header_ends : (n : ℕ) (hs : List Header) (cs : List Clause) (r : Reader) → every header_in hs ≡ true → Reads n r → Sound n (with_header hs cs r)
unfolding with_header every
header_ends n [] cs r e p = well p
header_ends n (x ∷ hs) cs r e p =
    let q = and_parts (header_in x) (every header_in hs) e in
    let u = and_parts (leb x.head_vars 16384) (few x.head_clauses) q.0 in
    let u₀ : x.head_vars ≤ 16384 = leb-true _ _ u.0 in
    pick_both (Sound n) (ltb x.head_vars (vars_of cs)) _ _ (λ k. faulty (two_numbers 24 (vars_of cs) x.head_vars (omega arith) (omega arith) (omega arith)))
    (λ k. pick_both (Sound n) (eqb (length cs) x.head_clauses) _ _ (λ j. well p)
    (λ j. faulty (two_numbers 25 (length cs) x.head_clauses (omega arith) (omega arith) (ltb-true _ _ u.1))))

ended_sound : (n : ℕ) (r : Reader) → Reads n r → Sound (suc n) (ended r)
unfolding ended
ended_sound n r p =
    let q = literal_reads n r p in
    pick_both (Sound (suc n)) (none_of (literal_done r).part) _ _
    (λ e. header_ends (suc n) (literal_done r).header (literal_done r).read_clauses (literal_done r) q.headers_in q)
    (λ e. faulty (one_number 23 r.line (omega arith) (omega arith)))

then_ended_sound : (n : ℕ) (x : Read) → Sound n x → Sound (suc n) (then_ended x)
unfolding then_ended
then_ended_sound n (goes_on r) (well p) = ended_sound n r p
then_ended_sound n (wrong k ns) (faulty f) = faulty f

end_sound : (n : ℕ) (x : Read) → Sound n x → Sound (suc n) (at_end x)
unfolding at_end
end_sound n (goes_on r) (well p) =
    pick_both (Sound (suc n)) r.in_header _ _ (λ e. then_ended_sound n (header_read r) (header_sound n r p)) (λ e. ended_sound n r p)
end_sound n (wrong k ns) (faulty f) = faulty f

first_reads : Reads 0 first_reader
unfolding every added_up
first_reads = record { clauses_lits = refl; part_lits = refl; number_in = omega arith; room = omega arith; headers_in = refl }

pub file_sound : (bs : List ℕ) → file_fits bs ≡ true → Sound 1048577 (file_read bs)
unfolding file_read
file_sound bs e =
    let q = and_parts (leb (length bs) 1048576) (every (λ b. ltb b 256) bs) e in
    let l : length bs ≤ 1048576 = leb-true _ _ q.0 in
    end_sound 1048576 (bytes_read bs (goes_on first_reader)) (bytes_sound bs 0 1048576 (goes_on first_reader) (omega arith) q.1 (well first_reads))

-- WHERE IT STOPS
stopped_reads : (bs : List ℕ) (n m : ℕ) (r : Reader) → n + length bs < m → every (λ b. ltb b 256) bs ≡ true → Reads n r → Reads m (stopped_at bs r)
unfolding stopped_at every
stopped_reads [] n m r lt e p = parts_more m (omega arith) (literal_reads n r p)
stopped_reads (b ∷ bs) n m r lt e p =
    let q = and_parts (ltb b 256) (every (λ b. ltb b 256) bs) e in
    go (byte_read b (counted b r)) (byte_sound n b (counted b r) (ltb-true b 256 q.0) p) (λ r₁. stopped_reads bs (suc n) m r₁ (omega arith) q.1)
  where
    go : (x : Read) → Sound (suc n) x → ((r₁ : Reader) → Reads (suc n) r₁ → Reads m (stopped_at bs r₁)) → Reads m (by_read x r (λ r₁. stopped_at bs r₁))
    go (goes_on r₁) (well p₁) ih = ih r₁ p₁
    go (wrong k ns) (faulty f) ih = parts_more m (omega arith) p

pub file_stops : (bs : List ℕ) → file_fits bs ≡ true → Reads 1048577 (stopped_at bs first_reader)
file_stops bs e =
    let q = and_parts (leb (length bs) 1048576) (every (λ b. ltb b 256) bs) e in
    let l : length bs ≤ 1048576 = leb-true _ _ q.0 in
    stopped_reads bs 0 1048577 first_reader (omega arith) q.1 first_reads

-- read to the end, it stops with the clauses that the file is read as, and with no part of another
abbrev Stops : Reader → Reader → Type 0
Stops s r = (s.read_clauses ≡ r.read_clauses) × (s.part ≡ [])

no_wrong : (k : ℕ) (ns : List ℕ) (r : Reader) → wrong k ns ≡ goes_on r → ⊥
no_wrong k ns r e = let z : ◌≡◌ {A = ℕ} 0 1 = cc in omega arith

header_same : (hs : List Header) (cs : List Clause) (s r : Reader) → with_header hs cs s ≡ goes_on r → s ≡ r
unfolding with_header
header_same [] cs s r e = cc
header_same (x ∷ hs) cs s r e = grind arith

done_stops : (cs : List Clause) (s r : Reader) (p : List ℕ) (hs : List Header) (i : ℕ) → s.part ≡ p →
    pick (none_of p) (with_header hs cs s) (wrong 23 (i ∷ [])) ≡ goes_on r → (s.read_clauses ≡ r.read_clauses) × (p ≡ [])
unfolding none_of
done_stops cs s r [] hs i e f = (ap (λ (x : Reader). x.read_clauses) (header_same hs cs s r f), refl)
done_stops cs s r (l ∷ ls) hs i e f = absurd (no_wrong 23 (i ∷ []) r f)

ended_stops : (r₀ r : Reader) → ended r₀ ≡ goes_on r → Stops (literal_done r₀) r
unfolding ended
ended_stops r₀ r e =
    let s = literal_done r₀ in done_stops s.read_clauses s r s.part s.header r₀.line refl e

-- the header changes nothing of what the last literal leads to
data Same (r₀ : Reader) : Read → Type 0 where
  same : {r : Reader} → (literal_done r).read_clauses ≡ (literal_done r₀).read_clauses → (literal_done r).part ≡ (literal_done r₀).part → Same r₀ (goes_on r)
  none : {k : ℕ} {ns : List ℕ} → Same r₀ (wrong k ns)

module _ (r : Reader) where
  numbers_same : (vs cs : List ℕ) → Same r (with_numbers r vs cs)
  unfolding with_numbers literal_done
  numbers_same [] cs = none
  numbers_same (v ∷ vs) [] = pick_both (Same r) (ltb 16384 v) _ _ (λ k. none) (λ k. none)
  numbers_same (v ∷ vs) (c ∷ cs) = pick_both (Same r) (ltb 16384 v) _ _ (λ k. none) (λ k. same (grind arith) (grind arith))

  words_same : (ws : List (List ℕ)) → Same r (with_words r ws)
  unfolding with_words
  words_same [] = none
  words_same (w ∷ []) = none
  words_same (w ∷ v ∷ []) = pick_both (Same r) (same_bytes w (99 ∷ 110 ∷ 102 ∷ [])) _ _ (λ k. numbers_same (word_number v) []) (λ k. none)
  words_same (w ∷ v ∷ c ∷ []) = pick_both (Same r) (same_bytes w (99 ∷ 110 ∷ 102 ∷ [])) _ _ (λ k. numbers_same (word_number v) (word_number c)) (λ k. none)
  words_same (w ∷ v ∷ c ∷ x ∷ xs) =
      pick_both (Same r) (same_bytes w (99 ∷ 110 ∷ 102 ∷ [])) _ _
      (λ k. pick_both (Same r) (any (λ n. ltb 16384 n) (word_number v)) _ _ (λ j. none) (λ j. none)) (λ k. none)

  header_read_same : Same r (header_read r)
  unfolding header_read
  header_read_same =
      pick_both (Same r) (same_bytes (take 2 r.header_row) (112 ∷ 32 ∷ [])) _ _ (λ k. words_same (words_from [] (drop 2 r.header_row))) (λ k. none)

then_stops : (r₀ r : Reader) (x : Read) → Same r₀ x → then_ended x ≡ goes_on r → Stops (literal_done r₀) r
unfolding then_ended
then_stops r₀ r (goes_on r₁) (same a b) e = let q = ended_stops r₁ r e in (sym a ∙ q.0, sym b ∙ q.1)
then_stops r₀ r (wrong k ns) none e = absurd (no_wrong k ns r e)

end_stops : (r₀ r : Reader) (b : Bool) → pick b (then_ended (header_read r₀)) (ended r₀) ≡ goes_on r → Stops (literal_done r₀) r
end_stops r₀ r true e = then_stops r₀ r (header_read r₀) (header_read_same r₀) e
end_stops r₀ r false e = ended_stops r₀ r e

bytes_wrong : (bs : List ℕ) (k : ℕ) (ns : List ℕ) → bytes_read bs (wrong k ns) ≡ wrong k ns
unfolding bytes_read next_byte
bytes_wrong [] k ns = refl
bytes_wrong (b ∷ bs) k ns = bytes_wrong bs k ns

stops : (bs : List ℕ) (r₀ r : Reader) → at_end (bytes_read bs (goes_on r₀)) ≡ goes_on r → Stops (stopped_at bs r₀) r
unfolding stopped_at bytes_read next_byte at_end
stops [] r₀ r e = end_stops r₀ r r₀.in_header e
stops (b ∷ bs) r₀ r e = go (byte_read b (counted b r₀)) (λ r₁. stops bs r₁ r) e
  where
    go : (x : Read) → ((r₁ : Reader) → at_end (bytes_read bs (goes_on r₁)) ≡ goes_on r → Stops (stopped_at bs r₁) r) → at_end (bytes_read bs x) ≡ goes_on r →
        Stops (by_read x r₀ (λ r₁. stopped_at bs r₁)) r
    go (goes_on r₁) ih f = ih r₁ f
    go (wrong k ns) ih f = absurd (no_wrong k ns r (sym (ap at_end (bytes_wrong bs k ns)) ∙ f))

pub file_stops_with : (bs : List ℕ) (r : Reader) → file_read bs ≡ goes_on r → Stops (stopped_at bs first_reader) r
unfolding file_read
file_stops_with bs r e = stops bs first_reader r e
