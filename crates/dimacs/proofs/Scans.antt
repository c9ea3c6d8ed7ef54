-- What code keeps of a text is what the reader of Text has: at the start, after each byte, and at the end.
-- What each byte makes of both, and what bounds what is kept.
use Rattle.std.proofs.Common.{◌≡◌, ℕ, ◌+◌, ◌-◌, ◌*◌, ◌≤◌, Bool, true, false, not, ◌&&◌, eqb, ltb, List, [], ◌∷◌, ◌++◌, length, get_or, Ok, Err, Result, sym, refl, ap, ◌∙◌, inl, inr, true≢false, subst, arith}
use Rattle.std.proofs.lemmas.Bool.{cases_Bool, and_parts, eqb-true}
use Rattle.std.proofs.lemmas.List.{drop-append-le}
use Rattle.std.proofs.Math.Seq.{drop-append_seam}
use Rattle.formula.specs.Logic.{Clause, pick, none_of}
use Rattle.dimacs.specs.Text.{Reader, Read, Header, reader, goes_on, wrong, byte_read, skipped, digit_read, blank_read, then_out, is_digit, is_end}
use Rattle.dimacs.specs.Scan.{Refusal, refusal_told, number_told}
use Rattle.dimacs.specs.Heading.{heading_read}
use Rattle.dimacs.specs.declared.read.Fault.{Fault}
use Rattle.dimacs.specs.declared.read.Fault.TheVariants.{BadByte, TooLarge, BadHeader, OpenClause, MoreVars, OtherClauses}
use Rattle.dimacs.specs.declared.header.Promise.{Promise}
use Rattle.dimacs.specs.declared.scan.State.{State}
use Rattle.dimacs.specs.declared.scan.State.TheVariants.{LineStart, Between, Minus, Number, Comment}
use Rattle.dimacs.specs.declared.scan.State.TheVariants as st
use Rattle.dimacs.specs.declared.scan.Tally.{Tally}
use Rattle.dimacs.specs.declared.scan.Scan.{Scan}
use Rattle.dimacs.specs.Scanning as sc
use Rattle.dimacs.specs.Scanning.{value_of, negated_of, in_number, skips, in_header, start_of, row_of, starts, promise_of, kept, stood, Bounded, line_counted, with_promise, header_ended, rows_done, byte_skipped, mark_taken, byte_taken, rows_taken, is_separator, can_end, can_negate}
use Rattle.dimacs.proofs.Headings.{header_is, as_read, numbers_told}
use Rattle.dimacs.proofs.Laying.{laid_by, done_clauses, done_part, rows_are, tally_is, done_is}

abbrev pub refusal_of : ℕ → List ℕ → Refusal
refusal_of k ns = record { number = k; shown = length ns; first = get_or ns 0 0; second = get_or ns 1 0 }

pub refusal_is : (f : Fault) → refusal_told f ≡ refusal_of (number_told f) (numbers_told f)
refusal_is (BadByte l b) = refl
refusal_is (TooLarge l) = refl
refusal_is (BadHeader l) = refl
refusal_is (OpenClause l) = refl
refusal_is (MoreVars n m) = refl
refusal_is (OtherClauses n m) = refl

-- code's side and the reader's stand alike behind some bytes, with the same clauses, a part of one and a header, and the rows written so
pub record Same (before t rows : List ℕ) (s : Scan) (r : Reader) : Type 0 where
  pub clauses : List Clause
  pub part : List ℕ
  pub headers : List Header
  pub sees : s ≡ kept clauses part headers s.line s.state
  pub stands : r ≡ stood before clauses part headers s.line s.state
  pub lays : rows ≡ laid_by t clauses part

-- both go on alike, or both refuse alike and the rows stay as they were
abbrev pub Alike : (before t old rows : List ℕ) → Result Scan Fault → Read → Type 0
Alike before t old rows (Ok s) (goes_on r) = Same before t rows s r
Alike before t old rows (Err f) (wrong k ns) = (refusal_told f ≡ refusal_of k ns) × (rows ≡ old)
Alike before t old rows (Ok s) (wrong k ns) = ⊥
Alike before t old rows (Err f) (goes_on r) = ⊥

pub pick_pair : {A B : Type 0} (R : A → B → Type 0) (c : Bool) (x y : A) (u v : B) → (c ≡ true → R x u) → (c ≡ false → R y v) → R (pick c x y) (pick c u v)
pick_pair R true x y u v g h = g refl
pick_pair R false x y u v g h = h refl

pub pick_three : {A B C : Type 0} (R : A → B → C → Type 0) (c : Bool) (x y : A) (u v : B) (w z : C) → (c ≡ true → R x u w) → (c ≡ false → R y v z) →
    R (pick c x y) (pick c u v) (pick c w z)
pick_three R true x y u v w z g h = g refl
pick_three R false x y u v w z g h = h refl

pub pick_one : (R : Read → Type 0) (c : Bool) (u v : Reader) → (c ≡ true → R (goes_on u)) → (c ≡ false → R (goes_on v)) → R (goes_on (pick c u v))
pick_one R true u v g h = g refl
pick_one R false u v g h = h refl

-- STATES, by what is asked of them
pub no_header : (x : State) → skips x ≡ false → in_header x ≡ false
no_header (st.Header start) e = absurd (true≢false e)
no_header x e = refl

pub no_row : (before : List ℕ) (x : State) → in_header x ≡ false → row_of before x ≡ []
no_row before (st.Header start) e = absurd (true≢false e)
no_row before x e = refl

pub fresh : (x : State) → starts x ≡ true → (value_of x ≡ 0) × (negated_of x ≡ false) × (in_number x ≡ false)
fresh LineStart e = (refl, refl, refl)
fresh Comment e = (refl, refl, refl)
fresh (st.Header start) e = (refl, refl, refl)
fresh x e = absurd (true≢false (sym e))

pub no_number : (x : State) → can_negate x ≡ true → (value_of x ≡ 0) × (in_number x ≡ false)
no_number (Number m n) e = absurd (grind arith)
no_number x e = (refl, refl)

pub no_header_is : (hs : List Header) → sc.no_header (promise_of hs) ≡ none_of hs
unfolding none_of
no_header_is [] = refl
no_header_is (h ∷ hs) = refl

pub skipping : (x : State) → skips x ≡ true → starts x ≡ true
skipping Comment e = refl
skipping (st.Header start) e = refl
skipping x e = absurd (true≢false (sym e))

pub row_more : (before : List ℕ) (b : ℕ) (x : State) → start_of x ≤ length before → in_header x ≡ true → row_of before x ++ b ∷ [] ≡ row_of (before ++ b ∷ []) x
row_more before b (st.Header start) w e = sym (drop-append-le start before (b ∷ []) w)
row_more before b x w e = absurd (true≢false (sym e))

-- ONE BYTE
module _ (t before : List ℕ) (b : ℕ) (cs : List Clause) (p : List ℕ) (hs : List Header) (line : ℕ) (x : State) (within : start_of x ≤ length before) where
  abbrev old : List ℕ
  old = laid_by t cs p

  abbrev now : List ℕ
  now = before ++ b ∷ []

  abbrev here : Scan
  here = kept cs p hs line x

  abbrev there : Reader
  there = stood before cs p hs line x

  same : (y : State) (rows : List ℕ) (r : Reader) → rows ≡ old → r ≡ stood now cs p hs line y → Same now t rows (kept cs p hs line y) r
  same y rows r l e = record { clauses = cs; part = p; headers = hs; sees = refl; stands = e; lays = l }

  header_alike : skips x ≡ true → (o : Result Promise Fault) → Alike now t old old (with_promise here o) (then_out (as_read there o))
  unfolding then_out
  header_alike e (Ok q) =
      let f = fresh x (skipping x e) in
      record { clauses = cs; part = p; headers = record { head_vars = q.vars; head_clauses = q.clauses } ∷ []; sees = refl; stands = rw (f.0, f.1, f.2) refl; lays = refl }
  header_alike e (Err f) = (refusal_is f, refl)

  skipped_alike : skips x ≡ true → Alike now t old old (byte_skipped before b here) (skipped b there)
  unfolding skipped
  skipped_alike e =
      let f = fresh x (skipping x e) in
      pick_pair (Alike now t old old) (is_end b) _ _ _ _
      (λ y. pick_pair (Alike now t old old) (in_header x) _ _ _ _
      (λ z. subst (λ (q : Read). Alike now t old old (header_ended (row_of before x) here) (then_out q)) (sym (header_is there)) (header_alike e (heading_read (row_of before x) line)))
      (λ z. same LineStart old _ refl (rw (f.0, f.1, f.2, no_row before x z) refl)))
      (λ y. pick_one (Alike now t old old (Ok here)) (in_header x) _ _
      (λ z. same x old _ refl (rw (row_more before b x within z, e, z) refl))
      (λ z. same x old _ refl (rw (no_row before x z, no_row now x z) refl)))

  -- a byte that ends nothing leaves the rows
  abbrev ends : Bool
  ends = is_separator b && can_end x

  abbrev rows : List ℕ
  rows = pick ends (rows_done old x here.tally) old

  stays : ends ≡ false → rows ≡ old
  stays e = ap (λ v. pick v (rows_done old x here.tally) old) e

  mark_alike : skips x ≡ false →
      Alike now t old rows (mark_taken (length before) b here)
      (pick (is_digit b) (digit_read (b - 48) there)
      (pick (eqb b 45 && can_negate x) (goes_on (reader cs p (value_of x) true (in_number x) false (in_header x) false line (row_of before x) hs))
      (pick ends (goes_on (blank_read b there))
      (pick (eqb b 99 && starts x) (goes_on (reader cs p (value_of x) (negated_of x) (in_number x) true false (starts x) line (row_of before x) hs))
      (pick (eqb b 112 && (starts x && none_of hs)) (goes_on (reader cs p (value_of x) (negated_of x) (in_number x) true true (starts x) line (112 ∷ []) hs))
      (wrong 20 (line ∷ b ∷ [])))))))
  unfolding digit_read
  mark_alike e =
      let h = no_header x e in
      let r = no_row before x h in
      pick_pair R (is_digit b) _ _ _ _
      (λ d. pick_pair R (ltb 16384 (value_of x * 10 + (b - 48))) _ _ _ _ (λ y. refused (TooLarge line) 21 (line ∷ []) refl (stays (grind arith)))
      (λ y. same (Number (negated_of x) (value_of x * 10 + (b - 48))) rows _ (stays (grind arith)) (rw (h, r) refl)))
      (λ d. pick_pair R (eqb b 45 && can_negate x) _ _ _ _
      (λ y. let n = no_number x (and_parts (eqb b 45) _ y).1 in same Minus rows _ (stays (grind arith)) (rw (h, r, n.0, n.1) refl))
      (λ y. pick_pair R ends _ _ _ _ (λ z. ended z h r)
      (λ z. pick_pair R (eqb b 99 && starts x) _ _ _ _
      (λ u. let s = (and_parts (eqb b 99) _ u).1 in let f = fresh x s in same Comment rows _ (stays z) (rw (r, s, f.0, f.1, f.2) refl))
      (λ u. rw (no_header_is hs) (pick_pair R (eqb b 112 && (starts x && none_of hs)) _ _ _ _ (λ v. begun z v) (λ v. refused (BadByte line b) 20 (line ∷ b ∷ []) refl (stays z)))))))
    where
      R : Result Scan Fault → Read → Type 0
      R = Alike now t old rows

      refused : (f : Fault) (k : ℕ) (ns : List ℕ) → refusal_told f ≡ refusal_of k ns → rows ≡ old → R (Err f) (wrong k ns)
      refused f k ns e l = (e, l)

      begun : ends ≡ false → (eqb b 112 && (starts x && none_of hs)) ≡ true →
          Same now t rows (sc.in_state here (st.Header (length before))) (reader cs p (value_of x) (negated_of x) (in_number x) true true (starts x) line (112 ∷ []) hs)
      begun z v =
          let a = and_parts (eqb b 112) _ v in
          let s = (and_parts (starts x) _ a.1).0 in
          let f = fresh x s in
          same (st.Header (length before)) rows _ (stays z) (rw (s, f.0, f.1, f.2, drop-append_seam before (b ∷ []), eqb-true b 112 a.0) refl)

      ended : ends ≡ true → in_header x ≡ false → row_of before x ≡ [] → Same now t rows (sc.number_ended b here) (blank_read b there)
      ended z h r =
          record {
            clauses = done_clauses x cs p;
            part = done_part x p;
            headers = hs;
            sees = ap (λ (y : Tally). record { line = line; state = pick (eqb b 32) Between LineStart; tally = y; header = promise_of hs }) (tally_is cs p x);
            stands = ap out (done_is cs p x _ _ _ line _ hs) ∙ out_is;
            lays = ap (λ v. pick v (rows_done old x here.tally) old) z ∙ rows_are t cs p x;
          }
        where
          out : Reader → Reader
          out s = reader s.read_clauses s.part 0 false false false s.in_header (not (eqb b 32)) s.line s.header_row s.header

          out_is : out (stood before (done_clauses x cs p) (done_part x p) hs line x) ≡ stood now (done_clauses x cs p) (done_part x p) hs line (pick (eqb b 32) Between LineStart)
          out_is = elim (cases_Bool (eqb b 32)) [ inl w ↦ rw (h, r, w) refl | inr w ↦ rw (h, r, w) refl ]

  pub taken_alike : Alike now t old (rows_taken old b here) (byte_taken before b here) (byte_read b there)
  unfolding byte_read
  taken_alike = pick_three (Alike now t old) (skips x) _ _ _ _ _ _ skipped_alike mark_alike

-- BOUNDS: what is kept never passes the number of bytes
abbrev pub Fine : (Scan → Type 0) → Result Scan Fault → Type 0
Fine P (Ok s) = P s
Fine P (Err f) = true ≡ true

pub pick_holds : {A : Type 0} (P : A → Type 0) (c : Bool) (x y : A) → (c ≡ true → P x) → (c ≡ false → P y) → P (pick c x y)
pick_holds P true x y g h = g refl
pick_holds P false x y g h = h refl

-- with the byte's line counted already
pub record Counting (n : ℕ) (s : Scan) : Type 0 where
  pub lines : s.line ≤ n + 2
  pub begun : start_of s.state ≤ n
  pub counts : s.tally.counts.clauses + s.tally.counts.literals + s.tally.part + pick (in_number s.state) 1 0 ≤ n

pub counting : (n b : ℕ) (s : Scan) → Bounded n s → Counting n (line_counted b s)
counting n b s k = record { lines = pick_holds (λ l. l ≤ n + 2) (eqb b 10) _ _ (λ e. omega (arith, k.lines)) (λ e. omega (arith, k.lines)); begun = k.begun; counts = k.counts }

module _ (before : List ℕ) (b : ℕ) (s : Scan) (k : Counting (length before) s) where
  abbrev n : ℕ
  n = length before

  abbrev F : Result Scan Fault → Type 0
  F = Fine (Bounded (n + 1))

  l : s.line ≤ n + 2
  l = k.lines

  c : s.tally.counts.clauses + s.tally.counts.literals + s.tally.part + pick (in_number s.state) 1 0 ≤ n
  c = k.counts

  -- no more is counted, and a state that can have begun by now
  into : (x : State) → start_of x ≤ n → pick (in_number x) 1 0 ≤ 1 → Bounded (n + 1) (sc.in_state s x)
  into x h i = record { lines = omega arith; begun = omega arith; counts = omega arith }

  header_bounded : (o : Result Promise Fault) → F (with_promise s o)
  header_bounded (Ok p) = record { lines = omega arith; begun = omega arith; counts = omega arith }
  header_bounded (Err f) = refl

  pub bounded_taken : F (byte_taken before b s)
  bounded_taken =
      pick_holds F (skips s.state) _ _
      (λ e. pick_holds F (is_end b) _ _ (λ x. pick_holds F (in_header s.state) _ _ (λ y. header_bounded _) (λ y. into LineStart (omega arith) (omega arith)))
      (λ x. record { lines = omega arith; begun = omega (arith, k.begun); counts = omega arith }))
      (λ e. pick_holds F (is_digit b) _ _
      (λ d. pick_holds F (ltb 16384 (value_of s.state * 10 + (b - 48))) _ _ (λ y. refl) (λ y. into (Number _ _) (omega arith) (omega arith)))
      (λ d. pick_holds F (eqb b 45 && can_negate s.state) _ _ (λ y. into Minus (omega arith) (omega arith))
      (λ y. pick_holds F (is_separator b && can_end s.state) _ _ (λ z. ended)
      (λ z. pick_holds F (eqb b 99 && starts s.state) _ _ (λ u. into Comment (omega arith) (omega arith))
      (λ u. pick_holds F (eqb b 112 && (starts s.state && sc.no_header s.header)) _ _ (λ v. into (st.Header n) (omega arith) (omega arith)) (λ v. refl))))))
    where
      ended : Bounded (n + 1) (sc.number_ended b s)
      ended = record { lines = omega arith; begun = grind arith; counts = grind arith }
