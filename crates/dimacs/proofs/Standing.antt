-- The loop over the bytes: what stands before each of them, and what is told when it stops.
-- `Stands` is the invariant; what is left of the bytes answers for the whole.
use Rattle.std.proofs.Common.{◌≡◌, ℕ, ◌+◌, ◌<◌, Bool, true, false, eqb, List, [], ◌∷◌, ◌++◌, length, get_or, take, drop, Ok, Err, Result, sym, refl, ap, ◌∙◌, subst, suc, arith}
use Rattle.std.proofs.lemmas.List.{at_drop_more, at_drop_all, take_more, length-take-le}
use Rattle.std.proofs.Math.Seq.{take-length}
use lib.Seq.{sets}
use Rattle.formula.specs.Logic.{Clause, pick, none_of, added_up}
use Rattle.formula.specs.Arena.{rows_of}
use Rattle.dimacs.specs.Text.{Reader, Read, Header, reader, first_reader, goes_on, wrong, byte_read, counted, literal_done, bytes_read, next_byte, at_end, ended, then_ended, with_header, file_read, row_vars, vars_of}
use Rattle.dimacs.specs.Scan.{by_read, stopped_at, laid, Wrong, Refusal, refusal_told, outcome_of, outcome_told}
use Rattle.dimacs.specs.Heading.{heading_read}
use Rattle.dimacs.specs.declared.read.Fault.{Fault}
use Rattle.dimacs.specs.declared.read.Counts.{Counts}
use Rattle.dimacs.specs.declared.header.Promise.{Promise}
use Rattle.dimacs.specs.declared.scan.State.{State}
use Rattle.dimacs.specs.declared.scan.Scan.{Scan}
use Rattle.dimacs.specs.Scanning.{value_of, negated_of, in_number, skips, starts, in_header, row_of, kept, stood, first_scan, Bounded, line_counted, rows_done, tally_done, tally_of, promise_of, byte_taken, rows_taken, end_checked, header_checked, scan_checked}
use Rattle.dimacs.proofs.Headings.{header_is, as_read}
use Rattle.dimacs.proofs.Laying.{laid_by, done_clauses, done_part, rows_are, tally_is, done_is}
use Rattle.dimacs.proofs.Scans.{refusal_is, Same, Alike, taken_alike, counting, bounded_taken, Fine}

pub record Stands (bs t : List ℕ) (i : ℕ) (s : Scan) (rows : List ℕ) : Type 0 where
  pub at : Reader
  pub same : Same (take i bs) t rows s at
  pub reads : bytes_read (drop i bs) (goes_on at) ≡ bytes_read bs (goes_on first_reader)
  pub stops : stopped_at (drop i bs) at ≡ stopped_at bs first_reader
  pub bounded : Bounded i s

pub stands_first : (bs t : List ℕ) → Stands bs t 0 first_scan t
unfolding row_vars vars_of added_up rows_of
stands_first bs t =
    record {
      at = first_reader;
      same = record { clauses = []; part = []; headers = []; sees = refl; stands = refl; lays = refl };
      reads = refl;
      stops = refl;
      bounded = record { lines = omega arith; begun = omega arith; counts = omega arith };
    }

pub wrong_stays : (bs : List ℕ) (k : ℕ) (ns : List ℕ) → bytes_read bs (wrong k ns) ≡ wrong k ns
unfolding bytes_read next_byte
wrong_stays [] k ns = refl
wrong_stays (b ∷ bs) k ns = wrong_stays bs k ns

-- where all is alike, with the line counted
pub counted_line : (b line : ℕ) → pick (eqb b 10) (line + 1) line ≡ pick (eqb b 10) (suc line) line
counted_line b line = ap (λ l. pick (eqb b 10) l line) (omega arith)

pub counted_alike : (t before : List ℕ) (b : ℕ) (s : Scan) (r : Reader) (rows : List ℕ) → Bounded (length before) s → Same before t rows s r →
    Alike (before ++ b ∷ []) t rows (rows_taken rows b s) (byte_taken before b (line_counted b s)) (byte_read b (counted b r))
counted_alike t before b s r rows w k = rw (k.sees, k.stands, k.lays, counted_line b s.line) (taken_alike t before b k.clauses k.part k.headers _ s.state w.begun)

pub laid_same : (before t rows : List ℕ) (s : Scan) (r : Reader) → Same before t rows s r → rows ≡ laid t 0 r
unfolding laid
laid_same before t rows s r k = rw k.stands (k.lays ∙ ap (λ n. sets (sets t 0 (rows_of k.clauses)) n k.part) (omega arith))

module _ (bs t : List ℕ) (i : ℕ) (s : Scan) (rows : List ℕ) (k : Stands bs t i s rows) (h : i < length bs) where
  abbrev here : ℕ
  here = get_or bs i 0

  abbrev before : List ℕ
  before = take i bs

  abbrev next : Read
  next = byte_read here (counted here k.at)

  so_many : length before ≡ i
  so_many = length-take-le i bs (omega arith)

  bounded : Bounded (length before) s
  bounded = subst (λ n. Bounded n s) (sym so_many) k.bounded

  alike : Alike (take (i + 1) bs) t rows (rows_taken rows here s) (byte_taken before here (line_counted here s)) next
  alike = rw (take_more bs i 0 h) (counted_alike t before here s k.at rows bounded k.same)

  reading : bytes_read (drop (i + 1) bs) next ≡ bytes_read bs (goes_on first_reader)
  unfolding bytes_read next_byte
  reading = sym (at_drop_more (λ (l : List ℕ). bytes_read l (goes_on k.at)) bs i 0 h) ∙ k.reads

  stopping : by_read next k.at (λ q. stopped_at (drop (i + 1) bs) q) ≡ stopped_at bs first_reader
  unfolding stopped_at
  stopping = sym (at_drop_more (λ (l : List ℕ). stopped_at l k.at) bs i 0 h) ∙ k.stops

  module _ (o : Result Scan Fault) (rows₂ : List ℕ) (e : byte_taken before here (line_counted here s) ≡ o) (g : rows₂ ≡ rows_taken rows here s) where
    now_alike : Alike (take (i + 1) bs) t rows rows₂ o next
    now_alike = rw (g, ← e) alike

    now_bounded : Fine (Bounded (i + 1)) o
    now_bounded = subst (λ n. Fine (Bounded (n + 1)) o) so_many (subst (Fine (Bounded (length before + 1))) e (bounded_taken before here (line_counted here s) (counting (length before) here s bounded)))

  pub stands_step : (s₂ : Scan) (rows₂ : List ℕ) → byte_taken before here (line_counted here s) ≡ Ok s₂ → rows₂ ≡ rows_taken rows here s → Stands bs t (i + 1) s₂ rows₂
  stands_step s₂ rows₂ e g = go next refl (now_alike (Ok s₂) rows₂ e g)
    where
      go : (x : Read) → next ≡ x → Alike (take (i + 1) bs) t rows rows₂ (Ok s₂) x → Stands bs t (i + 1) s₂ rows₂
      go (goes_on q) p a =
          record {
            at = q;
            same = a;
            reads = ap (bytes_read (drop (i + 1) bs)) (sym p) ∙ reading;
            stops = ap (λ (z : Read). by_read z k.at (λ r. stopped_at (drop (i + 1) bs) r)) (sym p) ∙ stopping;
            bounded = now_bounded (Ok s₂) rows₂ e g;
          }
      go (wrong n ns) p a = absurd a

  pub stands_wrong : (f : Fault) (rows₂ : List ℕ) → byte_taken before here (line_counted here s) ≡ Err f → rows₂ ≡ rows_taken rows here s →
      (Wrong (refusal_told f) ≡ outcome_of (file_read bs)) × (rows₂ ≡ laid t 0 (stopped_at bs first_reader))
  unfolding outcome_of file_read at_end
  stands_wrong f rows₂ e g = go next refl (now_alike (Err f) rows₂ e g)
    where
      go : (x : Read) → next ≡ x → Alike (take (i + 1) bs) t rows rows₂ (Err f) x → (Wrong (refusal_told f) ≡ outcome_of (file_read bs)) × (rows₂ ≡ laid t 0 (stopped_at bs first_reader))
      go (goes_on q) p a = absurd a
      go (wrong n ns) p a = (
        ap (λ (z : Refusal). Wrong z) a.0
            ∙ ap (λ (z : Read). outcome_of (at_end z)) (sym (wrong_stays (drop (i + 1) bs) n ns) ∙ (ap (bytes_read (drop (i + 1) bs)) (sym p) ∙ reading)),
        a.1 ∙ (laid_same before t rows s k.at k.same ∙ ap (laid t 0) (ap (λ (z : Read). by_read z k.at (λ r. stopped_at (drop (i + 1) bs) r)) (sym p) ∙ stopping)),
      )

-- AT THE END
pub told_is : (hs : List Header) (p : List ℕ) (s : Reader) (line : ℕ) →
    outcome_told (end_checked (promise_of hs) (tally_of s.read_clauses p) line) ≡ outcome_of (pick (none_of p) (with_header hs s.read_clauses s) (wrong 23 (line ∷ [])))
unfolding outcome_of with_header none_of row_vars
told_is [] [] s line = grind arith
told_is (h ∷ hs) [] s line = grind arith
told_is hs (x ∷ p) s line = grind arith

pub end_is : (cs : List Clause) (p : List ℕ) (x : State) (skips heading starts : Bool) (line : ℕ) (row : List ℕ) (hs : List Header) →
    outcome_told (end_checked (promise_of hs) (tally_done x (tally_of cs p)) line)
    ≡ outcome_of (ended (reader cs p (value_of x) (negated_of x) (in_number x) skips heading starts line row hs))
unfolding ended
end_is cs p x skips heading starts line row hs =
    rw (tally_is cs p x, done_is cs p x skips heading starts line row hs)
    (told_is hs (done_part x p) (reader (done_clauses x cs p) (done_part x p) (value_of x) (negated_of x) (in_number x) skips heading starts line row hs) line)

pub told_end : (before : List ℕ) (cs : List Clause) (p : List ℕ) (hs : List Header) (line : ℕ) (x : State) →
    outcome_told (scan_checked before (kept cs p hs line x)) ≡ outcome_of (at_end (goes_on (stood before cs p hs line x)))
unfolding at_end then_ended outcome_of
told_end before cs p hs line x =
    pick_told (in_header x) _ _ _ _
    (λ y. header_end (heading_read (row_of before x) line) ∙ ap (λ (z : Read). outcome_of (then_ended z)) (sym (header_is (stood before cs p hs line x))))
    (λ y. end_is cs p x _ _ _ line _ hs)
  where
    pick_told : (c : Bool) (x y : Result Counts Fault) (u v : Read) → (c ≡ true → outcome_told x ≡ outcome_of u) → (c ≡ false → outcome_told y ≡ outcome_of v) →
        outcome_told (pick c x y) ≡ outcome_of (pick c u v)
    pick_told true x y u v g h = g refl
    pick_told false x y u v g h = h refl

    header_end : (o : Result Promise Fault) → outcome_told (header_checked o (tally_done x (tally_of cs p)) line) ≡ outcome_of (then_ended (as_read (stood before cs p hs line x) o))
    header_end (Ok q) = end_is cs p x (skips x) false (starts x) line [] (record { head_vars = q.vars; head_clauses = q.clauses } ∷ [])
    header_end (Err f) = ap (λ (z : Refusal). Wrong z) (refusal_is f)

pub stands_end : (bs t : List ℕ) (i : ℕ) (s : Scan) (rows rows₂ : List ℕ) (o : Result Counts Fault) → Stands bs t i s rows → i ≡ length bs → o ≡ scan_checked bs s →
    rows₂ ≡ rows_done rows s.state s.tally → (outcome_told o ≡ outcome_of (file_read bs)) × (rows₂ ≡ laid t 0 (stopped_at bs first_reader))
unfolding file_read bytes_read stopped_at laid
stands_end bs t i s rows rows₂ o k n e g =
    let w = k.same in
    let whole : take i bs ≡ bs = rw n (take-length bs) in
    let at : k.at ≡ stood bs w.clauses w.part w.headers s.line s.state = w.stands ∙ ap (λ b. stood b w.clauses w.part w.headers s.line s.state) whole in
    let reads : goes_on k.at ≡ bytes_read bs (goes_on first_reader) = sym (at_drop_all (λ (l : List ℕ). bytes_read l (goes_on k.at)) bs i (omega arith)) ∙ k.reads in
    let stops : literal_done k.at ≡ stopped_at bs first_reader = sym (at_drop_all (λ (l : List ℕ). stopped_at l k.at) bs i (omega arith)) ∙ k.stops in
    let last : rows₂ ≡ laid_by t (done_clauses s.state w.clauses w.part) (done_part s.state w.part) =
    g ∙ (ap (λ (z : List ℕ). rows_done z s.state s.tally) w.lays
    ∙ (ap (λ (z : Scan). rows_done (laid_by t w.clauses w.part) s.state z.tally) w.sees ∙ rows_are t w.clauses w.part s.state))
    in (
      ap outcome_told e ∙ (ap (λ (z : Scan). outcome_told (scan_checked bs z)) w.sees ∙ (told_end bs w.clauses w.part w.headers s.line s.state
          ∙ ap (λ (z : Read). outcome_of (at_end z)) (ap (λ (q : Reader). goes_on q) (sym at) ∙ reads))),
      last ∙ (ap (λ n. sets (sets t 0 (rows_of (done_clauses s.state w.clauses w.part))) n (done_part s.state w.part)) (omega arith)
          ∙ ap (laid t 0) (sym (done_is w.clauses w.part s.state _ _ _ s.line _ w.headers) ∙ (ap literal_done (sym at) ∙ stops))),
    )
