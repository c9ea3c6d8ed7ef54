-- A proof that is written is read as what it was: byte by byte, number by number, step by step.
use Rattle.std.proofs.Common.{◌≡◌, ℕ, suc, ◌+◌, ◌-◌, ◌*◌, ◌/◌, ◌%◌, ◌<◌, ◌≤◌, Bool, true, false, ltb, List, [], ◌∷◌, ◌++◌, Some, None, Option, sym, refl, ap, ◌∙◌, inl, inr, append_assoc, append-nil, arith}
use Rattle.std.proofs.lemmas.Bool.{ltb-true, and_parts}
use Rattle.formula.specs.Logic.{pick, every, none_of, Step, adds, deletes}
use Rattle.formula.proofs.Soundness.{even_or_odd}
use Rattle.dimacs.specs.Text.{number_text, literal_text, clause_text, step_text, proof_text}
use Rattle.dimacs.proofs.ThereAndBack.{number_ind}
use Rattle.checker.specs.declared.input.Action.TheVariants.{Add, Delete}
use Rattle.checker.specs.declared.lexer.Lexer.{Lexer}
use Rattle.checker.specs.declared.lexer.Lexer.TheVariants.{LineStart, Between, Signed, Number}
use Rattle.checker.specs.declared.lexer.Token.TheVariants.{Quiet, Literal}
use Rattle.checker.specs.declared.reader.Source.{Source}
use Rattle.checker.specs.declared.reader.Source.TheVariants.{Proof}
use Rattle.checker.specs.Input.{step_as}
use Rattle.checker.specs.Lexing.{lexed}
use Rattle.checker.specs.Reading.{Building, building, with_token, fed, all_fed, closed, first_state, text_read, clause_in}
use Rattle.checker.specs.ReadBack.{clause_fits, ReadBack}

pub all_fed-++ : (k : Source) (o : Option (Lexer × Building)) (xs ys : List ℕ) → all_fed k o (xs ++ ys) ≡ all_fed k (all_fed k o xs) ys
unfolding all_fed
all_fed-++ k None xs ys = refl
all_fed-++ k (Some s) [] ys = refl
all_fed-++ k (Some s) (x ∷ xs) ys = all_fed-++ k (fed k s x) xs ys

-- one byte
pub byte_fed : (k : Source) (x x₁ : Lexer) (s : Building) (b : ℕ) → lexed x b ≡ Some (x₁, Quiet) → all_fed k (Some (x, s)) (b ∷ []) ≡ Some (x₁, s)
unfolding all_fed
byte_fed k x x₁ s b e = ap (λ o. all_fed k (with_token k s o) []) e

-- NUMBERS
abbrev pub Opens : Lexer → Bool → Type 0
Opens x n = (b : ℕ) → 48 ≤ b → b ≤ 57 → lexed x b ≡ Some (Number n (b - 48), Quiet)

pub opens_between : Opens Between false
opens_between b h l = grind arith

pub opens_line : Opens LineStart false
opens_line b h l = grind arith

pub opens_signed : Opens Signed true
opens_signed b h l = grind arith

pub digit_lexed : (n : Bool) (v b : ℕ) → 48 ≤ b → b ≤ 57 → v * 10 + (b - 48) ≤ 2147483648 → lexed (Number n v) b ≡ Some (Number n (v * 10 + (b - 48)), Quiet)
digit_lexed n v b h l m = grind arith

abbrev pub in_digits : Bool → ℕ → Building → Option (Lexer × Building)
in_digits n v s = Some (Number n v, s)

pub number_fed : (k : Source) (x : Lexer) (n : Bool) (s : Building) → Opens x n → (v : ℕ) → v ≤ 2147483648 → all_fed k (Some (x, s)) (number_text v) ≡ Some (Number n v, s)
number_fed k x n s o v h = number_ind (λ v xs. v ≤ 2147483648 → all_fed k (Some (x, s)) xs ≡ Some (Number n v, s)) one more v (omega arith) h
  where
    at : (u v : ℕ) → u ≡ v → in_digits n u s ≡ in_digits n v s
    at u v e = ap (λ (z : ℕ). in_digits n z s) e

    one : (v : ℕ) → v < 10 → v ≤ 2147483648 → all_fed k (Some (x, s)) ((48 + v) ∷ []) ≡ Some (Number n v, s)
    one v h l = byte_fed k x (Number n (48 + v - 48)) s (48 + v) (o (48 + v) (omega arith) (omega arith)) ∙ at (48 + v - 48) v (omega arith)

    more : (v : ℕ) (xs : List ℕ) → 10 ≤ v → (v / 10 ≤ 2147483648 → all_fed k (Some (x, s)) xs ≡ Some (Number n (v / 10), s)) → v ≤ 2147483648 →
        all_fed k (Some (x, s)) (xs ++ (48 + v % 10) ∷ []) ≡ Some (Number n v, s)
    more v xs h ih l = all_fed-++ k (Some (x, s)) xs ((48 + v % 10) ∷ []) ∙ (ap (λ o. all_fed k o ((48 + v % 10) ∷ [])) (ih (omega arith))
        ∙ (byte_fed k (Number n (v / 10)) (Number n (v / 10 * 10 + (48 + v % 10 - 48))) s (48 + v % 10) (digit_lexed n (v / 10) (48 + v % 10) (omega arith) (omega arith) (omega arith))
        ∙ at (v / 10 * 10 + (48 + v % 10 - 48)) v (omega arith)))

-- LITERALS
abbrev pub more_part : Building → ℕ → Building
more_part s l = building s.done s.action (s.part ++ l ∷ [])

pub blank_fed : (k : Source) (n : Bool) (v l : ℕ) (s : Building) → 2 * v + pick n 1 0 ≡ l → all_fed k (Some (Number n (suc v), s)) (32 ∷ []) ≡ Some (Between, more_part s l)
unfolding all_fed
blank_fed k n v l s e = ap (λ o. all_fed k (with_token k s o) []) told
  where
    told : lexed (Number n (suc v)) 32 ≡ Some (Between, Literal l)
    told = grind arith

pub record Begins (x : Lexer) : Type 0 where
  pub opens : Opens x false
  pub minus : lexed x 45 ≡ Some (Signed, Quiet)

pub between_begins : Begins Between
between_begins = record { opens = opens_between; minus = refl }

pub line_begins : Begins LineStart
line_begins = record { opens = opens_line; minus = refl }

pub literal_fed : (k : Source) (x : Lexer) (s : Building) (l : ℕ) → Begins x → l < 4294967296 → all_fed k (Some (x, s)) (literal_text l ++ 32 ∷ []) ≡ Some (Between, more_part s l)
literal_fed k x s l o h = all_fed-++ k (Some (x, s)) (literal_text l) (32 ∷ []) ∙ elim (even_or_odd l) [
  | inl e ↦ rw e (ap (λ o. all_fed k o (32 ∷ [])) (number_fed k x false s o.opens (suc (l / 2)) (omega arith)) ∙ blank_fed k false (l / 2) l s (omega arith))
  | inr e ↦ rw e (ap (λ o. all_fed k o (32 ∷ [])) (all_fed-++ k (Some (x, s)) (45 ∷ []) (number_text (suc (l / 2))) ∙ (ap (λ o. all_fed k o (number_text (suc (l / 2)))) (byte_fed k x Signed s 45 o.minus)
      ∙ number_fed k Signed true s opens_signed (suc (l / 2)) (omega arith))) ∙ blank_fed k true (l / 2) l s (omega arith))
]

-- CLAUSES
abbrev pub with_step : Building → List ℕ → Building
with_step s c = building (s.done ++ step_as s.action (s.part ++ c) ∷ []) Add []

zero_fed : (k : Source) (x : Lexer) (s : Building) → Begins x → all_fed k (Some (x, s)) (48 ∷ 10 ∷ []) ≡ Some (LineStart, building (s.done ++ step_as s.action s.part ∷ []) Add [])
unfolding all_fed
zero_fed k x s o = all_fed-++ k (Some (x, s)) (48 ∷ []) (10 ∷ []) ∙ ap (λ o. all_fed k o (10 ∷ [])) (byte_fed k x (Number false 0) s 48 (o.opens 48 (omega arith) (omega arith)))

pub clause_fed : (k : Source) (x : Lexer) (s : Building) (c : List ℕ) → Begins x → clause_fits c ≡ true → all_fed k (Some (x, s)) (clause_text c) ≡ Some (LineStart, with_step s c)
unfolding clause_text every
clause_fed k x s [] o h = zero_fed k x s o ∙ ap (λ (p : List ℕ). Some (LineStart, building (s.done ++ step_as s.action p ∷ []) Add [])) (sym (append-nil s.part))
clause_fed k x s (l ∷ ls) o h =
    let q = and_parts (ltb l 4294967296) (clause_fits ls) h in
    ap (all_fed k (Some (x, s))) (sym (append_assoc (literal_text l) (32 ∷ []) (clause_text ls)))
    ∙ (all_fed-++ k (Some (x, s)) (literal_text l ++ 32 ∷ []) (clause_text ls)
    ∙ (ap (λ o. all_fed k o (clause_text ls)) (literal_fed k x s l o (ltb-true l 4294967296 q.0))
    ∙ (clause_fed k Between (more_part s l) ls between_begins q.1
    ∙ ap (λ (p : List ℕ). Some (LineStart, building (s.done ++ step_as s.action p ∷ []) Add [])) (append_assoc s.part (l ∷ []) ls))))

-- STEPS
abbrev pub between_steps : List Step → Option (Lexer × Building)
between_steps done = Some (LineStart, building done Add [])

pub step_fed : (done : List Step) (s : Step) → clause_fits (clause_in s) ≡ true → all_fed Proof (between_steps done) (step_text s) ≡ between_steps (done ++ s ∷ [])
unfolding step_text all_fed none_of
step_fed done (adds c) h = clause_fed Proof LineStart (building done Add []) c line_begins h
step_fed done (deletes c) h = clause_fed Proof Between (building done Delete []) c between_begins h

pub steps_fed : (done ss : List Step) → every (λ s. clause_fits (clause_in s)) ss ≡ true → all_fed Proof (between_steps done) (proof_text ss) ≡ between_steps (done ++ ss)
unfolding proof_text every all_fed
steps_fed done [] h = ap between_steps (sym (append-nil done))
steps_fed done (s ∷ ss) h =
    let q = and_parts (clause_fits (clause_in s)) (every (λ s. clause_fits (clause_in s)) ss) h in
    all_fed-++ Proof (between_steps done) (step_text s) (proof_text ss)
    ∙ (ap (λ o. all_fed Proof o (proof_text ss)) (step_fed done s q.0) ∙ (steps_fed (done ++ s ∷ []) ss q.1 ∙ ap between_steps (append_assoc done (s ∷ []) ss)))

pub read_back : ReadBack
unfolding ReadBack text_read all_fed none_of
read_back ss h = ap closed (all_fed-++ Proof (Some first_state) (proof_text ss) (10 ∷ []) ∙ ap (λ o. all_fed Proof o (10 ∷ [])) (steps_fed [] ss h))
