-- A formula and a proof as their bytes are read: `formula_read` and `proof_read`, None where the text is malformed.
-- A byte at a time gives a token or none; a clause or step ends at its 0, wherever lines end.
use Rattle.std.specs.Prelude.{ℕ, Bool, true, false, not, ◌&&◌, List, [], ◌∷◌, ◌++◌, map, Some, None, Option}
use Rattle.std.specs.Option.{option_map}
use Rattle.formula.specs.Logic.{pick, none_of, Clause, Step, adds, deletes}
use Rattle.checker.specs.declared.input.Action.{Action}
use Rattle.checker.specs.declared.input.Action.TheVariants.{Add, Delete}
use Rattle.checker.specs.declared.lexer.Lexer.{Lexer}
use Rattle.checker.specs.declared.lexer.Lexer.TheVariants.{LineStart}
use Rattle.checker.specs.declared.lexer.Token.{Token}
use Rattle.checker.specs.declared.lexer.Token.TheVariants.{Quiet, Literal, Zero, LetterD, LetterP}
use Rattle.checker.specs.declared.reader.Source.{Source}
use Rattle.checker.specs.declared.reader.Source.TheVariants.{Formula, Proof}
use Rattle.checker.specs.Input.{step_as}
use Rattle.checker.specs.Lexing.{lexed}

-- the steps so far, and the one that isn't done
pub record Building : Type 0 where
  pub done : List Step
  pub action : Action
  pub part : List ℕ

abbrev pub building : List Step → Action → List ℕ → Building
building ss a p = record { done = ss; action = a; part = p }

abbrev pub is_proof : Source → Bool
is_proof Formula = false
is_proof Proof = true

abbrev pub is_add : Action → Bool
is_add Add = true
is_add Delete = false

-- between two steps
abbrev pub is_fresh : Building → Bool
is_fresh s = none_of s.part && is_add s.action

-- a `d` stands before a step of a proof, the header before all clauses of a formula
abbrev pub taken : Source → Building → Token → Option Building
taken k s Quiet = Some s
taken k s (Literal l) = Some (building s.done s.action (s.part ++ l ∷ []))
taken k s Zero = Some (building (s.done ++ step_as s.action s.part ∷ []) Add [])
taken k s LetterD = pick (is_proof k && is_fresh s) (Some (building s.done Delete s.part)) None
taken k s LetterP = pick (not (is_proof k) && (is_fresh s && none_of s.done)) (Some s) None

abbrev pub with_lexer : Lexer → Option Building → Option (Lexer × Building)
with_lexer x None = None
with_lexer x (Some s) = Some (x, s)

abbrev pub with_token : Source → Building → Option (Lexer × Token) → Option (Lexer × Building)
with_token k s None = None
with_token k s (Some p) = with_lexer p.0 (taken k s p.1)

-- one byte
abbrev pub fed : Source → Lexer × Building → ℕ → Option (Lexer × Building)
fed k s b = with_token k s.1 (lexed s.0 b)

unfoldable pub all_fed : Source → Option (Lexer × Building) → List ℕ → Option (Lexer × Building)
all_fed k None bs = None
all_fed k (Some s) [] = Some s
all_fed k (Some s) (b ∷ bs) = all_fed k (fed k s b) bs

abbrev pub closed : Option (Lexer × Building) → Option (List Step)
closed None = None
closed (Some s) = pick (is_fresh s.1) (Some s.1.done) None

abbrev pub first_state : Lexer × Building
first_state = (LineStart, building [] Add [])

-- the whole text, and a line's end behind it
unfoldable pub text_read : Source → List ℕ → Option (List Step)
text_read k bs = closed (all_fed k (Some first_state) (bs ++ 10 ∷ []))

abbrev pub proof_read : List ℕ → Option (List Step)
proof_read bs = text_read Proof bs

abbrev pub clause_in : Step → Clause
clause_in (adds c) = c
clause_in (deletes c) = c

abbrev pub formula_read : List ℕ → Option (List Clause)
formula_read bs = option_map (map clause_in) (text_read Formula bs)
