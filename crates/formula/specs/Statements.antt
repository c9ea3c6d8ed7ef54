-- What is promised of clauses, their truth and their proofs: seven statements, each a type.
-- Each is the contract of a function of src/statements.rt, so the gate asks for its proof.
use Rattle.std.specs.Prelude.{◌≡◌, ℕ, true, ◌⊎◌, List, ◌∷◌, ◌++◌}
use Rattle.formula.specs.Logic.{every, Clause, Truth, all_true, clause_true, CanBe, CannotBe, has, by_propagation, Step, holds, has_empty, other}

-- A clause that follows by propagation follows; and what holds as a proof with the empty clause in it says that they can't be.
unfoldable pub PropagationSound : Type 0
PropagationSound = (cs : List Clause) (c : Clause) (t : Truth) → by_propagation cs c ≡ true → all_true t cs ≡ true → clause_true t c ≡ true

unfoldable pub ProofSound : Type 0
ProofSound = (cs : List Clause) (ss : List Step) → holds cs ss ≡ true → has_empty ss ≡ true → CannotBe cs

-- If they can't be there's a proof.
unfoldable pub ProofThere : Type 0
ProofThere = (cs : List Clause) → CannotBe cs → (ss : List Step) × (holds cs ss ≡ true) × (has_empty ss ≡ true)

-- Clauses can be or they can't.
unfoldable pub OneOrOther : Type 0
OneOrOther = (cs : List Clause) → CanBe cs ⊎ CannotBe cs

-- The order of clauses and of literals, and one that stands twice, change nothing.
unfoldable pub OrderFree : Type 0
OrderFree =
    (cs ds : List Clause) (c d : Clause) → every (has c) d ≡ true → every (has d) c ≡ true →
    (CanBe (cs ++ c ∷ ds) → CanBe (d ∷ ds ++ cs)) × (CanBe (c ∷ cs) → CanBe (c ∷ c ∷ cs))

-- A clause with a literal and its other may be left out.
unfoldable pub Tautology : Type 0
Tautology = (cs : List Clause) (c : Clause) (l : ℕ) → has c l ≡ true → has c (other l) ≡ true → CannotBe (c ∷ cs) → CannotBe cs

-- Resolution adds what follows.
unfoldable pub Resolves : Type 0
Resolves = (cs : List Clause) (c d : Clause) (l : ℕ) → by_propagation ((l ∷ c) ∷ (other l ∷ d) ∷ cs) (c ++ d) ≡ true
