-- The machine's numbers of its refusals. Definitions only.
use Rattle.std.specs.Prelude.{◌≡◌, ℕ, List, slice_index}
use Rattle.varisat.specs.declared.refusal.Refusal.{Refusal}
use Rattle.varisat.specs.declared.refusal.Refusal.TheVariants.{NotKnownYet, NotSolvedSo, Literals, Full, Proof, Byte, Large, Header, NotEnded, Variables, Clauses, Other}

abbrev pub number_of : Refusal → ℕ
number_of NotKnownYet = 2
number_of NotSolvedSo = 4
number_of Literals = 6
number_of Full = 7
number_of Proof = 8
number_of (Byte line byte) = 20
number_of (Large line) = 21
number_of (Header line) = 22
number_of (NotEnded line) = 23
number_of (Variables found said) = 24
number_of (Clauses found said) = 25
number_of (Other n) = n

-- what it tells besides is what was shown with the number; 0 stands for what was not
abbrev pub ShownWith : Refusal → List ℕ → Type 0
ShownWith NotKnownYet ns = Unit {0}
ShownWith NotSolvedSo ns = Unit {0}
ShownWith Literals ns = Unit {0}
ShownWith Full ns = Unit {0}
ShownWith Proof ns = Unit {0}
ShownWith (Byte line byte) ns = (line ≡ slice_index ns 0) × (byte ≡ slice_index ns 1)
ShownWith (Large line) ns = line ≡ slice_index ns 0
ShownWith (Header line) ns = line ≡ slice_index ns 0
ShownWith (NotEnded line) ns = line ≡ slice_index ns 0
ShownWith (Variables found said) ns = (found ≡ slice_index ns 0) × (said ≡ slice_index ns 1)
ShownWith (Clauses found said) ns = (found ≡ slice_index ns 0) × (said ≡ slice_index ns 1)
ShownWith (Other n) ns = Unit {0}
