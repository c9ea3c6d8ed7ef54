-- A formula's text in pieces: the header, a literal with its blank, the end of a clause. Definitions only; in this order the
-- pieces are `formula_text`.
use Rattle.std.specs.Prelude.{◌≡◌, ℕ, Bool, true, false, List, [], ◌∷◌, ◌++◌, length, drop}
use Rattle.dimacs.specs.Text.{number_text, literal_text}

unfoldable pub header_text : ℕ → ℕ → List ℕ
header_text vars clauses = (112 ∷ 32 ∷ 99 ∷ 110 ∷ 102 ∷ 32 ∷ []) ++ number_text vars ++ 32 ∷ number_text clauses ++ 10 ∷ []

unfoldable pub literal_piece : ℕ → List ℕ
literal_piece l = literal_text l ++ 32 ∷ []

unfoldable pub end_piece : List ℕ
end_piece = 48 ∷ 10 ∷ []

-- a text written into the front of a row of bytes, if that has the room (128 bytes): how long it is, and what the row holds then
abbrev pub Puts : List ℕ → List ℕ → Bool → ℕ → List ℕ → Type 0
Puts text out true n out₁ = (n ≡ length text) × (out₁ ≡ text ++ drop (length text) out)
Puts text out false n out₁ = (n ≡ 0) × (out₁ ≡ out)
