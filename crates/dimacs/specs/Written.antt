-- A text written into a row of bytes from a place on: the place behind it, and what the row holds then.
-- Definitions only, for the parts that a piece of a file is written in.
use Rattle.std.specs.Prelude.{◌≡◌, ℕ, ◌+◌, List, length}
use Rattle.std.proofs.lemmas.List.Edits.{sets}

pub record Written (text out : List ℕ) (start end : ℕ) (out₁ : List ℕ) : Type 0 where
  pub behind : end ≡ start + length text
  pub row : out₁ ≡ sets out start text
