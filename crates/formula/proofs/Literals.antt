-- The literal of a variable and a sign by its last bit: what the code's shift and mask come to.
use Rattle.std.proofs.Common.{◌≡◌, ℕ, ◌+◌, ◌*◌, ◌<◌, ◌%◌, ap, ◌∙◌, arith}
use lib.Bits.{bit_or}
use Rattle.std.proofs.lemmas.Nat.{or_shifted}

-- twice a number has no last bit
pub with_last : (v b : ℕ) → b < 2 → bit_or (v * 2 % 18446744073709551616) b ≡ (2 * v + b) % 18446744073709551616
with_last v b h = ap (λ x. bit_or x b) half ∙ (or_shifted (v % 9223372036854775808) 1 b h ∙ omega arith)
  where
    half : v * 2 % 18446744073709551616 ≡ v % 9223372036854775808 * 2
    half = omega arith
