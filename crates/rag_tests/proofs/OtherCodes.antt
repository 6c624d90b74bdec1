-- Codes that differ from numbers in some bits.
use Rattle.std.proofs.Common.{◌≡◌, ℕ, bit_xor, ap, sym, ◌∙◌}
use Rattle.std.specs.Int.Bits.{xor_assoc, xor_zero_r}

-- the number of the code of a number
pub number_again : (n : ℕ) → n ≡ bit_xor (bit_xor n 65535) 65535
number_again n = sym (xor_assoc n 65535 65535 ∙ xor_zero_r n)
