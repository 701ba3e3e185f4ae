-- Arithmetic in GF(2^8) as in FIPS 197, and the S-box. A byte is a number below 256: its bit i is the
-- coefficient of x^i.
use Rattle.std.specs.Prelude.{ℕ, zero, suc, ◌+◌, ◌*◌, ◌%◌, ◌^◌, cond, eqb, bit_xor}
use Rattle.std.specs.Int.{bit_at}

-- the product of two polynomials over GF(2); the second has degree below n
abbrev pub polynomial_product : ℕ → ℕ → ℕ → ℕ
polynomial_product zero a b = 0
polynomial_product (suc n) a b = bit_xor (bit_at b n * (a * 2 ^ n)) (polynomial_product n a b)

-- the remainder of a polynomial, of degree below n + 8, modulo x^8 + x^4 + x^3 + x + 1
abbrev pub polynomial_remainder : ℕ → ℕ → ℕ
polynomial_remainder zero p = p
polynomial_remainder (suc n) p = polynomial_remainder n (bit_xor p (bit_at p (n + 8) * (0x11b * 2 ^ n)))

-- the product of two bytes in the field
unfoldable pub field_product : ℕ → ℕ → ℕ
field_product a b = polynomial_remainder 7 (polynomial_product 8 a b)

-- the greatest b below n with a b = 1 in the field, or 0 if there is none
abbrev pub inverse_below : ℕ → ℕ → ℕ
inverse_below zero a = 0
inverse_below (suc n) a = cond (eqb (field_product a n) 1) n (inverse_below n a)

-- the multiplicative inverse in the field; 0 goes to 0
abbrev pub inverse : ℕ → ℕ
inverse a = inverse_below 256 a

-- bit i of the affine map of a byte
abbrev pub affine_bit : ℕ → ℕ → ℕ
affine_bit b i = (bit_at b i + bit_at b ((i + 4) % 8) + bit_at b ((i + 5) % 8)
    + bit_at b ((i + 6) % 8) + bit_at b ((i + 7) % 8) + bit_at 0x63 i) % 2

-- the number whose n low bits are bit 0, …, bit (n - 1)
abbrev pub from_bits : (ℕ → ℕ) → ℕ → ℕ
from_bits bit zero = 0
from_bits bit (suc n) = from_bits bit n + bit n * 2 ^ n

-- the S-box: the inverse, then the affine map
unfoldable pub s_box : ℕ → ℕ
s_box a = from_bits (affine_bit (inverse a)) 8

-- x^n in the field
abbrev pub power_of_x : ℕ → ℕ
power_of_x zero = 1
power_of_x (suc n) = field_product 2 (power_of_x n)
