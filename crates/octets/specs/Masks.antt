-- Sets of small numbers as masks: bit n stands for engine n, bit i for the i-th tag. Bit 0 is the lowest.
-- Source: docs/REFERENCE.md, 'Layouts'.
use Rattle.std.specs.Prelude.{ℕ, zero, suc, ◌+◌, ◌*◌, ◌/◌, ◌%◌, Bool, eqb}

-- whether bit n of a mask is set
unfoldable pub bit : ℕ → ℕ → Bool
bit mask zero = eqb (mask % 2) 1
bit mask (suc n) = bit (mask / 2) n

-- the mask with bit n set
unfoldable pub with_bit : ℕ → ℕ → ℕ
with_bit mask zero = mask / 2 * 2 + 1
with_bit mask (suc n) = with_bit (mask / 2) n * 2 + mask % 2

-- the mask with bit n clear
unfoldable pub without_bit : ℕ → ℕ → ℕ
without_bit mask zero = mask / 2 * 2
without_bit mask (suc n) = without_bit (mask / 2) n * 2 + mask % 2

-- how many of the n lowest bits are set
unfoldable pub bit_count : ℕ → ℕ → ℕ
bit_count zero mask = 0
bit_count (suc n) mask = mask % 2 + bit_count n (mask / 2)
