-- Roots by computation.
use Rattle.std.proofs.Common.{refl}
use lib.Count.{count_leading_zeros}
use lib.Ieee.{of_int, of_bits, to_bits}
use Rattle.floats.specs.Root.{root, root_bits, root_finite, root_of, digits_of, isqrt}
use Rattle.floats.specs.Worked.{RootsWorked}

pub roots-worked : RootsWorked
unfolding root root_bits root_finite root_of digits_of isqrt count_leading_zeros of_int of_bits to_bits
roots-worked =
    record {
      of_4 = refl;
      of_2 = refl;
      of_quarter = refl;
      of_smallest = refl;
      of_largest_subnormal = refl;
      of_largest = refl;
      of_next_above_one = refl;
      of_next_below_one = refl;
      of_minus_zero = refl;
      of_minus_one = refl;
      of_infinity = refl;
      of_nan_pattern = refl;
    }
