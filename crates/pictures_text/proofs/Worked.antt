-- Three lines, by computation.
use Rattle.std.proofs.Common.{refl}
use mathlib.Core.List.{flat_map}
use lib.Count.{count_leading_zeros}
use lib.Ieee.{of_bits, to_bits, round, le, lt, eq, of_int, div, mul, add, sub, neg, is_nan}
use Rattle.octets.specs.Ascii.{ascii}
use Rattle.octets.specs.Words.{word_bytes, word}
use Rattle.octets.specs.Order.{same, is_before}
use Rattle.octets.specs.Masks.{bit, bit_count}
use Rattle.text.specs.Numbers.{digits}
use Rattle.record.specs.Fields.{tags_from}
use Rattle.record.specs.Relations.{subset, all_in, member}
use Rattle.record.specs.Encoded.{bytes_of}
use Rattle.floats.specs.Root.{isqrt, digits_of, root_of, root_finite, root_bits, root}
use Rattle.geometry.specs.Numbers.{from_decimal}
use Rattle.geometry.specs.Angles.{degree, radians_of, factorial, coefficient, sine_series, cosine_series, sincos_of}
use Rattle.geometry.specs.Geodesy.{flattening, eccentricity2, to_ecef, enu_basis, sub_of, dot_of}
use Rattle.geometry.specs.Linalg.{minus_each, rows_below, columns, cholesky_of, forwards, forward, backwards, backward, solve_of, sum_to}
use Rattle.arithmetic.specs.Agree.{limit_of, geodetic_of, matrix_of, sum_under, finitely, length_under, chi_square_of, difference_of, agreement_under, agreement_of, agrees_of, chi_square_in}
use Rattle.lists.specs.Lists.{insert, sort, foremost}
use Rattle.lists.specs.Ordered.{count_from}
use Rattle.decision_items.specs.Items.{disagrees_at, within_at, subset_at, agreement_at, ahead_at, ahead_by_standing, ahead_by_weight}
use Rattle.decision_items.specs.Claimed.{claim_of}
use Rattle.decision_rule.specs.Standing.{supersedes, is_superseded, is_contested, is_refused, is_covered, refusal_of, decide}
use Rattle.pictures_text.specs.Items.{tags_of, item_of}
use Rattle.pictures_text.specs.Lines.{numbers, line_of}
use Rattle.pictures_text.specs.Worked.{LinesWorked}

pub lines-worked : LinesWorked
unfolding bit line_of numbers item_of tags_of bytes_of ascii digits insert sort foremost count_from flat_map decide is_superseded is_contested is_refused is_covered refusal_of supersedes disagrees_at within_at subset_at agreement_at ahead_at ahead_by_standing ahead_by_weight subset all_in member same is_before bit_count tags_from claim_of word_bytes word limit_of geodetic_of matrix_of sum_under finitely length_under chi_square_of difference_of agreement_under agreement_of agrees_of chi_square_in degree radians_of factorial coefficient sine_series cosine_series sincos_of flattening eccentricity2 to_ecef enu_basis sub_of dot_of minus_each rows_below columns cholesky_of forwards forward backwards backward solve_of sum_to from_decimal isqrt digits_of root_of root_finite root_bits root count_leading_zeros of_bits to_bits round le lt eq of_int div mul add sub neg is_nan
lines-worked = record { equal_tags = refl; nested_unmeasured = refl; nested_agreeing = refl }
