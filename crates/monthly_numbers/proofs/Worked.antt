-- The numbers of a small register, by computation.
use Rattle.std.proofs.Common.{◌≡◌, ◌∙◌, sym, refl, List, [], ◌∷◌, map}
use mathlib.Core.List.{flat_map}
use lib.Count.{count_leading_zeros}
use lib.Ieee.{of_bits, to_bits, round, le, lt, eq, of_int, div, mul, add, sub, neg, is_nan}
use Rattle.octets.specs.Ascii.{ascii}
use Rattle.octets.specs.Words.{word_bytes, word}
use Rattle.octets.specs.Order.{same, is_before}
use Rattle.octets.specs.Masks.{bit, bit_count}
use Rattle.text.specs.Numbers.{digits}
use Rattle.hashing.specs.Blake2s as B
use Rattle.record.specs.Fields.{tags_from}
use Rattle.record.specs.Relations.{subset, all_in, any_in, member, shares_tag, tied}
use Rattle.floats.specs.Root.{isqrt, digits_of, root_of, root_finite, root_bits, root}
use Rattle.geometry.specs.Numbers.{from_decimal}
use Rattle.geometry.specs.Angles.{degree, radians_of, factorial, coefficient, sine_series, cosine_series, sincos_of}
use Rattle.geometry.specs.Geodesy.{flattening, eccentricity2, to_ecef, enu_basis, sub_of, dot_of}
use Rattle.geometry.specs.Linalg.{minus_each, rows_below, columns, cholesky_of, forwards, forward, backwards, backward, solve_of, sum_to}
use Rattle.arithmetic.specs.Agree.{limit_of, geodetic_of, matrix_of, sum_under, finitely, length_under, chi_square_of, difference_of, agreement_under, agreement_of, agrees_of, chi_square_in}
use Rattle.lists.specs.Lists.{insert, sort, foremost}
use Rattle.lists.specs.Ordered.{count_from}
use Rattle.decision_items.specs.Claimed.{claim_of}
use Rattle.models.specs.Models.{all_agreed, state_from, summaries_for}
use Rattle.models.specs.Identity.{cited_inputs, set_hash, identity_from, inputs_in_order}
use Rattle.board_fixes.specs.Fixes.{enter, enter_all, fixes_of}
use Rattle.board_transmissions.specs.Transmissions.{records_link, reach, transmissions_of}
use Rattle.fixes.specs.Shown.{shown}
use Rattle.board_picture.specs.Picture.{picture}
use Rattle.monthly_numbers.specs.declared.endings.Ended.{Ended}
use Rattle.monthly_numbers.specs.declared.endings.Ending.TheVariants.{Ranked, Dominated, Refused, Other, Uncounted}
use Rattle.monthly_numbers.specs.Endings.{ending}
use Rattle.monthly_numbers.specs.Text.{line, text_of}
use Rattle.monthly_numbers.specs.Kept.{ended_in, numbers_in}
use Rattle.monthly_numbers.specs.Worked.{of_S, of_its_identity, of_a_missing_model, of_L, of_M, held, lines, NumbersWorked}
use Rattle.monthly_numbers.proofs.Lines.{lines-are}

-- what endings are computed from
of-endings : Unit {0}
unfolding ascii ending shown picture transmissions_of reach fixes_of enter enter_all insert sort foremost flat_map records_link tied shares_tag any_in all_agreed state_from summaries_for cited_inputs set_hash identity_from inputs_in_order B.rotate_right B.iv B.sigma B.add_word B.turn_word B.half_mix B.mix_words B.mix_columns B.mix_diagonals B.round_by B.rounds B.start_state B.compress_block B.words_of B.pad_block B.first_state B.chain_blocks B.hash_words B.bytes_of_words B.blake2s256 subset all_in member same is_before bit_count tags_from claim_of word_bytes word limit_of geodetic_of matrix_of sum_under finitely length_under chi_square_of difference_of agreement_under agreement_of agrees_of chi_square_in degree radians_of factorial coefficient sine_series cosine_series sincos_of flattening eccentricity2 to_ecef enu_basis sub_of dot_of minus_each rows_below columns cholesky_of forwards forward backwards backward solve_of sum_to from_decimal isqrt digits_of root_of root_finite root_bits root count_leading_zeros of_bits to_bits round le lt eq of_int div mul add sub neg is_nan
of-endings = tt

ends-S : ending held of_S ≡ Dominated
unfolding of-endings
ends-S = refl

ends-its-identity : ending held of_its_identity ≡ Other
unfolding of-endings
ends-its-identity = refl

ends-missing : ending held of_a_missing_model ≡ Uncounted
unfolding of-endings
ends-missing = refl

ends-L : ending held of_L ≡ Refused
unfolding of-endings
ends-L = refl

ends-M : ending held of_M ≡ Ranked
unfolding of-endings
ends-M = refl

-- the signers of each, with its ending
abbrev told : List Ended
told =
    record { signers = 2; ending = Dominated }
    ∷ record { signers = 12; ending = Other }
    ∷ record { signers = 8; ending = Uncounted }
    ∷ record { signers = 8; ending = Refused }
    ∷ record { signers = 6; ending = Ranked } ∷ []

told-is : told ≡ map (ended_in held) held.records
unfolding word word_bytes
told-is = λ i.
    record { signers = 2; ending = sym ends-S i }
    ∷ record { signers = 12; ending = sym ends-its-identity i }
    ∷ record { signers = 8; ending = sym ends-missing i }
    ∷ record { signers = 8; ending = sym ends-L i }
    ∷ record { signers = 6; ending = sym ends-M i } ∷ []

worked-text : text_of held ≡ lines
unfolding numbers_in line digits ascii flat_map count_from bit
worked-text = sym (lines-are held told told-is) ∙ refl

pub numbers-worked : NumbersWorked
numbers-worked =
    record { ends_S = ends-S; ends_its_identity = ends-its-identity; ends_a_missing_model = ends-missing; ends_L = ends-L; ends_M = ends-M; text = worked-text }
