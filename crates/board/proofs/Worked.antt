-- A whole board and a whole preview, by computation.
use Rattle.std.proofs.Common.{refl}
use mathlib.Core.List.{flat_map}
use lib.Count.{count_leading_zeros}
use lib.Ieee.{of_bits, to_bits, round, le, lt, eq, of_int, div, mul, add, sub, neg, is_nan}
use Rattle.octets.specs.Ascii.{ascii}
use Rattle.octets.specs.Words.{word_bytes, word}
use Rattle.octets.specs.Order.{same, is_before}
use Rattle.octets.specs.Masks.{bit_count, without_bit}
use Rattle.tables.specs.Places.{keep_places}
use Rattle.text.specs.Numbers.{digits, signed_decimal, hex}
use Rattle.hashing.specs.Blake2s as B
use Rattle.record.specs.Fields.{tags_from}
use Rattle.record.specs.Relations.{subset, all_in, any_in, member, shares_tag, tied}
use Rattle.floats.specs.Root.{isqrt, digits_of, root_of, root_finite, root_bits, root}
use Rattle.geometry.specs.Numbers.{from_decimal}
use Rattle.geometry.specs.Angles.{degree, radians_of, factorial, coefficient, sine_series, cosine_series, sincos_of}
use Rattle.geometry.specs.Geodesy.{flattening, eccentricity2, to_ecef, enu_basis, sub_of, dot_of}
use Rattle.geometry.specs.Linalg.{minus_each, rows_below, columns, cholesky_of, forwards, forward, backwards, backward, solve_of, sum_to}
use Rattle.arithmetic.specs.Agree.{limit_of, geodetic_of, matrix_of, sum_under, finitely, length_under, chi_square_of, difference_of, agreement_under, agreement_of, agrees_of, chi_square_in}
use Rattle.lists.specs.Lists.{insert, sort, foremost}
use Rattle.decision_items.specs.Claimed.{claim_of}
use Rattle.models.specs.Models.{all_agreed, state_from, summaries_for}
use Rattle.models.specs.Identity.{cited_inputs, set_hash, identity_from, inputs_in_order}
use Rattle.board_fixes.specs.Fixes.{enter, enter_all, fixes_of}
use Rattle.board_transmissions.specs.Transmissions.{records_link, reach, transmissions_of}
use Rattle.fixes.specs.Shown.{shown}
use Rattle.board_picture.specs.Picture.{picture}
use Rattle.fix_lines.specs.Lines.{header, fix_line, chi_square_text, refused_line, fix_text, where_when, metres_text, height_text}
use Rattle.fix_lines.specs.Text.{text_of, text_from}
use Rattle.fix_lines.specs.Crew.{crew_header, crew_text_of, crew_text_from}
use Rattle.board.specs.Board.{board_of, crew_board_of}
use Rattle.board.specs.Worked.{BoardsWorked}

-- what a board is computed from
unfoldable pub of-boards : Unit {0}
unfolding board_of crew_board_of shown text_from text_of crew_text_from crew_text_of crew_header picture transmissions_of reach fixes_of enter enter_all insert sort foremost flat_map records_link tied shares_tag any_in ascii header fix_line chi_square_text refused_line fix_text where_when height_text metres_text digits signed_decimal hex all_agreed state_from summaries_for cited_inputs set_hash identity_from inputs_in_order B.rotate_right B.iv B.sigma B.add_word B.turn_word B.half_mix B.mix_words B.mix_columns B.mix_diagonals B.round_by B.rounds B.start_state B.compress_block B.words_of B.pad_block B.first_state B.chain_blocks B.hash_words B.bytes_of_words B.blake2s256 subset all_in member same is_before bit_count tags_from claim_of word_bytes word limit_of geodetic_of matrix_of sum_under finitely length_under chi_square_of difference_of agreement_under agreement_of agrees_of chi_square_in degree radians_of factorial coefficient sine_series cosine_series sincos_of flattening eccentricity2 to_ecef enu_basis sub_of dot_of minus_each rows_below columns cholesky_of forwards forward backwards backward solve_of sum_to from_decimal isqrt digits_of root_of root_finite root_bits root count_leading_zeros of_bits to_bits round le lt eq of_int div mul add sub neg is_nan
of-boards = tt

pub boards-worked : BoardsWorked
unfolding of-boards keep_places without_bit
boards-worked = record { board = refl; crew = refl; preview = refl }
