-- What a track does with S, M and L, call by call. Each call's step is computed once, with the identities as numbers.
use Prim.Native.Nat.{ℕ}
use mathlib.Core.Path.{◌≡◌, refl}
use mathlib.Core.List.{List, [], ◌∷◌, ◌++◌, flat_map}
use lib.Count.{count_leading_zeros}
use lib.Ieee.{of_bits, to_bits, round, le, lt, eq, of_int, div, mul, add, sub, neg, is_nan}
use Rattle.octets.specs.Ascii.{ascii}
use Rattle.octets.specs.Words.{word_bytes, word}
use Rattle.octets.specs.Order.{same, is_before}
use Rattle.octets.specs.Masks.{bit_count}
use Rattle.arithmetic.specs.Bits.{stored_bits}
use Rattle.lists.specs.Lists.{insert, sort, foremost}
use Rattle.hashing.specs.Blake2s as B
use Rattle.record.specs.Fields.{tags_from}
use Rattle.record.specs.Relations.{subset, all_in, any_in, member, shares_tag, tied}
use Rattle.floats.specs.Root.{isqrt, digits_of, root_of, root_finite, root_bits, root}
use Rattle.geometry.specs.Numbers.{from_decimal}
use Rattle.geometry.specs.Angles.{degree, radians_of, factorial, coefficient, sine_series, cosine_series, sincos_of}
use Rattle.geometry.specs.Geodesy.{flattening, eccentricity2, to_ecef, enu_basis, sub_of, dot_of}
use Rattle.geometry.specs.Linalg.{minus_each, rows_below, columns, cholesky_of, forwards, forward, backwards, backward, solve_of, sum_to}
use Rattle.arithmetic.specs.Agree.{limit_of, geodetic_of, matrix_of, sum_under, finitely, length_under, chi_square_of, difference_of, agreement_under, agreement_of, agrees_of, chi_square_in}
use Rattle.decision_items.specs.Claimed.{claim_of}
use Rattle.models.specs.Identity.{cited_domain, cited_inputs, set_hash, identity_from, identity_of, inputs_in_order}
use Rattle.decision.specs.Positions.{S, M, L}
use Rattle.fixes.specs.Fix.{Fix}
use Rattle.fixes.specs.Shown.{shown}
use Rattle.track_transmission.specs.Held.{HeldTransmission}
use Rattle.track_normalize.specs.Normal.{gather_all, sign_first, normalized}
use Rattle.track_arrange.specs.Arranged.{arranged}
use Rattle.track_merge.specs.declared.Merged.TheVariants.{Changed}
use Rattle.track_merge.specs.Merged.{Step, opened, joined, merged}

-- ---- what is computed with: who unfolds one of these two unfolds what stands on its line

of-hash : Unit {0}
unfolding ascii inputs_in_order cited_inputs set_hash identity_from word_bytes B.rotate_right B.iv B.sigma B.add_word B.turn_word B.half_mix B.mix_words B.mix_columns B.mix_diagonals B.round_by B.rounds B.start_state B.compress_block B.words_of B.pad_block B.first_state B.chain_blocks B.hash_words B.bytes_of_words B.blake2s256 word
of-hash = tt

of-step : Unit {0}
unfolding opened joined merged gather_all sign_first normalized arranged shown insert sort foremost flat_map tied shares_tag any_in subset all_in member same is_before bit_count tags_from claim_of word_bytes word limit_of geodetic_of matrix_of sum_under finitely length_under chi_square_of difference_of agreement_under agreement_of agrees_of chi_square_in stored_bits degree radians_of factorial coefficient sine_series cosine_series sincos_of flattening eccentricity2 to_ecef enu_basis sub_of dot_of minus_each rows_below columns cholesky_of forwards forward backwards backward solve_of sum_to from_decimal isqrt digits_of root_of root_finite root_bits root count_leading_zeros of_bits to_bits round le lt eq of_int div mul add sub neg is_nan
of-step = tt

-- ---- the three fixes

abbrev pub id_s : List ℕ
id_s = word_bytes 32 0x6e07_42b7_5863_b69a_2f41_bac0_84d3_3787_9fcc_cb36_ae4d_89e0_8119_fcc3_8cf9_5f3c

abbrev pub id_m : List ℕ
id_m = word_bytes 32 0x01b8_ea84_733c_947e_1bfa_647d_c4ea_a0ec_5685_7af7_493d_6214_0d89_fc12_0406_6afb

abbrev pub id_l : List ℕ
id_l = word_bytes 32 0x625c_d304_7b76_9e93_cedf_be50_cc97_7faf_1f4c_51fe_720f_4ee1_53a0_7f1c_65e6_c603

-- the model inputs of a record that cites no model
abbrev pub no_inputs : List ℕ
no_inputs = word_bytes 32 0x8888_36e7_7469_6b37_4173_b1d5_bbd6_1439_3e40_2e97_d4e2_a6b5_262a_e2f3_c3d0_2c33

pub is-id_s : identity_of [] S ≡ id_s
unfolding of-hash
is-id_s = refl

pub is-id_m : identity_of [] M ≡ id_m
unfolding of-hash
is-id_m = refl

pub is-id_l : identity_of [] L ≡ id_l
unfolding of-hash
is-id_l = refl

pub none-cited : B.blake2s256 (cited_domain ++ (0 ∷ [])) ≡ no_inputs
unfolding of-hash
none-cited = refl

-- a fix of engine 1
abbrev pub fix_with : List ℕ → List ℕ → Fix
fix_with identity r = record { identity = identity; record_bytes = r; inputs = no_inputs; signers = 2 }

abbrev pub fix_s : Fix
fix_s = fix_with id_s S

abbrev pub fix_m : Fix
fix_m = fix_with id_m M

abbrev pub fix_l : Fix
fix_l = fix_with id_l L

-- ---- the steps

-- a fix alone
abbrev pub alone : Fix → HeldTransmission
alone f = record { fixes = f ∷ []; refused = [] }

-- a fix that stands, and L, refused against S
abbrev pub refusing : Fix → HeldTransmission
refusing f = record { fixes = f ∷ []; refused = record { fix = fix_l; against = id_s; chi2 = 0x4041_d395_1c37_e7a3 } ∷ [] }

-- the answer Changed, and one transmission that is held then
abbrev pub changed : ℕ → HeldTransmission → Step
changed entered t = record { answer = Changed; entered = entered; left = t ∷ [] }

pub first-s : merged fix_s [] ≡ changed 0 (alone fix_s)
unfolding of-step
first-s = refl

pub then-m : merged fix_m (alone fix_s ∷ []) ≡ changed 0 (alone fix_m)
unfolding of-step
then-m = refl

pub then-l : merged fix_l (alone fix_m ∷ []) ≡ changed 0 (alone fix_l)
unfolding of-step
then-l = refl

pub first-l : merged fix_l [] ≡ changed 0 (alone fix_l)
unfolding of-step
first-l = refl

pub then-s : merged fix_s (alone fix_l ∷ []) ≡ changed 1 (refusing fix_s)
unfolding of-step
then-s = refl

pub last-m : merged fix_m (refusing fix_s ∷ []) ≡ changed 0 (refusing fix_m)
unfolding of-step
last-m = refl
