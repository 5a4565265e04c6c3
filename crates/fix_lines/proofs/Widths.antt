-- How long lines are: what a buffer must have room for, and that no board is so short that its length could be a refusal's number.
use Rattle.std.proofs.Common.{◌≡◌, refl, ap, Option, Some, None, List, ℕ, suc, ◌≤◌, arith, ℤ, pos, negsuc, length, length-append}
use lib.Ieee.{binary64, to_bits}
use Rattle.text.specs.Numbers.{signed_decimal, hex}
use Rattle.text.specs.Heights.{metres}
use Rattle.text.proofs.Readback.{digits-width, hex-width}
use Rattle.record.specs.Fields.{time, latitude, longitude, height, weight}
use Rattle.octets.specs.Ascii.{ascii}
use Rattle.fix_lines.specs.Lines.{header, where_when, metres_text, height_text, fix_text, fix_line, chi_square_text, refused_line}
use Rattle.arithmetic.specs.declared.standing.ChiSquare.{ChiSquare}
use Rattle.arithmetic.specs.declared.standing.ChiSquare.TheVariants.{Measured, Unmeasured}
use Rattle.fix_lines.specs.Claims.{NoneExactlyWhen}
use Rattle.fix_lines.specs.Widths.{role_width, header_width, line_width, refused_width}

signed-width : (v : ℤ) → length (signed_decimal v) ≤ 11
unfolding signed_decimal
signed-width (pos n) = let w = digits-width 9 n in omega arith
signed-width (negsuc n) = let w = digits-width 9 (suc n) in omega arith

pub header-width : (a b c d : ℕ) → (46 ≤ length (header a b c d)) × (length (header a b c d) ≤ header_width)
unfolding header
header-width a b c d =
    let p = digits-width 19 a in
    let q = digits-width 19 b in
    let r = digits-width 19 c in
    let s = digits-width 19 d in
    let i : length (ascii "transmission=") ≡ 13 = unfold ascii in refl in
    let j : length (ascii " ranked=") ≡ 8 = unfold ascii in refl in
    let k : length (ascii " dominated=") ≡ 11 = unfold ascii in refl in
    let l : length (ascii " refused=") ≡ 9 = unfold ascii in refl in
    let m : length (ascii "\n") ≡ 1 = unfold ascii in refl in
    simp length-append (omega arith, omega arith)

where-width : (r : List ℕ) → length (where_when r) ≤ 58
unfolding where_when
where-width r =
    let p = digits-width 19 (time r) in
    let q = signed-width (latitude r) in
    let s = signed-width (longitude r) in
    let i : length (ascii " time=") ≡ 6 = unfold ascii in refl in
    let j : length (ascii " lat=") ≡ 5 = unfold ascii in refl in
    let k : length (ascii " lon=") ≡ 5 = unfold ascii in refl in
    simp length-append (omega arith)

metres-text-width : (h : Option ℤ) → length (metres_text h) ≤ 11
unfolding metres_text
metres-text-width None = let j : length (ascii "none") ≡ 4 = unfold ascii in refl in omega arith
metres-text-width (Some h) = signed-width (metres h)

height-width : (r : List ℕ) → length (height_text r) ≤ 19
unfolding height_text
height-width r =
    let q = metres-text-width (height r) in
    let i : length (ascii " height=") ≡ 8 = unfold ascii in refl in
    simp length-append (omega arith)

fix-width : (role r : List ℕ) (s : ℕ) → length role ≤ role_width → length (fix_text role r s) ≤ 136
unfolding fix_text
fix-width role r s h =
    let p = where-width r in
    let q = height-width r in
    let w = digits-width 19 (weight r) in
    let x = hex-width 8 s in
    let i : length (ascii "role=") ≡ 5 = unfold ascii in refl in
    let j : length (ascii " weight=") ≡ 8 = unfold ascii in refl in
    let k : length (ascii " signers=") ≡ 9 = unfold ascii in refl in
    simp length-append (omega arith)

pub line-width : (role r : List ℕ) (s : ℕ) → length role ≤ role_width → length (fix_line role r s) ≤ line_width
unfolding fix_line
line-width role r s h =
    let p = fix-width role r s h in
    let m : length (ascii "\n") ≡ 1 = unfold ascii in refl in
    simp length-append (omega arith)

-- 16 digits or `none`
pub chi-square-width : (c : ChiSquare) → length (chi_square_text c) ≤ 16
unfolding chi_square_text ascii
chi-square-width (Measured x) = let w = hex-width 16 (to_bits binary64 x) in omega arith
chi-square-width Unmeasured = omega arith

-- digits are sixteen, and `none` has four letters
pub none-exactly-when : NoneExactlyWhen
none-exactly-when chi2 = (only chi2, λ e. unfold chi_square_text in ap chi_square_text e)
  where
    only : (c : ChiSquare) → chi_square_text c ≡ ascii "none" → c ≡ Unmeasured
    only (Measured x) e =
        let h : length (hex 16 (to_bits binary64 x)) ≡ length (ascii "none") = unfold chi_square_text in ap length e in
        let w = hex-width 16 (to_bits binary64 x) in
        let n : length (ascii "none") ≡ 4 = unfold ascii in refl in
        absurd (omega arith)
    only Unmeasured e = refl

pub refused-width : (r : List ℕ) (s : ℕ) (c : ChiSquare) → length (refused_line r s c) ≤ refused_width
unfolding refused_line
refused-width r s c =
    let p = fix-width (ascii "refused") r s (unfold ascii in omega arith) in
    let x = chi-square-width c in
    let i : length (ascii " chi2=") ≡ 6 = unfold ascii in refl in
    let m : length (ascii "\n") ≡ 1 = unfold ascii in refl in
    simp length-append (omega arith)
