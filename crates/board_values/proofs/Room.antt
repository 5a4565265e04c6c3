-- How many entries there are, and how many bytes they have.
use Rattle.std.proofs.Common.{ℕ, suc, ◌+◌, ◌-◌, ◌*◌, ◌≤◌, ◌≡◌, refl, List, [], ◌∷◌, map, flat_map, arith, length, length-append, length-take}
use lib.ListN.{length-map}
use Rattle.lists.specs.Lists.{sort}
use Rattle.lists.proofs.Lists.{sort-perm}
use Rattle.octets.specs.Words.{word_bytes}
use Rattle.board_fixes.specs.Slots.{max_fixes}
use Rattle.fixes.specs.Fix.{Fix}
use Rattle.fixes.specs.Items.{AllFormed, Apart}
use Rattle.fixes.specs.Shown.{Transmission, shown}
use Rattle.arithmetic.specs.declared.standing.ChiSquare.{ChiSquare}
use Rattle.arithmetic.specs.declared.standing.ChiSquare.TheVariants.{Measured, Unmeasured}
use Rattle.decision_bytes.specs.Answer.{chi_square_bytes}
use Rattle.decision_items.specs.Layout.{hash_size}
use Rattle.board_transmissions.specs.Transmissions.{transmissions_of}
use Rattle.board_transmissions.specs.Links.{total}
use Rattle.board_transmissions.proofs.Counting.{total-drop, total-perm, total-map, total-same, parted}
use Rattle.board_picture.specs.Picture.{older_than, max_shown}
use Rattle.board_picture.proofs.Counting.{shown-all}
use Rattle.board_values.specs.Entries.{Entry, entries_of, entries_from}
use Rattle.board_values.specs.Written.{entry_bytes, chi_square_of, fixes_size}
use Rattle.board_values.specs.Drawn.{latest_over, fixes_over}

-- ---- how many

abbrev pub entries_in : Transmission → ℕ
entries_in t = length t.ranked + (length t.dominated + length t.refused)

pub of-length : (ps : List (List ℕ)) (number before : ℕ) (t : Transmission) → length (entries_of ps number before t) ≡ entries_in t
of-length ps number before t = simp (length-append, length-map) refl

pub from-length : (ps : List (List ℕ)) (number before : ℕ) (ts : List Transmission) → length (entries_from ps number before ts) ≡ total entries_in ts
unfolding entries_from
from-length ps number before [] = refl
from-length ps number before (t ∷ ts) =
    let a = length-append (entries_of ps number before t) (entries_from ps (suc number) (before + entries_in t) ts) in
    let o = of-length ps number before t in
    let r = from-length ps (suc number) (before + entries_in t) ts in
    omega (arith, a, o, r)

pub few-shown : (fs : List Fix) → AllFormed fs → Apart fs → length fs ≤ max_fixes → total entries_in (latest_over fs) ≤ max_fixes
few-shown fs w a few =
    let s = sort older_than (map shown (transmissions_of fs)) in
    let d = total-drop entries_in (length s - max_shown) s in
    let p = total-perm entries_in (sort-perm older_than (map shown (transmissions_of fs))) in
    let m = total-map entries_in shown (transmissions_of fs) in
    let e = total-same (λ gs. entries_in (shown gs)) (λ (c : List Fix). length c) (transmissions_of fs) (λ gs _. shown-all gs) in
    let q = parted fs w a few in
    omega (arith, d, p, m, e, q)

-- ---- their bytes

pub chi-square-length : (x : ChiSquare) → length (chi_square_bytes x) ≡ 9
unfolding chi_square_bytes word_bytes
chi-square-length (Measured x) = refl
chi-square-length Unmeasured = refl

entry-length : (e : Entry) → length (entry_bytes e) ≤ 49
unfolding entry_bytes word_bytes
entry-length e =
    let x = chi-square-length (chi_square_of e.standing) in
    let t = length-take hash_size e.identity in
    simp length-append (omega (arith, x, t))

bytes-length : (es : List Entry) → length (flat_map entry_bytes es) ≤ length es * 49
bytes-length [] = omega arith
bytes-length (e ∷ es) =
    let a = length-append (entry_bytes e) (flat_map entry_bytes es) in
    let l = entry-length e in
    let r = bytes-length es in
    omega (arith, a, l, r)

pub over-fits : (ps : List (List ℕ)) (fs : List Fix) → AllFormed fs → Apart fs → length fs ≤ max_fixes → length (fixes_over ps fs) ≤ fixes_size
over-fits ps fs w a few =
    let b = bytes-length (entries_from ps 1 0 (latest_over fs)) in
    let n = from-length ps 1 0 (latest_over fs) in
    let k = few-shown fs w a few in
    omega (arith, b, n, k)
