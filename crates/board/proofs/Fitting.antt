-- Every board fits what a caller lends, and its length is 0 or greater than every refusal's number.
use Rattle.std.proofs.Common.{ℕ, ◌+◌, ◌-◌, ◌≤◌, ◌<◌, ◌≡◌, refl, ap, true, ◌⊎◌, inl, inr, ⊎_elim, List, [], ◌∷◌, map, arith, le_trans, length, length-drop}
use Rattle.lists.specs.Lists.{sort}
use Rattle.lists.proofs.Lists.{sort-perm}
use Rattle.board_fixes.specs.Slots.{max_fixes}
use Rattle.fixes.specs.Fix.{Fix}
use Rattle.fixes.specs.Items.{AllFormed, Apart}
use Rattle.fixes.specs.Shown.{Transmission, shown}
use Rattle.board_transmissions.specs.Transmissions.{transmissions_of}
use Rattle.board_picture.specs.Picture.{older_than, picture, latest_of, max_shown}
use Rattle.board_transmissions.specs.Links.{total}
use Rattle.board_transmissions.proofs.Counting.{total-drop, total-perm, total-map, total-same, parted}
use Rattle.board_picture.proofs.Counting.{shown-all}
use Rattle.fix_lines.specs.Text.{board_text, board_size}
use Rattle.fix_lines.proofs.Lengths.{lines_in, all_lines, texts-width, board-long}
use Rattle.octets.specs.Bytes.{Bytes}
use Rattle.board_fixes.specs.Fixes.{fixes_of}
use Rattle.register.specs.Register.{Register}
use Rattle.register.specs.Memory.{well_formed, decode}
use Rattle.register.proofs.Opened.{opened}
use Rattle.register.proofs.Valid.{Valid}
use Rattle.register.proofs.Kept.{decode-valid}
use Rattle.desks.specs.declared.Desk.{Desk}
use Rattle.desks.specs.declared.Desk.TheVariants.{Crew, Analyst, Manager}
use Rattle.fix_lines.proofs.Crew.{crew-shorter}
use Rattle.board.specs.Board.{board_of, crew_board_of, board_seen}
use Rattle.board.specs.Full.{board_in}
use Rattle.errors.specs.Errors.{greatest_refusal}
use Rattle.board.specs.Latest.{latest_over}
use Rattle.board.proofs.Standing.{standing}
use Rattle.board.proofs.Shortest.{shortest}

-- ---- lines

all-total : (ts : List Transmission) → all_lines ts ≡ total lines_in ts
all-total [] = refl
all-total (t ∷ ts) = ap (λ (k : ℕ). lines_in t + k) (all-total ts)

pub board-fits : (fs : List Fix) → AllFormed fs → Apart fs → length fs ≤ max_fixes → length (board_text (latest_over fs)) ≤ board_size
board-fits fs w a few =
    let s = sort older_than (map shown (transmissions_of fs)) in
    let x = texts-width 1 (latest_of s) in
    let y = all-total (latest_of s) in
    let l = length-drop (length s - max_shown) s in
    let d = total-drop lines_in (length s - max_shown) s in
    let p = total-perm lines_in (sort-perm older_than (map shown (transmissions_of fs))) in
    let m = total-map lines_in shown (transmissions_of fs) in
    let e = total-same (λ gs. lines_in (shown gs)) (λ (c : List Fix). length c) (transmissions_of fs) (λ gs _. shown-all gs) in
    let q = parted fs w a few in
    omega (arith, x, y, l, d, p, m, e, q)

-- ---- of a register

module _ (s : Register) (v : Valid s) where
  pub fits : length (board_in s) ≤ board_size
  unfolding board_of picture
  fits = let k = standing s v in board-fits (fixes_of s.summaries s.records) k.formed k.apart k.few

  pub long : (length (board_in s) ≡ 0) ⊎ (46 ≤ length (board_in s))
  unfolding board_of
  long = board-long (latest_of (picture s.summaries s.records))

  -- and so does what each desk sees
  pub fits-for : (desk : Desk) → length (board_seen desk s) ≤ board_size
  unfolding board_of crew_board_of
  fits-for Crew = le_trans (crew-shorter 1 (latest_of (picture s.summaries s.records))) fits
  fits-for Analyst = fits
  fits-for Manager = fits

  -- the length can be no refusal's number
  pub no_refusal : (desk : Desk) → (length (board_seen desk s) ≡ 0) ⊎ (greatest_refusal < length (board_seen desk s))
  no_refusal Crew = ⊎_elim (λ z. inl z) (λ z. inr (omega (arith, z))) (shortest Crew s)
  no_refusal Analyst = ⊎_elim (λ z. inl z) (λ z. inr (omega (arith, z))) long
  no_refusal Manager = ⊎_elim (λ z. inl z) (λ z. inr (omega (arith, z))) long

-- in memory
pub fits-board : (desk : Desk) (m : List ℕ) → Bytes m → well_formed m ≡ true → length (board_seen desk (decode m)) ≤ board_size
fits-board desk m b w = fits-for (decode m) (decode-valid m (opened m w) b) desk
