-- A board has no bytes exactly where no record counts.
use Rattle.std.proofs.Common.{ℕ, ◌-◌, ◌<◌, ◌≡◌, refl, Bool, true, false, not, List, [], ◌∷◌, map, arith, eqb, length, length-drop, ne_eqb}
use mathlib.Core.List.Memᴰ
use mathlib.Core.List.{Memᴰ}
use Rattle.std.specs.List.{list_any}
use Rattle.lists.specs.Lists.{sort}
use Rattle.lists.proofs.Bools.{by}
use Rattle.lists.proofs.Lists.{filter_none, filter-some, sort-perm}
use Rattle.lists.proofs.Orders.{perm-mem}
use Rattle.octets.specs.Ascii.{ascii}
use Rattle.octets.specs.Order.{is_before}
use Rattle.models.specs.Models.{counts}
use Rattle.fixes.specs.Fix.{Fix}
use Rattle.fixes.specs.Shown.{Transmission, shown}
use Rattle.board_fixes.specs.Fixes.{record_in, fix_of_place, unite, enter, enter_all, fixes_of}
use Rattle.board_transmissions.specs.Transmissions.{transmissions_of}
use Rattle.board_transmissions.proofs.Partition.{partition}
use Rattle.board_transmissions.proofs.Fitness.{self-linked}
use Rattle.board_picture.specs.Picture.{older_than, picture, max_shown, latest_of}
use Rattle.fix_lines.specs.Lines.{header}
use Rattle.fix_lines.specs.Text.{text_of, text_from}
use Rattle.register.specs.Register.{Register}
use Rattle.register.specs.Memory.{decode}
use Rattle.register.proofs.Opened.{opened}
use Rattle.register.proofs.Valid.{Valid}
use Rattle.register.proofs.Kept.{decode-valid}
use Rattle.desks.specs.declared.Desk.{Desk}
use Rattle.desks.specs.declared.Desk.TheVariants.{Crew, Analyst, Manager}
use Rattle.fix_lines.specs.Crew.{crew_header, crew_text_of, crew_text_from}
use Rattle.board.specs.Board.{board_of, crew_board_of, board_for, board_seen}
use Rattle.board.specs.Latest.{text_for}
use Rattle.board.specs.Nothing.{any_counts, NoBytesExactlyWhen}
use Rattle.board.proofs.Standing.{standing}

-- ---- nothing counts

module _ (ss ps : List (List ℕ)) where
  abbrev counted : List ℕ → Bool
  counted p = counts ss (record_in p)

  no-fixes : list_any counted ps ≡ false → fixes_of ss ps ≡ []
  unfolding fixes_of enter_all
  no-fixes h = rw (filter_none counted ps h) refl

  pub no_bytes : (desk : Desk) → list_any counted ps ≡ false → board_for desk ss ps ≡ []
  unfolding board_of crew_board_of picture transmissions_of sort text_from crew_text_from
  no_bytes Crew h = rw (no-fixes h) refl
  no_bytes Analyst h = rw (no-fixes h) refl
  no_bytes Manager h = rw (no-fixes h) refl

-- ---- something counts

-- a list has a member
abbrev Some : {A : Type 0} → List A → Type 0
Some {A = A} l = (x : A) × Memᴰ x l

some-long : {A : Type 0} (l : List A) → Some l → 0 < length l
some-long [] s = absurd (Memᴰ.not-nil s.1)
some-long (x ∷ l) s = omega arith

enter-some : (f : Fix) (gs : List Fix) → Some (enter f gs)
unfolding enter
enter-some f [] = (f, Memᴰ.head refl)
enter-some f (g ∷ gs) =
    by (is_before g.identity f.identity) (λ h. rw h (g, Memᴰ.head refl))
    (λ h. by (is_before f.identity g.identity) (λ k. rw (h, k) (f, Memᴰ.head refl)) (λ k. rw (h, k) (unite g f, Memᴰ.head refl)))

enter-all-some : (fs more : List Fix) → Some fs → Some (enter_all fs more)
unfolding enter_all
enter-all-some fs [] s = s
enter-all-some fs (f ∷ more) s = enter-all-some (enter f fs) more (enter-some f fs)

fixes-some : (ss ps : List (List ℕ)) → list_any (counted ss ps) ps ≡ true → Some (fixes_of ss ps)
unfolding fixes_of enter_all
fixes-some ss ps h =
    let r = filter-some (counted ss ps) ps h in
    rw r.2 (enter-all-some (enter (fix_of_place ss r.0) []) (map (fix_of_place ss) r.1) (enter-some (fix_of_place ss r.0) []))

text-some : (desk : Desk) (n : ℕ) (ts : List Transmission) → 0 < length ts → 0 < length (text_for desk n ts)
unfolding text_from text_of header crew_text_from crew_text_of crew_header ascii
text-some desk n [] h = absurd (omega arith)
text-some Crew n (t ∷ ts) h = omega arith
text-some Analyst n (t ∷ ts) h = omega arith
text-some Manager n (t ∷ ts) h = omega arith

latest-some : (ts : List Transmission) → 0 < length ts → 0 < length (latest_of ts)
latest-some ts h = omega (arith, h, length-drop (length ts - max_shown) ts)

module _ (s : Register) (v : Valid s) where
  abbrev fs : List Fix
  fs = fixes_of s.summaries s.records

  picture-some : Some fs → Some (picture s.summaries s.records)
  unfolding picture
  picture-some k =
      let x = standing s v in
      let w = partition fs (λ f m. self-linked f.record_bytes (x.formed f m).form) in
      let c = w.each k.0 k.1 in
      (shown c.0, perm-mem (sort-perm older_than (map shown (transmissions_of fs))) (Memᴰ.map shown c.1))

  some_text : (desk : Desk) → any_counts s ≡ true → 0 < length (text_for desk 1 (latest_of (picture s.summaries s.records)))
  some_text desk h =
      let p = picture s.summaries s.records in
      text-some desk 1 (latest_of p) (latest-some p (some-long p (picture-some (fixes-some s.summaries s.records h))))

  some_bytes : (desk : Desk) → any_counts s ≡ true → 0 < length (board_seen desk s)
  unfolding board_of crew_board_of
  some_bytes Crew h = some_text Crew h
  some_bytes Analyst h = some_text Analyst h
  some_bytes Manager h = some_text Manager h

  exactly : (desk : Desk) → eqb (length (board_seen desk s)) 0 ≡ not (any_counts s)
  exactly desk =
      by (any_counts s)
      (λ h. rw h (ne_eqb (length (board_seen desk s)) 0 (λ z. omega (arith, z, some_bytes desk h))))
      (λ h. rw (no_bytes s.summaries s.records desk h, h) refl)

pub no-bytes-exactly-when : NoBytesExactlyWhen
no-bytes-exactly-when desk m b w = exactly (decode m) (decode-valid m (opened m w) b) desk
