-- A board that is not empty has a header and a ranked line.
use Rattle.std.proofs.Common.{ℕ, zero, suc, ◌-◌, ◌≤◌, ◌<◌, ◌≡◌, refl, sym, subst, true, ◌⊎◌, inl, inr, Option, Some, None, ℤ, pos, negsuc, List, [], ◌∷◌, map, arith, length, drop, length-append}
use mathlib.Core.Bool.{false≢true}
use mathlib.Core.List.Permᴰ
use mathlib.Core.List.{Memᴰ, flat_map}
use Rattle.std.specs.List.{filter}
use Rattle.lists.specs.Lists.{sort}
use Rattle.lists.proofs.Lists.{filter-in, sort-perm, map-from}
use Rattle.lists.proofs.Orders.{perm-mem}
use Rattle.octets.specs.Ascii.{ascii}
use Rattle.text.specs.Numbers.{signed_decimal}
use Rattle.text.specs.Heights.{metres}
use Rattle.text.proofs.Readback.{digits-width, hex-width}
use Rattle.record.specs.Fields.{time, latitude, longitude, height, weight}
use Rattle.fixes.specs.Fix.{Fix}
use Rattle.fixes.specs.Shown.{Transmission, shown}
use Rattle.fixes.proofs.Showing.{ranked-some}
use Rattle.board_transmissions.specs.Transmissions.{transmission_of, leads, is_first, transmissions_of}
use Rattle.board_picture.specs.Picture.{older_than, picture, latest_of, max_shown}
use Rattle.fix_lines.specs.Lines.{where_when, metres_text, height_text, fix_text, fix_line}
use Rattle.fix_lines.specs.Text.{ranked_text, text_of, text_from}
use Rattle.fix_lines.proofs.Widths.{header-width}
use Rattle.register.specs.Register.{Register}
use Rattle.register.specs.Memory.{decode}
use Rattle.desks.specs.declared.Desk.{Desk}
use Rattle.desks.specs.declared.Desk.TheVariants.{Crew, Analyst, Manager}
use Rattle.fix_lines.specs.Crew.{crew_header, crew_text_of, crew_text_from}
use Rattle.board.specs.Board.{board_of, crew_board_of, board_seen}
use Rattle.board.specs.Shortest.{least_full, least_of_a_crew, least_length, NoneShorter}

-- ---- a line

signed-some : (v : ℤ) → 1 ≤ length (signed_decimal v)
unfolding signed_decimal
signed-some (pos n) = (digits-width 9 n).0
signed-some (negsuc n) = omega arith

where-long : (r : List ℕ) → 19 ≤ length (where_when r)
unfolding where_when ascii
where-long r =
    let p = digits-width 19 (time r) in
    let q = signed-some (latitude r) in
    let s = signed-some (longitude r) in
    simp length-append (omega arith)

metres-long : (h : Option ℤ) → 1 ≤ length (metres_text h)
unfolding metres_text ascii
metres-long None = omega arith
metres-long (Some h) = signed-some (metres h)

height-long : (r : List ℕ) → 9 ≤ length (height_text r)
unfolding height_text ascii
height-long r = let q = metres-long (height r) in simp length-append (omega arith)

ranked-long : (f : Fix) → 66 ≤ length (ranked_text f)
unfolding fix_line fix_text ascii
ranked-long f =
    let p = where-long f.record_bytes in
    let q = height-long f.record_bytes in
    let w = digits-width 19 (weight f.record_bytes) in
    let x = hex-width 8 f.signers in
    simp length-append (omega arith)

-- ---- a transmission

ranked-lines : (fs : List Fix) → 0 < length fs → 66 ≤ length (flat_map ranked_text fs)
unfolding flat_map
ranked-lines [] h = absurd (omega arith)
ranked-lines (f ∷ fs) h = let p = ranked-long f in rw (length-append (ranked_text f) (flat_map ranked_text fs)) (omega arith)

text-long : (n : ℕ) (t : Transmission) → 0 < length t.ranked → least_full ≤ length (text_of n t)
unfolding text_of
text-long n t h =
    let a = header-width n (length t.ranked) (length t.dominated) (length t.refused) in
    let b = ranked-lines t.ranked h in
    simp length-append (omega (arith, a.0, b))

crew-text-long : (n : ℕ) (t : Transmission) → 0 < length t.ranked → least_of_a_crew ≤ length (crew_text_of n t)
unfolding crew_text_of crew_header ascii
crew-text-long n t h =
    let a = digits-width 19 n in
    let b = ranked-lines t.ranked h in
    simp length-append (omega (arith, a.0, b))

-- a transmission has a fix: the one that leads it
led : (a : Fix) (c : List Fix) → leads a c ≡ true → 0 < length c
led a [] e = absurd (false≢true e)
led a (f ∷ c) e = omega arith

some-fix : (fs c : List Fix) → Memᴰ c (transmissions_of fs) → 0 < length c
unfolding transmissions_of
some-fix fs c m =
    let r = map-from (transmission_of fs) (filter (is_first fs) fs) c m in
    let q = filter-in (is_first fs) fs r.0 r.1 in
    subst (λ (z : List Fix). 0 < length z) (sym r.2) (led r.0 (transmission_of fs r.0) q.1)

-- ---- a board

drop-in : {A : Type 0} (n : ℕ) (x : A) (l : List A) → Memᴰ x (drop n l) → Memᴰ x l
drop-in zero x l m = m
drop-in (suc n) x [] m = m
drop-in (suc n) x (y ∷ l) m = Memᴰ.tail (drop-in n x l m)

-- what is shown of the transmissions of fixes has a ranked fix
pub all-ranked : (fs : List Fix) (t : Transmission) → Memᴰ t (latest_of (sort older_than (map shown (transmissions_of fs)))) → 0 < length t.ranked
all-ranked fs t m =
    let s = sort older_than (map shown (transmissions_of fs)) in
    let k = perm-mem (Permᴰ.symm (sort-perm older_than (map shown (transmissions_of fs)))) (drop-in (length s - max_shown) t s m) in
    let r = map-from shown (transmissions_of fs) t k in
    subst (λ (z : Transmission). 0 < length z.ranked) (sym r.2) (ranked-some r.0 (some-fix fs r.0 r.1))

module _ (ts : List Transmission) (ranked : (t : Transmission) → Memᴰ t ts → 0 < length t.ranked) where
  some-text : (length (text_from 1 ts) ≡ 0) ⊎ (least_full ≤ length (text_from 1 ts))
  unfolding text_from
  some-text = go ts ranked
    where
      go : (us : List Transmission) → ((t : Transmission) → Memᴰ t us → 0 < length t.ranked) → (length (text_from 1 us) ≡ 0) ⊎ (least_full ≤ length (text_from 1 us))
      go [] h = inl refl
      go (t ∷ us) h = let a = text-long 1 t (h t (Memᴰ.head refl)) in inr (rw (length-append (text_of 1 t) (text_from 2 us)) (omega (arith, a)))

  some-crew-text : (length (crew_text_from 1 ts) ≡ 0) ⊎ (least_of_a_crew ≤ length (crew_text_from 1 ts))
  unfolding crew_text_from
  some-crew-text = go ts ranked
    where
      go : (us : List Transmission) → ((t : Transmission) → Memᴰ t us → 0 < length t.ranked) → (length (crew_text_from 1 us) ≡ 0) ⊎ (least_of_a_crew ≤ length (crew_text_from 1 us))
      go [] h = inl refl
      go (t ∷ us) h = let a = crew-text-long 1 t (h t (Memᴰ.head refl)) in inr (rw (length-append (crew_text_of 1 t) (crew_text_from 2 us)) (omega (arith, a)))

pub shortest : (desk : Desk) (s : Register) → (length (board_seen desk s) ≡ 0) ⊎ (least_length desk ≤ length (board_seen desk s))
unfolding board_of crew_board_of picture
shortest Crew s = some-crew-text _ (all-ranked _)
shortest Analyst s = some-text _ (all-ranked _)
shortest Manager s = some-text _ (all-ranked _)

pub none-shorter : NoneShorter
none-shorter desk m b w = shortest desk (decode m)
