-- Each entry has as many bytes, since each identity that is shown is of a fix of the register.
use Rattle.std.proofs.Common.{ℕ, zero, suc, ◌-◌, ◌*◌, ◌≤◌, ◌≡◌, refl, sym, ap, subst, ◌∙◌, List, [], ◌∷◌, map, flat_map, arith, drop, length, length-append, length-take, length-drop}
use mathlib.Core.List.Memᴰ
use mathlib.Core.List.Permᴰ
use mathlib.Core.List.{Memᴰ, Permᴰ}
use Rattle.std.specs.List.{filter}
use Rattle.octets.specs.Words.{word_bytes}
use Rattle.lists.specs.Lists.{sort}
use Rattle.lists.proofs.Lists.{filter-in, map-from, sort-perm}
use Rattle.lists.proofs.Orders.{perm-mem}
use Rattle.lists.proofs.Bools.{or}
use Rattle.decision_items.specs.Layout.{hash_size}
use Rattle.decision_rule.specs.Outcome.{Outcome}
use Rattle.arithmetic.specs.declared.standing.ChiSquare.{ChiSquare}
use Rattle.decision.specs.Claims.{listed_in}
use Rattle.decision.proofs.Laws.{listed-once}
use Rattle.fixes.specs.Fix.{Fix}
use Rattle.fixes.specs.Shown.{Transmission, shown}
use Rattle.fixes.specs.Claims.{fix_relations}
use Rattle.fixes.proofs.Plainly.{shown-is-decided}
use Rattle.board_fixes.specs.Fixes.{fixes_of}
use Rattle.board_transmissions.specs.Transmissions.{transmissions_of, is_first, transmission_of, reach}
use Rattle.board_picture.specs.Picture.{older_than, picture, latest_of, max_shown}
use Rattle.board.proofs.Standing.{standing}
use Rattle.register.specs.Register.{Register}
use Rattle.register.specs.Memory.{decode}
use Rattle.register.proofs.Opened.{opened}
use Rattle.register.proofs.Valid.{Valid}
use Rattle.register.proofs.Kept.{decode-valid}
use Rattle.board_values.specs.Entries.{Entry, fixes_shown, entries_shown}
use Rattle.board_values.specs.Written.{entry_bytes, chi_square_of, fixes_in}
use Rattle.board_values.specs.Claims.{entries, on_board, line_by_line, of_fixes, EntriesCounted}
use Rattle.board_values.proofs.Room.{chi-square-length, from-length, few-shown}
use Rattle.board_values.proofs.Lines.{each-of, each-from, of-fixes}

-- ---- whose a line is

pub drop-in : {A : Type 0} (k : ℕ) (l : List A) (x : A) → Memᴰ x (drop k l) → Memᴰ x l
drop-in zero l x m = m
drop-in (suc k) [] x m = m
drop-in (suc k) (y ∷ l) x m = Memᴰ.tail (drop-in k l x m)

reached : (fs : List Fix) (n : ℕ) (a f : Fix) → Memᴰ a fs → Memᴰ f (reach fs n a) → Memᴰ f fs
unfolding reach
reached fs zero a f h m = or (Memᴰ.cases_cons m) (λ e. subst (λ (x : Fix). Memᴰ x fs) (sym e) h) (λ k. absurd (Memᴰ.not-nil k))
reached fs (suc n) a f h m = (filter-in _ fs f m).0

-- of a transmission's fixes
shown-of : (gs : List Fix) (f : Fix) → Memᴰ f (fixes_shown (shown gs)) → Memᴰ f gs
shown-of gs f m = perm-mem (Permᴰ.symm (subst (λ (t : Outcome Fix ChiSquare). Permᴰ (listed_in t) gs) (sym (shown-is-decided gs)) (listed-once fix_relations gs))) m

line-of-some : {B : Type 0} (h : Fix → B) (number : ℕ) (ts : List Transmission) (y : B) → Memᴰ y (line_by_line (of_fixes h) number ts)
    → (t : Transmission) × Memᴰ t ts × (f : Fix) × Memᴰ f (fixes_shown t) × (y ≡ h f)
unfolding line_by_line
line-of-some h number [] y m = absurd (Memᴰ.not-nil m)
line-of-some h number (t ∷ ts) y m =
    or (Memᴰ.append_cases (map h (fixes_shown t)) m)
    (λ k. let r = map-from h (fixes_shown t) y k in (t, Memᴰ.head refl, r.0, r.1, r.2))
    (λ k. let r = line-of-some h (suc number) ts y k in (r.0, Memᴰ.tail r.1, r.2, r.3, r.4))

-- whose fix a transmission on the board has
pub fix-of : (fs : List Fix) (t : Transmission) (f : Fix) → Memᴰ t (latest_of (sort older_than (map shown (transmissions_of fs)))) → Memᴰ f (fixes_shown t) → Memᴰ f fs
unfolding transmissions_of
fix-of fs t f m k =
    let ts = map shown (transmissions_of fs) in
    let s = sort older_than ts in
    let c = map-from shown (transmissions_of fs) t (perm-mem (Permᴰ.symm (sort-perm older_than ts)) (drop-in (length s - max_shown) s t m)) in
    let r = shown-of c.0 f (subst (λ (u : Transmission). Memᴰ f (fixes_shown u)) c.2 k) in
    let d = map-from (transmission_of fs) (filter (is_first fs) fs) c.0 c.1 in
    reached fs (length fs) d.0 f (filter-in (is_first fs) fs d.0 d.1).0 (subst (λ (l : List Fix). Memᴰ f l) d.2 r)

of-a-fix : {B : Type 0} (h : Fix → B) (fs : List Fix) (y : B) → Memᴰ y (line_by_line (of_fixes h) 1 (latest_of (sort older_than (map shown (transmissions_of fs))))) → (f : Fix) × Memᴰ f fs × (y ≡ h f)
of-a-fix h fs y m =
    let t = line-of-some h 1 (latest_of (sort older_than (map shown (transmissions_of fs)))) y m in
    (t.2, fix-of fs t.0 t.2 t.1 t.3, t.4)

-- ---- how many bytes

pub whole-entry : (e : Entry) → length e.identity ≡ hash_size → length (entry_bytes e) ≡ 49
unfolding entry_bytes word_bytes
whole-entry e h =
    let x = chi-square-length (chi_square_of e.standing) in
    let t = length-take hash_size e.identity in
    simp length-append (omega (arith, x, t, h))

whole-entries : (es : List Entry) → ((e : Entry) → Memᴰ e es → length e.identity ≡ hash_size) → length (flat_map entry_bytes es) ≡ length es * 49
whole-entries [] w = refl
whole-entries (e ∷ es) w =
    let a = length-append (entry_bytes e) (flat_map entry_bytes es) in
    let l = whole-entry e (w e (Memᴰ.head refl)) in
    let r = whole-entries es (λ x m. w x (Memᴰ.tail m)) in
    omega (arith, a, l, r)

pub identities : (s : Register) → map (λ (e : Entry). e.identity) (entries s) ≡ line_by_line (of_fixes (λ f. f.identity)) 1 (on_board s)
unfolding entries_shown
identities s =
    each-from (λ (e : Entry). e.identity) s.records (of_fixes (λ f. f.identity)) (λ n b t. each-of (λ (e : Entry). e.identity) s.records n b t ∙ of-fixes (λ f. f.identity) t) 1 0 (on_board s)

module _ (s : Register) (v : Valid s) where
  pub most : length (entries s) ≤ 96
  unfolding entries_shown picture
  most =
      let k = standing s v in
      let n = from-length s.records 1 0 (on_board s) in
      let f = few-shown (fixes_of s.summaries s.records) k.formed k.apart k.few in
      omega (arith, n, f)

  pub whole-identity : (e : Entry) → Memᴰ e (entries s) → length e.identity ≡ hash_size
  unfolding picture
  whole-identity e m =
      let k = standing s v in
      let r = of-a-fix (λ f. f.identity) (fixes_of s.summaries s.records) e.identity (subst (λ (l : List (List ℕ)). Memᴰ e.identity l) (identities s) (Memᴰ.map (λ (x : Entry). x.identity) m)) in
      ap (λ (x : List ℕ). length x) r.2 ∙ (k.formed r.0 r.1).key

  pub size : length (fixes_in s) ≡ length (entries s) * 49
  size = whole-entries (entries s) whole-identity

pub counted : EntriesCounted
counted = record {
  most = λ m b w. most (decode m) (decode-valid m (opened m w) b);
  transmissions = λ s. let l = length-drop (length (picture s.summaries s.records) - max_shown) (picture s.summaries s.records) in omega (arith, l);
  size = λ m b w. size (decode m) (decode-valid m (opened m w) b);
}
