-- The ending of a held record is the one that the words say.
use Rattle.std.proofs.Common.{get_or, ℕ, ◌≡◌, refl, sym, ap, ◌∙◌, subst, Bool, true, false, ◌&&◌, cond, arith, ltb, ltb-true, ltb-false}
use mathlib.Core.List.Memᴰ
use mathlib.Core.List.{List, [], ◌∷◌, map, flat_map, Memᴰ}
use Rattle.octets.specs.Order.{same}
use Rattle.octets.proofs.Comparison.{same-eq, same_refl, before-irrefl}
use Rattle.std.specs.List.{list_all}
use Rattle.lists.proofs.Bools.{by, or, clash, no_true, and_left, and_right}
use Rattle.lists.proofs.Lists.{any-in, any-of, sort-in, sort-perm, flat_in, map-from}
use Rattle.lists.proofs.Orders.{perm-mem}
use Rattle.arithmetic.specs.declared.standing.ChiSquare.{ChiSquare}
use Rattle.decision_rule.specs.Outcome.{Refused as RefusedFix}
use Rattle.tables.proofs.Keys.{keys-ascend}
use Rattle.tables.specs.Places.{ascending}
use Rattle.record.specs.Layout.{record_size}
use Rattle.record.specs.Fields.{models, spec}
use Rattle.models.specs.Models.{state_of, agreed_as, all_agreed, counts}
use Rattle.models.specs.Identity.{identity_of}
use Rattle.signed_records.specs.Read.{record_formed}
use Rattle.fixes.specs.Fix.{Fix}
use Rattle.fixes.specs.Items.{no_fix, fix_at, AllFormed}
use Rattle.fixes.specs.Shown.{Transmission, shown}
use Rattle.fixes.proofs.Indexed.{in-at}
use Rattle.board_fixes.specs.Fixes.{record_in, fixes_of}
use Rattle.board_fixes.proofs.Kept.{fixes-formed, fixes-apart}
use Rattle.board_transmissions.specs.Transmissions.{transmissions_of}
use Rattle.board_transmissions.specs.Claims.{Partition}
use Rattle.board_transmissions.proofs.Fitness.{self-linked}
use Rattle.board_transmissions.proofs.Partition.{partition}
use Rattle.board_transmissions.proofs.Reaching.{chain-in}
use Rattle.board_picture.specs.Picture.{older_than, picture}
use Rattle.register.specs.Register.{Register}
use Rattle.monthly_numbers.specs.declared.endings.Ending.{Ending}
use Rattle.monthly_numbers.specs.declared.endings.Ending.TheVariants.{Ranked, Dominated, Refused, Other, Uncounted}
use Rattle.monthly_numbers.specs.Endings.{picture_in, Represents, represents_any, ending, IsRefused, IsOther, IsUncounted, Ends}
use Rattle.monthly_numbers.specs.Claims.{ExactlyWhere, Once, ByOne}
use Rattle.monthly_numbers.proofs.Fixes.{comes, has-fix}
use Rattle.monthly_numbers.proofs.Ways.{fixes_with, way, in-way, some-way}

-- ---- a record that does not count cites a model for which it does not

uncounted-cites : (s : ℕ) (ms : List ℕ) (ss : List (List ℕ)) → all_agreed s ms ss ≡ false → (m : ℕ) × Memᴰ m ms × (agreed_as s (state_of m ss) ≡ false)
unfolding all_agreed
uncounted-cites s [] ss e = clash refl e
uncounted-cites s (m ∷ ms) ss e =
    by (agreed_as s (state_of m ss))
    (λ t. let r = uncounted-cites s ms ss (rw t at e) in (r.0, Memᴰ.tail r.1, r.2))
    (λ t. (m, Memᴰ.head refl, t))

cites-uncounted : (s : ℕ) (ms : List ℕ) (ss : List (List ℕ)) (m : ℕ) → Memᴰ m ms → agreed_as s (state_of m ss) ≡ false → all_agreed s ms ss ≡ false
unfolding all_agreed
cites-uncounted s [] ss m k e = absurd (Memᴰ.not-nil k)
cites-uncounted s (n ∷ ms) ss m k e =
    no_true (agreed_as s (state_of n ss) && all_agreed s ms ss)
    (λ t. or (Memᴰ.cases_cons k)
    (λ d. clash (and_left (agreed_as s (state_of n ss)) (all_agreed s ms ss) t) (ap (λ (x : ℕ). agreed_as s (state_of x ss)) (sym d) ∙ e))
    (λ d. clash (and_right (agreed_as s (state_of n ss)) (all_agreed s ms ss) t) (cites-uncounted s ms ss m d e)))

-- ---- a member of one of many lists

pub flat_of : {A B : Type 0} (f : A → List B) (l : List A) (x : A) (y : B) → Memᴰ x l → Memᴰ y (f x) → Memᴰ y (flat_map f l)
unfolding flat_map
flat_of f [] x y m k = absurd (Memᴰ.not-nil m)
flat_of f (z ∷ l) x y m k = or (Memᴰ.cases_cons m) (λ e. Memᴰ.append_left _ (subst (λ w. Memᴰ y (f w)) e k)) (λ d. Memᴰ.append_right (f z) (flat_of f l x y d k))

-- ---- the choice of an ending by four tests

abbrev pub pick : Bool → Bool → Bool → Bool → Ending
pick a b c d = cond a Ranked (cond b Dominated (cond c Refused (cond d Other Uncounted)))

module _ (s : Register) (formed : list_all record_formed s.records ≡ true) where
  abbrev fs : List Fix
  fs = fixes_of s.summaries s.records

  all-formed : AllFormed fs
  all-formed = fixes-formed s.summaries s.records formed

  parted : Partition fs
  parted = partition fs (λ f m. self-linked f.record_bytes (all-formed f m).form)

  -- ---- the transmissions that are shown

  shown-from : (t : Transmission) → Memᴰ t (picture_in s) → (c : List Fix) × Memᴰ c (transmissions_of fs) × (t ≡ shown c)
  unfolding picture
  shown-from t m = map-from shown (transmissions_of fs) t (sort-in older_than (map shown (transmissions_of fs)) t m)

  pub shown-in : (c : List Fix) → Memᴰ c (transmissions_of fs) → Memᴰ (shown c) (picture_in s)
  unfolding picture
  shown-in c m = perm-mem (sort-perm older_than (map shown (transmissions_of fs))) (Memᴰ.map shown m)

  -- a fix of a transmission is one of all
  of-all : (c : List Fix) → Memᴰ c (transmissions_of fs) → (f : Fix) → Memᴰ f c → Memᴰ f fs
  of-all c m f k = chain-in ((parted.whole c m f k f).0 k)

  -- a fix ends so, in a transmission that is shown
  pub record Shows (e : Ending) (f : Fix) : Type 0 where
    pub transmission : Transmission
    pub listed : Memᴰ transmission (picture_in s)
    pub fix : Memᴰ f (fixes_with e transmission)

  -- the list of fixes that it is of, and its way there
  record Within (e : Ending) (f : Fix) : Type 0 where
    fixes : List Fix
    part : Memᴰ fixes (transmissions_of fs)
    member : Memᴰ f fixes
    ends : e ≡ way fixes f

  within : (e : Ending) (f : Fix) → Shows e f → Within e f
  within e f k =
      let c = shown-from k.transmission k.listed in
      let r = in-way c.0 e f (subst (λ (t : Transmission). Memᴰ f (fixes_with e t)) c.2 k.fix) in
      record { fixes = c.0; part = c.1; member = r.0; ends = r.1 }

  pub fix-shown : (e : Ending) (f : Fix) → Shows e f → Memᴰ f fs
  fix-shown e f k = let w = within e f k in of-all w.fixes w.part f w.member

  -- each fix ends in some way
  pub some-shown : (f : Fix) → Memᴰ f fs → (e : Ending) × Shows e f
  some-shown f m =
      let c = parted.each f m in
      let r = some-way c.0 f c.2 in
      (r.0, record { transmission = shown c.0; listed = shown-in c.0 c.1; fix = r.1 })

  -- two fixes of one identity are one
  same-fix : (f g : Fix) → Memᴰ f fs → Memᴰ g fs → f.identity ≡ g.identity → f ≡ g
  same-fix f g m k e =
      let r = in-at no_fix fs f m in
      let q = in-at no_fix fs g k in
      let z = fixes-apart s.summaries s.records formed r.0 q.0 r.1 q.1 (ap (λ (h : Fix). h.identity) r.2 ∙ e ∙ ap (λ (h : Fix). h.identity) (sym q.2)) in
      sym r.2 ∙ ap (fix_at fs) z ∙ q.2

  -- the identity of a fix is that of its record
  key-of : (f : Fix) → Memᴰ f fs → f.identity ≡ identity_of s.summaries f.record_bytes
  key-of f m = let c = comes s.summaries s.records f m in c.key ∙ ap (identity_of s.summaries) (sym c.represents)

  -- so are two of one record
  same-record : (f g : Fix) → Memᴰ f fs → Memᴰ g fs → f.record_bytes ≡ g.record_bytes → f ≡ g
  same-record f g m k e = same-fix f g m k (key-of f m ∙ ap (identity_of s.summaries) e ∙ sym (key-of g k))

  -- a record has one ending among the three of a fix
  pub one-way : (e d : Ending) (f g : Fix) → Shows e f → Shows d g → f.record_bytes ≡ g.record_bytes → e ≡ d
  one-way e d f g x y q =
      let v = within e f x in
      let w = within d g y in
      let z = same-record f g (fix-shown e f x) (fix-shown d g y) q in
      let c = parted.one v.fixes w.fixes v.part w.part f v.member (subst (λ (h : Fix). Memᴰ h w.fixes) (sym z) w.member) in
      v.ends ∙ ap (λ (l : List Fix). way l f) c ∙ ap (way w.fixes) z ∙ sym w.ends

  module _ (p : List ℕ) where
    -- the record represents a fix that ends so
    pub record Stands (e : Ending) : Type 0 where
      pub fix : Fix
      pub shows : Shows e fix
      pub represents : Represents p fix

    stands-once : (e d : Ending) → Stands e → Stands d → e ≡ d
    stands-once e d x y = one-way e d x.fix y.fix x.shows y.shows (x.represents ∙ sym y.represents)

    -- it counts then
    stands-counts : (e : Ending) → Stands e → counts s.summaries (record_in p) ≡ true
    stands-counts e x = let c = comes s.summaries s.records x.fix (fix-shown e x.fix x.shows) in subst (λ (r : List ℕ). counts s.summaries r ≡ true) (sym c.represents ∙ x.represents) c.counts

    -- ---- by the tests

    abbrev test : Ending → Bool
    test e = represents_any (record_in p) (flat_map (fixes_with e) (picture_in s))

    test-stands : (e : Ending) → test e ≡ true → Stands e
    test-stands e h =
        let f = any-in (λ g. same g.record_bytes (record_in p)) (flat_map (fixes_with e) (picture_in s)) h in
        let t = flat_in (fixes_with e) (picture_in s) f.0 f.1 in
        record { fix = f.0; shows = record { transmission = t.0; listed = t.1; fix = t.2 }; represents = same-eq f.0.record_bytes (record_in p) f.2 }

    stands-test : (e : Ending) → Stands e → test e ≡ true
    stands-test e x =
        any-of (λ g. same g.record_bytes (record_in p)) (flat_map (fixes_with e) (picture_in s)) x.fix (flat_of (fixes_with e) (picture_in s) x.shows.transmission x.fix x.shows.listed x.shows.fix)
        (rw x.represents (same_refl (record_in p)))

    picked : ending s p ≡ pick (test Ranked) (test Dominated) (test Refused) (counts s.summaries (record_in p))
    unfolding ending
    picked = refl

    -- it stands for no fix
    abbrev pub None : Type 0
    None = (e : Ending) → Stands e → ⊥

    not-test : (e : Ending) → (Stands e → ⊥) → test e ≡ false
    not-test e f = no_true (test e) (λ t. f (test-stands e t))

    -- ---- each ending is found

    differ : (e d : Ending) → Stands e → (e ≡ d → ⊥) → test d ≡ false
    differ e d x n = not-test d (λ y. n (stands-once e d x y))

    pub stands-is : (e : Ending) → Stands e → ending s p ≡ e
    stands-is Ranked x = picked ∙ rw (stands-test Ranked x) refl
    stands-is Dominated x = picked ∙ rw (differ Dominated Ranked x (λ e. cc), stands-test Dominated x) refl
    stands-is Refused x = picked ∙ rw (differ Refused Ranked x (λ e. cc), differ Refused Dominated x (λ e. cc), stands-test Refused x) refl
    stands-is Other x = absurd (Memᴰ.not-nil x.shows.fix)
    stands-is Uncounted x = absurd (Memᴰ.not-nil x.shows.fix)

    pub none-is : None → ending s p ≡ cond (counts s.summaries (record_in p)) Other Uncounted
    none-is n = picked ∙ rw (not-test Ranked (n Ranked), not-test Dominated (n Dominated), not-test Refused (n Refused)) refl

    -- ---- the words

    refused-stands : IsRefused s p → Stands Refused
    refused-stands (t, m, x, k, r) = record { fix = x.item; shows = record { transmission = t; listed = m; fix = Memᴰ.map (λ (y : RefusedFix Fix ChiSquare). y.item) k }; represents = r }

    stands-refused : Stands Refused → IsRefused s p
    stands-refused x =
        let y = map-from (λ (z : RefusedFix Fix ChiSquare). z.item) x.shows.transmission.refused x.fix x.shows.fix in
        (x.shows.transmission, x.shows.listed, y.0, y.1, ap (λ (f : Fix). f.record_bytes) (sym y.2) ∙ x.represents)

    other-none : IsOther s p → (e : Ending) → Stands e → ⊥
    other-none (c, q, held, differs, f, m, r, k) e x =
        let g = x.fix in
        let n = fix-shown e g x.shows in
        let z = same-fix f g m n (k ∙ ap (identity_of s.summaries) (sym x.represents) ∙ sym (key-of g n)) in
        differs (sym r ∙ ap (λ (h : Fix). h.record_bytes) z ∙ x.represents)

    uncounted-counts : IsUncounted s p → counts s.summaries (record_in p) ≡ false
    uncounted-counts (m, k, e) = cites-uncounted (spec (record_in p)) (models (record_in p)) s.summaries m k e

    pub ends-is : (e : Ending) → Ends s p e → ending s p ≡ e
    ends-is Ranked (t, m, f, k, r) = stands-is Ranked (record { fix = f; shows = record { transmission = t; listed = m; fix = k }; represents = r })
    ends-is Dominated (t, m, f, k, r) = stands-is Dominated (record { fix = f; shows = record { transmission = t; listed = m; fix = k }; represents = r })
    ends-is Refused x = stands-is Refused (refused-stands x)
    ends-is Other x = none-is (other-none x) ∙ rw x.0 refl
    ends-is Uncounted x = let c = uncounted-counts x in none-is (λ e y. clash (stands-counts e y) c) ∙ rw c refl

    -- and it ends so
    module _ (held : Memᴰ p s.records) where
      other : None → counts s.summaries (record_in p) ≡ true → IsOther s p
      other n c =
          let f = has-fix s.summaries s.records p held c in
          let q = comes s.summaries s.records f.0 f.1 in
          let w = some-shown f.0 f.1 in
          (c, q.place, q.held, (λ e. n w.0 (record { fix = f.0; shows = w.1; represents = q.represents ∙ e })), f.0, f.1, q.represents, f.2)

      abbrev Found : Type 0
      Found = (e : Ending) × Ends s p e

      found : Found
      found =
          by (test Ranked)
          (λ a. let x = test-stands Ranked a in (Ranked, (x.shows.transmission, x.shows.listed, x.fix, x.shows.fix, x.represents)))
          (λ a. by (test Dominated)
          (λ b. let x = test-stands Dominated b in (Dominated, (x.shows.transmission, x.shows.listed, x.fix, x.shows.fix, x.represents)))
          (λ b. by (test Refused)
          (λ c. (Refused, stands-refused (test-stands Refused c)))
          (λ c. by (counts s.summaries (record_in p))
          (λ d. (Other, other (none a b c) d))
          (λ d. (Uncounted, uncounted-cites (spec (record_in p)) (models (record_in p)) s.summaries d)))))
        where
          none : test Ranked ≡ false → test Dominated ≡ false → test Refused ≡ false → (e : Ending) → Stands e → ⊥
          none a b c Ranked x = clash (stands-test Ranked x) a
          none a b c Dominated x = clash (stands-test Dominated x) b
          none a b c Refused x = clash (stands-test Refused x) c
          none a b c Other x = absurd (Memᴰ.not-nil x.shows.fix)
          none a b c Uncounted x = absurd (Memᴰ.not-nil x.shows.fix)

      ends : (e : Ending) → ending s p ≡ e → Ends s p e
      ends e q = let f = found in subst (Ends s p) (sym (ends-is f.0 f.1) ∙ q) f.1

      pub exactly : ExactlyWhere s p
      exactly = record {
        ranked = (ends Ranked, ends-is Ranked);
        dominated = (ends Dominated, ends-is Dominated);
        refused = (ends Refused, ends-is Refused);
        other = (ends Other, ends-is Other);
        uncounted = (ends Uncounted, ends-is Uncounted);
      }

      pub once : Once s p
      once = let f = found in record { way = f.0; ends = f.1; only = λ e x. sym (ends-is e x) ∙ ends-is f.0 f.1 }

  -- ---- each fix has one place

  pub by-one : ascending record_size s.records ≡ true → (f : Fix) → Memᴰ f fs → ByOne s f
  by-one a f m =
      let c = comes s.summaries s.records f m in
      record { place = c.place; held = c.held; represents = c.represents; only = λ q k r. one q c.place k c.held (sym r ∙ c.represents) }
    where
      one : (q p : List ℕ) → Memᴰ q s.records → Memᴰ p s.records → record_in q ≡ record_in p → q ≡ p
      one q p k n e =
          let i = in-at [] s.records q k in
          let j = in-at [] s.records p n in
          let same-key = ap record_in i.2 ∙ e ∙ ap record_in (sym j.2) in
          by (ltb i.0 j.0)
          (λ t. clash (keys-ascend record_size s.records i.0 j.0 a (ltb-true i.0 j.0 t) j.1) (rw same-key (before-irrefl (record_in (get_or s.records j.0 [])))))
          (λ t. by (ltb j.0 i.0)
          (λ u. clash (keys-ascend record_size s.records j.0 i.0 a (ltb-true j.0 i.0 u) i.1) (rw same-key (before-irrefl (record_in (get_or s.records j.0 [])))))
          (λ u. let z : i.0 ≡ j.0 = let x = ltb-false i.0 j.0 t in let y = ltb-false j.0 i.0 u in omega arith in
          sym i.2 ∙ ap (λ (n : ℕ). get_or s.records n []) z ∙ j.2))
