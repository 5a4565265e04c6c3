-- Whom an entry names: no two fixes of a transmission have one identity, so each is found at its own index, and the entry there is of it.
use Rattle.std.proofs.Common.{ℕ, zero, suc, ◌+◌, ◌-◌, ◌≤◌, ◌<◌, ◌≡◌, refl, sym, ap, ap₂, subst, ◌∙◌, Bool, true, false, not, List, [], ◌∷◌, ◌++◌, append_assoc, map, length, length-append, get_or, get_or-append-add, ltb, ltb-true, ltb-false, arith}
use Rattle.std.proofs.Math.ListN.{length-map, get_or-append}
use Rattle.std.proofs.lemmas.List.{map-append}
use mathlib.Core.Bool.{false≢true}
use mathlib.Core.List.Memᴰ
use mathlib.Core.List.Permᴰ
use mathlib.Core.List.{Memᴰ, Permᴰ}
use Rattle.std.specs.List.{filter}
use Rattle.lists.specs.Lists.{sort}
use Rattle.lists.proofs.Lists.{any_none, filter-in, filter-of, filter-few, filter_none, filter-perm, map-from, sort-perm}
use Rattle.lists.proofs.Orders.{perm-mem, perm-length}
use Rattle.lists.proofs.Bools.{by, or, no_true, and_left, and_right, not_t}
use Rattle.octets.specs.Order.{same}
use Rattle.octets.proofs.Comparison.{same-eq, same_refl}
use Rattle.record.specs.Relations.{subset}
use Rattle.arithmetic.specs.Agree.{agreement_of, agrees_of, chi_square_in}
use Rattle.arithmetic.specs.declared.standing.ChiSquare.{ChiSquare}
use Rattle.decision_items.specs.Claimed.{claim_of}
use Rattle.decision_rule.specs.Outcome.{Outcome, Refused as RefusedFix}
use Rattle.decision.specs.Claims.{listed_in}
use Rattle.decision.proofs.Laws.{Named, opponent, successor, listed-once, refused-names}
use Rattle.fixes.specs.Fix.{Fix}
use Rattle.fixes.specs.Items.{no_fix, Apart}
use Rattle.fixes.specs.Shown.{Transmission, shown, disagrees, agreement, subset_of}
use Rattle.fixes.specs.Claims.{fix_relations}
use Rattle.fixes.proofs.Indexed.{at_in, in-at}
use Rattle.fixes.proofs.Plainly.{shown-is-decided}
use Rattle.fix_lines.specs.declared.Standing.{Standing}
use Rattle.fix_lines.specs.declared.Standing.TheVariants.{Ranked, Dominated, Refused}
use Rattle.board_fixes.specs.Fixes.{record_in, fixes_of}
use Rattle.board_transmissions.specs.Transmissions.{transmissions_of, is_first, transmission_of, reach}
use Rattle.board_picture.specs.Picture.{older_than, picture, latest_of, max_shown}
use Rattle.board.proofs.Standing.{standing}
use Rattle.register.specs.Register.{Register}
use Rattle.register.proofs.Valid.{Valid}
use Rattle.board_values.specs.Entries.{Entry, place_of, index_of, entry, refused_entry, fixes_shown, entries_of, entries_from, entries_shown}
use Rattle.board_values.specs.Written.{role_number}
use Rattle.board_values.specs.Claims.{entries, on_board, line_by_line, record_named, no_entry, entry_at, whom_of, whoms, Opposed, NamesWhom}
use Rattle.board_values.proofs.Counted.{drop-in}
use Rattle.board_values.proofs.Lines.{each-of}
use Rattle.board_values.proofs.Room.{of-length}
use Rattle.board_values.proofs.Said.{same-on, there-is}

-- ---- no two of one identity

abbrev has : List ℕ → Fix → Bool
has x f = same f.identity x

abbrev pub Once : List Fix → Type 0
Once fs = (x : List ℕ) → length (filter (has x) fs) ≤ 1

once-perm : {fs gs : List Fix} → Permᴰ fs gs → Once gs → Once fs
once-perm p w x = let l = perm-length (filter-perm (has x) p) in let k = w x in omega (arith, l, k)

fewer : (p q : Fix → Bool) (l : List Fix) → length (filter p (filter q l)) ≤ length (filter p l)
fewer p q [] = omega arith
fewer p q (f ∷ l) =
    let r = fewer p q l in
    by (q f)
    (λ t. by (p f) (λ u. rw (t, u) (omega arith)) (λ u. rw (t, u) r))
    (λ t. by (p f) (λ u. rw (t, u) (omega arith)) (λ u. rw (t, u) r))

once-filter : (q : Fix → Bool) (fs : List Fix) → Once fs → Once (filter q fs)
once-filter q fs w x = let l = fewer (has x) q fs in let k = w x in omega (arith, l, k)

once-behind : (f : Fix) (fs : List Fix) → Once (f ∷ fs) → Once fs
once-behind f fs w x = let k = w x in by (has x f) (λ t. let l = rw t at k in omega arith) (λ t. rw t at k)

once-apart : (fs : List Fix) → Apart fs → Once fs
once-apart [] a x = omega arith
once-apart (f ∷ fs) a x =
    by (has x f)
    (λ t.
    let none : filter (has x) fs ≡ [] =
    filter_none (has x) fs
    (any_none (has x) fs
    (λ g m. no_true (has x g)
    (λ u.
    let i = in-at no_fix fs g m in
    let b : i.0 < length fs = i.1 in
    let e : f.identity ≡ (get_or fs i.0 no_fix).identity = same-eq f.identity x t ∙ sym (same-eq g.identity x u) ∙ ap (λ (h : Fix). h.identity) (sym i.2) in
    let z : 0 ≡ suc i.0 = a 0 (suc i.0) (omega arith) (omega arith) e in
    omega arith))) in
    rw (t, none) (omega arith))
    (λ t. rw t (once-apart fs (λ i j h k e. let z : suc i ≡ suc j = a (suc i) (suc j) (omega arith) (omega arith) e in omega arith) x))

-- each is found at its index
index-is : (fs : List Fix) → Once fs → (j : ℕ) → j < length fs → index_of fs (get_or fs j no_fix).identity ≡ j
unfolding index_of
index-is [] w j h = absurd (omega arith)
index-is (f ∷ fs) w zero h = rw (same_refl f.identity) refl
index-is (f ∷ fs) w (suc j) h =
    let g = get_or fs j no_fix in
    let m : Memᴰ g fs = at_in no_fix fs j (omega arith) in
    by (same f.identity g.identity)
    (λ e.
    let i = in-at no_fix (filter (has g.identity) fs) g (filter-of (has g.identity) fs g m (same_refl g.identity)) in
    let b : i.0 < length (filter (has g.identity) fs) = i.1 in
    let k : length (filter (has g.identity) (f ∷ fs)) ≤ 1 = w g.identity in
    let l = rw e at k in
    absurd (omega arith))
    (λ e. rw e (ap suc (index-is fs (once-behind f fs w) j (omega arith))))

-- ---- a transmission of the board

once-reach : (fs : List Fix) (n : ℕ) (a : Fix) → Once fs → Once (reach fs n a)
unfolding reach
once-reach fs zero a w = λ x. let l = filter-few (has x) (a ∷ []) in omega (arith, l)
once-reach fs (suc n) a w = once-filter _ fs w

-- it is that of fixes of which no two have one identity
shown-once : (fs : List Fix) → Once fs → (t : Transmission) → Memᴰ t (latest_of (sort older_than (map shown (transmissions_of fs)))) → (gs : List Fix) × Once gs × (t ≡ shown gs)
unfolding transmissions_of
shown-once fs w t m =
    let ts = map shown (transmissions_of fs) in
    let s = sort older_than ts in
    let c = map-from shown (transmissions_of fs) t (perm-mem (Permᴰ.symm (sort-perm older_than ts)) (drop-in (length s - max_shown) s t m)) in
    let d = map-from (transmission_of fs) (filter (is_first fs) fs) c.0 c.1 in
    (c.0, subst Once (sym d.2) (once-reach fs (length fs) d.0 w), c.2)

-- what a refusal names is another of its fixes, which it disagrees with
opposing : (gs : List Fix) (r : RefusedFix Fix ChiSquare) → Named fix_relations gs r → Memᴰ r.against gs × (disagrees r.item r.against ≡ true) × (r.chi2 ≡ chi_square_in (agreement r.item r.against))
opposing gs r (opponent q c k d u) = (k, d, c)
opposing gs r (successor q c k d v w) = absurd (false≢true v)

pub record Settled (t : Transmission) : Type 0 where
  pub once : Once (fixes_shown t)
  pub names : (r : RefusedFix Fix ChiSquare) → Memᴰ r t.refused → Memᴰ r.against (fixes_shown t) × (disagrees r.item r.against ≡ true) × (r.chi2 ≡ chi_square_in (agreement r.item r.against))

settled-shown : (gs : List Fix) → Once gs → Settled (shown gs)
settled-shown gs w =
    let p : Permᴰ (fixes_shown (shown gs)) gs = subst (λ (t : Outcome Fix ChiSquare). Permᴰ (listed_in t) gs) (sym (shown-is-decided gs)) (listed-once fix_relations gs) in
    record {
      once = once-perm p w;
      names = λ r m.
          let n = opposing gs r (refused-names fix_relations gs r (subst (λ (t : Outcome Fix ChiSquare). Memᴰ r t.refused) (shown-is-decided gs) m)) in
          (perm-mem p n.0, n.1, n.2);
    }

pub settled : (s : Register) → Valid s → (t : Transmission) → Memᴰ t (on_board s) → Settled t
unfolding picture
settled s v t m =
    let k = standing s v in
    let g = shown-once (fixes_of s.summaries s.records) (once-apart (fixes_of s.summaries s.records) k.apart) t m in
    subst Settled (sym g.2) (settled-shown g.0 g.1)

-- ---- entries by the fixes that they are of

module _ (P : Entry → Fix → Type 0) where
  each-own : (h : Fix → Entry) (fs : List Fix) → ((f : Fix) → Memᴰ f fs → P (h f) f) → (j : ℕ) → j < length fs → P (entry_at (map h fs) j) (get_or fs j no_fix)
  each-own h [] w j l = absurd (omega arith)
  each-own h (f ∷ fs) w zero l = w f (Memᴰ.head refl)
  each-own h (f ∷ fs) w (suc j) l = each-own h fs (λ g m. w g (Memᴰ.tail m)) j (omega arith)

  each-refused : (h : RefusedFix Fix ChiSquare → Entry) (rs : List (RefusedFix Fix ChiSquare)) → ((r : RefusedFix Fix ChiSquare) → Memᴰ r rs → P (h r) r.item)
      → (j : ℕ) → j < length rs → P (entry_at (map h rs) j) (get_or (map (λ (r : RefusedFix Fix ChiSquare). r.item) rs) j no_fix)
  each-refused h [] w j l = absurd (omega arith)
  each-refused h (r ∷ rs) w zero l = w r (Memᴰ.head refl)
  each-refused h (r ∷ rs) w (suc j) l = each-refused h rs (λ x m. w x (Memᴰ.tail m)) j (omega arith)

  each-append : (es ds : List Entry) (fs gs : List Fix) → length es ≡ length fs → ((j : ℕ) → j < length es → P (entry_at es j) (get_or fs j no_fix))
      → ((j : ℕ) → j < length ds → P (entry_at ds j) (get_or gs j no_fix)) → (j : ℕ) → j < length (es ++ ds) → P (entry_at (es ++ ds) j) (get_or (fs ++ gs) j no_fix)
  each-append [] ds [] gs e w v j h = v j h
  each-append [] ds (f ∷ fs) gs e w v j h = absurd (omega arith)
  each-append (x ∷ es) ds [] gs e w v j h = absurd (omega arith)
  each-append (x ∷ es) ds (f ∷ fs) gs e w v zero h = w 0 (omega arith)
  each-append (x ∷ es) ds (f ∷ fs) gs e w v (suc j) h = each-append es ds fs gs (omega arith) (λ i k. w (suc i) (omega arith)) v j (omega arith)

module _ (ps : List (List ℕ)) (n b : ℕ) (t : Transmission) where
  abbrev fs : List Fix
  fs = fixes_shown t

  abbrev es : List Entry
  es = entries_of ps n b t

  -- e is the entry of f
  pub data Of (e : Entry) (f : Fix) : Type 0 where
    own : role_number e.standing < 2 → e ≡ entry ps n b fs e.standing f f → Of e f
    refused : (r : RefusedFix Fix ChiSquare) → Memᴰ r t.refused → e ≡ refused_entry ps n b fs r → f ≡ r.item → Of e f

  pub number-of : {e : Entry} {f : Fix} → Of e f → e.number ≡ n
  number-of (own k q) = ap (λ (x : Entry). x.number) q
  number-of (refused r m q p) = ap (λ (x : Entry). x.number) q

  identity-of : {e : Entry} {f : Fix} → Of e f → e.identity ≡ f.identity
  identity-of (own k q) = ap (λ (x : Entry). x.identity) q
  identity-of (refused r m q p) = ap (λ (x : Entry). x.identity) q ∙ ap (λ (g : Fix). g.identity) (sym p)

  pub place-is : {e : Entry} {f : Fix} → Of e f → e.place ≡ place_of ps f.record_bytes
  place-is (own k q) = ap (λ (x : Entry). x.place) q
  place-is (refused r m q p) = ap (λ (x : Entry). x.place) q ∙ ap (λ (g : Fix). place_of ps g.record_bytes) (sym p)

  pub signers-of : {e : Entry} {f : Fix} → Of e f → e.signers ≡ f.signers
  signers-of (own k q) = ap (λ (x : Entry). x.signers) q
  signers-of (refused r m q p) = ap (λ (x : Entry). x.signers) q ∙ ap (λ (g : Fix). g.signers) (sym p)

  pub each : (j : ℕ) → j < length es → Of (entry_at es j) (get_or fs j no_fix)
  each =
      let a = λ (f : Fix). entry ps n b fs Ranked f f in
      let d = λ (f : Fix). entry ps n b fs Dominated f f in
      let x = refused_entry ps n b fs in
      let l = length-map t.ranked a in
      let k = length-map t.dominated d in
      let i = length-map t.refused x in
      each-append Of (map a t.ranked) (map d t.dominated ++ map x t.refused) t.ranked (t.dominated ++ map (λ (r : RefusedFix Fix ChiSquare). r.item) t.refused) l
      (λ j h. each-own Of a t.ranked (λ f m. own (omega arith) refl) j (omega (arith, h, l)))
      (each-append Of (map d t.dominated) (map x t.refused) t.dominated (map (λ (r : RefusedFix Fix ChiSquare). r.item) t.refused) k
      (λ j h. each-own Of d t.dominated (λ f m. own (omega arith) refl) j (omega (arith, h, k)))
      (λ j h. each-refused Of x t.refused (λ r m. refused r m refl refl) j (omega (arith, h, i))))

  pub as-many : length es ≡ length fs
  as-many = of-length ps n b t ∙ sym (simp (length-append, length-map) refl)

  -- behind the entries of others, before more
  module _ (front rest : List Entry) (q : b ≡ length front) (z : Settled t) where
    abbrev whole : List Entry
    whole = front ++ (es ++ rest)

    look : (j : ℕ) → j < length es → entry_at whole (length front + j) ≡ entry_at es j
    look j h = get_or-append-add front (es ++ rest) j no_entry ∙ get_or-append es rest no_entry j h

    index : (f : Fix) → Memᴰ f fs → (j : ℕ) × (j < length es) × (index_of fs f.identity ≡ j) × (get_or fs j no_fix ≡ f)
    index f m =
        let i = in-at no_fix fs f m in
        let l = as-many in
        let k : i.0 < length fs = i.1 in
        (i.0, omega (arith, l, k), ap (λ (g : Fix). index_of fs g.identity) (sym i.2) ∙ index-is fs z.once i.0 k, i.2)

    -- the entry that a fix has there
    named : (f : Fix) → Memᴰ f fs → Of (entry_at whole (b + index_of fs f.identity)) f
    named f m =
        let i = index f m in
        let k : entry_at whole (b + index_of fs f.identity) ≡ entry_at es i.0 = ap₂ (λ (x y : ℕ). entry_at whole (x + y)) q i.2 ∙ look i.0 i.1 in
        subst (λ (e : Entry). Of e f) (sym k) (subst (λ (g : Fix). Of (entry_at es i.0) g) i.3 (each i.0 i.1))

    said : (f : Fix) → Memᴰ f fs → ◌≡◌ {A = ℕ × List ℕ} ((entry_at whole (b + index_of fs f.identity)).number, (entry_at whole (b + index_of fs f.identity)).identity) (n, f.identity)
    said f m = ap₂ (λ (x : ℕ) (y : List ℕ). (x, y)) (number-of (named f m)) (identity-of (named f m))

    pub whoms-are : map (whom_of whole) es ≡ whoms n t
    whoms-are =
        each-of (whom_of whole) ps n b t
        ∙ ap₂ (λ x y. x ++ y)
        (same-on _ _ t.ranked (λ f k. said f (Memᴰ.append_left (t.dominated ++ map (λ (r : RefusedFix Fix ChiSquare). r.item) t.refused) k)))
        (ap₂ (λ x y. x ++ y)
        (same-on _ _ t.dominated (λ f k. said f (Memᴰ.append_right t.ranked (Memᴰ.append_left (map (λ (r : RefusedFix Fix ChiSquare). r.item) t.refused) k))))
        (same-on _ _ t.refused (λ r k. said r.against (z.names r k).0)))

    own-is : (j : ℕ) (h : j < length es) (e : Entry) → Of e (get_or fs j no_fix) → role_number e.standing < 2 → e.against ≡ length front + j
    own-is j h e (own k p) less =
        let l = as-many in
        ap (λ (x : Entry). x.against) p ∙ ap₂ (λ (x y : ℕ). x + y) q (index-is fs z.once j (omega (arith, l, h)))
    own-is j h e (refused r m p i) less = let two : role_number e.standing ≡ 2 = ap (λ (x : Entry). role_number x.standing) p in absurd (omega (arith, two, less))

    module _ (known : (f : Fix) → Memᴰ f fs → record_in (get_or ps (place_of ps f.record_bytes) []) ≡ f.record_bytes) where
      record-of : (e : Entry) (f : Fix) → Of e f → Memᴰ f fs → record_named ps e ≡ f.record_bytes
      record-of e f o m = ap (λ (k : ℕ). record_in (get_or ps k [])) (place-is o) ∙ known f m

      opposed-is : (e : Entry) (f : Fix) → Of e f → role_number e.standing ≡ 2 → Opposed ps e (entry_at whole e.against)
      opposed-is e f (own k p) two = absurd (omega (arith, k, two))
      opposed-is e f (refused r m p i) two =
          let a = z.names r m in
          let k : Entry = entry_at whole e.against in
          let there : Of k r.against = subst (λ (y : ℕ). Of (entry_at whole y) r.against) (sym (ap (λ (x : Entry). x.against) p)) (named r.against a.0) in
          let large : record_named ps e ≡ r.item.record_bytes =
          record-of e r.item (refused r m p refl) (Memᴰ.append_right t.ranked (Memᴰ.append_right t.dominated (Memᴰ.map (λ (x : RefusedFix Fix ChiSquare). x.item) m))) in
          let small : record_named ps k ≡ r.against.record_bytes = record-of k r.against there a.0 in
          let d = a.1 in
          record {
            a_subset = ap₂ (λ (x y : List ℕ). subset x y) small large ∙ and_left (subset_of r.against r.item) _ d;
            disagreeing = ap₂ (λ (x y : List ℕ). agrees_of (agreement_of (claim_of x) (claim_of y))) small large ∙ not_t _ (and_right (subset_of r.against r.item) _ d);
            measured = ap (λ (x : Entry). x.standing) p ∙ ap (λ (c : ChiSquare). Refused c) (a.2 ∙ sym (ap₂ (λ (x y : List ℕ). chi_square_in (agreement_of (claim_of x) (claim_of y))) small large));
          }

-- ---- all entries

-- what is claimed of the one at an index
record At (ps : List (List ℕ)) (es : List Entry) (i : ℕ) : Type 0 where
  own : role_number (entry_at es i).standing < 2 → (entry_at es i).against ≡ i
  opposed : role_number (entry_at es i).standing ≡ 2 → Opposed ps (entry_at es i) (entry_at es (entry_at es i).against)

module _ (ps : List (List ℕ)) where
  all-whoms : (ts : List Transmission) (n b : ℕ) (front : List Entry) → b ≡ length front → ((t : Transmission) → Memᴰ t ts → Settled t)
      → map (whom_of (front ++ entries_from ps n b ts)) (entries_from ps n b ts) ≡ line_by_line whoms n ts
  unfolding entries_from line_by_line
  all-whoms [] n b front q z = refl
  all-whoms (t ∷ ts) n b front q z =
      let es = entries_of ps n b t in
      let next = b + (length t.ranked + (length t.dominated + length t.refused)) in
      let rest = entries_from ps (suc n) next ts in
      let l = length-append front es in
      let o = of-length ps n b t in
      map-append (whom_of (front ++ (es ++ rest))) es rest
      ∙ ap₂ (λ x y. x ++ y) (whoms-are ps n b t front rest q (z t (Memᴰ.head refl)))
      (ap (λ (w : List Entry). map (whom_of w) rest) (sym (append_assoc front es rest))
      ∙ all-whoms ts (suc n) next (front ++ es) (omega (arith, q, l, o)) (λ u m. z u (Memᴰ.tail m)))

  all-at : (ts : List Transmission) (n b : ℕ) (front : List Entry) → b ≡ length front → ((t : Transmission) → Memᴰ t ts → Settled t)
      → ((t : Transmission) → Memᴰ t ts → (f : Fix) → Memᴰ f (fixes_shown t) → record_in (get_or ps (place_of ps f.record_bytes) []) ≡ f.record_bytes)
      → (i : ℕ) → i < length (entries_from ps n b ts) → At ps (front ++ entries_from ps n b ts) (length front + i)
  unfolding entries_from
  all-at [] n b front q z w i h = absurd (omega arith)
  all-at (t ∷ ts) n b front q z w i h =
      let es = entries_of ps n b t in
      let next = b + (length t.ranked + (length t.dominated + length t.refused)) in
      let rest = entries_from ps (suc n) next ts in
      let whole = front ++ (es ++ rest) in
      let l = length-append front es in
      let o = of-length ps n b t in
      let d = length-append es rest in
      by (ltb i (length es))
      (λ u.
      let k : i < length es = ltb-true _ _ u in
      let e : entry_at whole (length front + i) ≡ entry_at es i = look ps n b t front rest q (z t (Memᴰ.head refl)) i k in
      let f = each ps n b t i k in
      record {
        own = λ r. ap (λ (x : Entry). x.against) e ∙ own-is ps n b t front rest q (z t (Memᴰ.head refl)) i k (entry_at es i) f (subst (λ (x : Entry). role_number x.standing < 2) e r);
        opposed = λ r. subst (λ (x : Entry). Opposed ps x (entry_at whole x.against)) (sym e)
            (opposed-is ps n b t front rest q (z t (Memᴰ.head refl)) (w t (Memᴰ.head refl)) (entry_at es i) _ f (ap (λ (x : Entry). role_number x.standing) (sym e) ∙ r));
      })
      (λ u.
      let k : length es ≤ i = ltb-false _ _ u in
      let r = all-at ts (suc n) next (front ++ es) (omega (arith, q, l, o)) (λ y m. z y (Memᴰ.tail m)) (λ y m. w y (Memᴰ.tail m)) (i - length es) (omega (arith, d, h, k)) in
      let here : length (front ++ es) + (i - length es) ≡ length front + i = omega (arith, l, k) in
      subst (λ (y : ℕ). At ps whole y) here (subst (λ (x : List Entry). At ps x (length (front ++ es) + (i - length es))) (append_assoc front es rest) r))

module _ (s : Register) (v : Valid s) where
  pub names-whom : NamesWhom s (entries s)
  unfolding entries_shown
  names-whom =
      let each-at : (i : ℕ) → i < length (entries s) → At s.records (entries s) i =
      λ i h. let z : length {A = Entry} [] + i ≡ i = omega arith in
      subst (At s.records (entries s)) z (all-at s.records (on_board s) 1 0 [] refl (settled s v) (λ t m f k. there-is s t f m k) i h) in
      record {
        whom = all-whoms s.records (on_board s) 1 0 [] refl (settled s v);
        own = λ i h. (each-at i h).own;
        opposed = λ i h. (each-at i h).opposed;
      }
