-- What a register shows after a list of calls: each fix is of one transmission and has one line there, and the oldest transmission comes first.
use Rattle.std.proofs.Common.{ℕ, suc, ◌≡◌, refl, sym, ap, ap₂, ◌∙◌, subst, Bool, true, not, ◌⊎◌, inl, inr, List, [], ◌∷◌, map, arith}
use mathlib.Core.Bool.{false≢true}
use mathlib.Core.List.Memᴰ
use mathlib.Core.List.Permᴰ
use mathlib.Core.List.{Memᴰ, Permᴰ}
use Rattle.octets.specs.Order.{same}
use Rattle.octets.proofs.Comparison.{same-eq}
use Rattle.record.specs.Fields.{tag_count}
use Rattle.record.proofs.Laws.{subset-fewer}
use Rattle.arithmetic.specs.Agree.{agrees_of}
use Rattle.std.specs.List.{filter}
use Rattle.lists.specs.Lists.{sort}
use Rattle.lists.specs.Ordered.{Ascending}
use Rattle.lists.proofs.Lists.{filter-in, sort-perm, map-from}
use Rattle.lists.proofs.Orders.{perm-mem}
use Rattle.lists.proofs.Sorting as S
use Rattle.lists.proofs.Sorting.{sort-ascends}
use Rattle.lists.proofs.Bools.{by, or, and_left}
use Rattle.decision_rule.specs.Outcome.{Outcome}
use Rattle.decision.specs.Claims.{listed_in}
use Rattle.decision.proofs.Laws.{Sound, listed-once, some_ranked}
use Rattle.fixes.specs.Fix.{Fix}
use Rattle.board_fixes.specs.Fixes.{fixes_of}
use Rattle.fixes.specs.Items.{no_fix, fix_at, Apart}
use Rattle.fixes.proofs.Indexed.{in-at}
use Rattle.board_transmissions.specs.Transmissions.{transmission_of, leads, is_first, transmissions_of}
use Rattle.board_transmissions.specs.Claims.{Partition}
use Rattle.board_transmissions.proofs.Indexed.{map-map}
use Rattle.board_transmissions.proofs.Reaching.{chain-in}
use Rattle.board_transmissions.proofs.Partition.{partition}
use Rattle.board_transmissions.proofs.Fitness.{self-linked}
use Rattle.fixes.specs.Shown.{Transmission, subset_of, agreement, shown}
use Rattle.fixes.specs.Ages.{older, older_first}
use Rattle.board_picture.specs.Picture.{older_than, picture}
use Rattle.fixes.specs.Claims.{fix_relations}
use Rattle.fixes.proofs.Plainly.{shown-is-decided}
use Rattle.fixes.proofs.Ages.{older-total}
use Rattle.board_picture.proofs.Ages.{older_than-trans}
use Rattle.register.specs.Memory.{decode, fresh}
use Rattle.register.specs.Calls.{Call, runs, none_full, remaining}
use Rattle.register.specs.Remains.{summaries_held, records_held}
use Rattle.register.proofs.Remaining.{holds-in-order}
use Rattle.board.specs.Shows.{WhatIsShown}
use Rattle.board.proofs.Standing.{Standing, standing}
use Rattle.board.proofs.WholeLists.{valid}
use Rattle.arithmetic.specs.declared.standing.ChiSquare.{ChiSquare}

-- ---- a transmission

-- a subset has fewer tags
sound : Sound fix_relations
sound = record {
  standing = λ f. 0;
  size = λ f. tag_count f.record_bytes;
  over-is = λ f g e. absurd (false≢true e);
  dis_size = λ f g e. subset-fewer g.record_bytes f.record_bytes (and_left (subset_of g f) (not (agrees_of (agreement f g))) e);
  sub_size = λ f g e. subset-fewer f.record_bytes g.record_bytes (and_left (subset_of f g) (same f.inputs g.inputs) e);
}

lines : (c : List Fix) → Permᴰ (listed_in (shown c)) c
lines c = subst (λ (o : Outcome Fix ChiSquare). Permᴰ (listed_in o) c) (sym (shown-is-decided c)) (listed-once fix_relations c)

first_of : (c : List Fix) (f : Fix) → Memᴰ f c → (g : Fix) × Memᴰ g (shown c).ranked
first_of c f m = subst (λ (o : Outcome Fix ChiSquare). (g : Fix) × Memᴰ g o.ranked) (sym (shown-is-decided c)) (some_ranked fix_relations c sound f m)

-- the ranked are fixes of the transmission
ranked-in : (c : List Fix) (f : Fix) → Memᴰ f (shown c).ranked → Memᴰ f c
ranked-in c f m = perm-mem (Permᴰ.symm (lines c)) (Memᴰ.append_left _ m)

-- ---- fixes of different identities

data Differ : List Fix → Type 0 where
  none : Differ []
  next : {f : Fix} {fs : List Fix} → ((g : Fix) → Memᴰ g fs → f.identity ≡ g.identity → ⊥) → Differ fs → Differ (f ∷ fs)

all-differ : (fs : List Fix) → Apart fs → Differ fs
all-differ [] d = none
all-differ (f ∷ fs) d =
    next
    (λ g m e. let r = in-at no_fix fs g m in
    let b = r.1 in
    let z = d 0 (suc r.0) (omega arith) (omega arith) (e ∙ ap (λ (h : Fix). h.identity) (sym r.2)) in
    omega arith)
    (all-differ fs (λ i j p q e. let z = d (suc i) (suc j) (omega arith) (omega arith) e in omega arith))

filter-differ : (test : Fix → Bool) (fs : List Fix) → Differ fs → Differ (filter test fs)
filter-differ test [] none = none
filter-differ test (f ∷ fs) (next d w) =
    by (test f)
    (λ t. rw t (next (λ g m. d g (filter-in test fs g m).0) (filter-differ test fs w)))
    (λ t. rw t (filter-differ test fs w))

-- two fixes of a list that have one identity are one
same-fix : (fs : List Fix) → Apart fs → (f g : Fix) → Memᴰ f fs → Memᴰ g fs → f.identity ≡ g.identity → f ≡ g
same-fix fs d f g m k e =
    let r = in-at no_fix fs f m in
    let q = in-at no_fix fs g k in
    let z = d r.0 q.0 r.1 q.1 (ap (λ (h : Fix). h.identity) r.2 ∙ e ∙ ap (λ (h : Fix). h.identity) (sym q.2)) in
    sym r.2 ∙ ap (fix_at fs) z ∙ q.2

-- ---- the transmissions of fixes

first-older : (t u : Transmission) (f g : Fix) (fs gs : List Fix) → t.ranked ≡ f ∷ fs → u.ranked ≡ g ∷ gs → older_than t u ≡ older f g
first-older t u f g fs gs e d = ap₂ older_first e d

module _ (fs : List Fix) (d : Apart fs) (w : Partition fs) where
  -- a fix that leads a transmission, of which it is one
  record Head (a : Fix) : Type 0 where
    heads : is_first fs a ≡ true
    listed : Memᴰ (transmission_of fs a) (transmissions_of fs)
    member : Memᴰ a fs

  -- transmissions that share a fix have one head
  one-head : (a b : Fix) → Head a → Head b → transmission_of fs a ≡ transmission_of fs b → a.identity ≡ b.identity
  one-head a b p q e = go (transmission_of fs b) (subst (λ (c : List Fix). leads a c ≡ true) e p.heads) q.heads
    where
      go : (c : List Fix) → leads a c ≡ true → leads b c ≡ true → a.identity ≡ b.identity
      go [] u v = absurd (false≢true u)
      go (f ∷ c) u v = same-eq a.identity f.identity u ∙ sym (same-eq b.identity f.identity v)

  -- the fixes of a transmission are of the list
  of-list : (c : List Fix) → Memᴰ c (transmissions_of fs) → (f : Fix) → Memᴰ f c → Memᴰ f fs
  of-list c m f k = chain-in ((w.whole c m f k f).0 k)

  -- the first ranked of a transmission
  lead : (a : Fix) → Head a → (f : Fix) × (rest : List Fix) × ((shown (transmission_of fs a)).ranked ≡ f ∷ rest) × Memᴰ f (transmission_of fs a)
  lead a p =
      let c = transmission_of fs a in
      go (shown c).ranked refl (some c p.heads)
    where
      some : (c : List Fix) → leads a c ≡ true → (g : Fix) × Memᴰ g (shown c).ranked
      some [] u = absurd (false≢true u)
      some (f ∷ c) u = first_of (f ∷ c) f (Memᴰ.head refl)

      go : (l : List Fix) → (shown (transmission_of fs a)).ranked ≡ l → (g : Fix) × Memᴰ g (shown (transmission_of fs a)).ranked
          → (f : Fix) × (rest : List Fix) × ((shown (transmission_of fs a)).ranked ≡ f ∷ rest) × Memᴰ f (transmission_of fs a)
      go [] e g = absurd (Memᴰ.not-nil (subst (λ (z : List Fix). Memᴰ g.0 z) e g.1))
      go (f ∷ l) e g = (f, l, e, ranked-in (transmission_of fs a) f (subst (λ (z : List Fix). Memᴰ f z) (sym e) (Memᴰ.head refl)))

  compare : (a b : Fix) → Head a → Head b → (a.identity ≡ b.identity → ⊥)
      → (older_than (shown (transmission_of fs a)) (shown (transmission_of fs b)) ≡ true) ⊎ (older_than (shown (transmission_of fs b)) (shown (transmission_of fs a)) ≡ true)
  compare a b p q n =
      let c = transmission_of fs a in
      let e = transmission_of fs b in
      let f = lead a p in
      let g = lead b q in
      let differ : f.0.identity ≡ g.0.identity → ⊥ = λ z.
      let x = same-fix fs d f.0 g.0 (of-list c p.listed f.0 f.3) (of-list e q.listed g.0 g.3) z in
      n (one-head a b p q (w.one c e p.listed q.listed f.0 f.3 (subst (λ (h : Fix). Memᴰ h e) (sym x) g.3))) in
      or (older-total f.0 g.0 differ)
      (λ t. inl (first-older (shown c) (shown e) f.0 g.0 f.1 g.1 f.2 g.2 ∙ t))
      (λ t. inr (first-older (shown e) (shown c) g.0 f.0 g.1 f.1 g.2 f.2 ∙ t))

  abbrev view : Fix → Transmission
  view a = shown (transmission_of fs a)

  apart : (hs : List Fix) → Differ hs → ((a : Fix) → Memᴰ a hs → Head a) → S.Apart older_than (map view hs)
  apart [] none h = S.single
  apart (a ∷ hs) (next n w') h =
      S.also
      (λ y m. let r = map-from view hs y m in
      subst (λ (z : Transmission). (older_than (view a) z ≡ true) ⊎ (older_than z (view a) ≡ true)) (sym r.2)
      (compare a r.0 (h a (Memᴰ.head refl)) (h r.0 (Memᴰ.tail r.1)) (n r.0 r.1)))
      (apart hs w' (λ b m. h b (Memᴰ.tail m)))

  head_of : (a : Fix) → Memᴰ a (filter (is_first fs) fs) → Head a
  unfolding transmissions_of
  head_of a m = let r = filter-in (is_first fs) fs a m in record { heads = r.1; listed = Memᴰ.map (transmission_of fs) m; member = r.0 }

  pub ascends : Ascending older_than (sort older_than (map shown (transmissions_of fs)))
  unfolding transmissions_of
  ascends =
      let hs = filter (is_first fs) fs in
      subst (λ (l : List Transmission). Ascending older_than (sort older_than l)) (sym (map-map shown (transmission_of fs) hs))
      (sort-ascends older_than older_than-trans (map view hs) (apart hs (filter-differ (is_first fs) fs (all-differ fs d)) head_of))

  -- some fix of each is ranked
  pub ranks : (c : List Fix) → Memᴰ c (transmissions_of fs) → (f : Fix) × Memᴰ f (shown c).ranked
  unfolding transmissions_of
  ranks c m =
      let r = map-from (transmission_of fs) (filter (is_first fs) fs) c m in
      let f = lead r.0 (head_of r.0 r.1) in
      subst (λ (z : List Fix). (g : Fix) × Memᴰ g (shown z).ranked) (sym r.2) (f.0, subst (λ (z : List Fix). Memᴰ f.0 z) (sym f.2) (Memᴰ.head refl))

-- ---- after a list of calls

pub standing-over : (cs : List Call) → none_full fresh cs ≡ true → Standing (summaries_held (remaining cs)) (records_held (remaining cs))
standing-over cs f =
    let h = holds-in-order cs f in
    subst (λ (z : List (List ℕ)). Standing z (records_held (remaining cs))) h.0
    (subst (λ (z : List (List ℕ)). Standing (decode (runs fresh cs)).summaries z) h.1 (standing (decode (runs fresh cs)) (valid cs f)))

pub what-is-shown : WhatIsShown
unfolding picture
what-is-shown cs f =
    let ss = summaries_held (remaining cs) in
    let ps = records_held (remaining cs) in
    let fs = fixes_of ss ps in
    let x = standing-over cs f in
    let d : Apart fs = x.apart in
    let w : Partition fs = partition fs (λ f m. self-linked f.record_bytes (x.formed f m).form) in
    record {
      parted = w;
      one_line = λ c m. lines c;
      some_ranked = ranks fs d w;
      all_shown = sort-perm older_than (map shown (transmissions_of fs));
      oldest_first = ascends fs d w;
    }
