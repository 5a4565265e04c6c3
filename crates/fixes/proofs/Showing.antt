-- What is shown of fixes is what a decision of their items shows.
use Rattle.std.proofs.lemmas.List.{get_or_default, get_or-map}
use Rattle.std.specs.Prelude.{Some, slice_get}
use Prim.Native.Nat.{ℕ, ◌≤◌, ◌<◌}
use mathlib.Core.Path.{◌≡◌, refl, sym, ap, subst, ◌∙◌}
use mathlib.Core.Bool.{not, false≢true}
use mathlib.Core.List.Memᴰ
use mathlib.Core.List.Permᴰ
use mathlib.Core.List.{List, [], ◌∷◌, map, flat_map, Memᴰ}
use native.Mathlib.Omega.{arith}
use lib.ListN.{length, get_or, length-map}
use Rattle.octets.specs.Order.{same}
use Rattle.record.specs.Fields.{tag_count}
use Rattle.record.proofs.Laws.{subset-fewer, subset-irrefl}
use Rattle.arithmetic.specs.Agree.{agrees_of}
use Rattle.arithmetic.specs.declared.standing.ChiSquare.{ChiSquare}
use Rattle.lists.specs.Lists.{insert, sort}
use Rattle.lists.specs.Ordered.{count_from, up_to}
use Rattle.lists.proofs.Lists.{up_in, by-places}
use Rattle.lists.proofs.Orders.{perm-mem}
use Rattle.lists.proofs.Bools.{or, and_left}
use Rattle.decision_items.specs.Values as V
use Rattle.decision_items.specs.declared.item.Item.{Item}
use Rattle.decision_rule.specs.Standing.{decide}
use Rattle.decision_rule.specs.Outcome.{Refused, Outcome}
use Rattle.decision_rule.specs.Listed.{relations}
use Rattle.decision_rule.specs.Rows.{all}
use Rattle.decision_rule.proofs.Known.{some-here}
use Rattle.decision.specs.Claims.{listed_in}
use Rattle.decision.specs.Answer.{refusal}
use Rattle.decision.specs.Answered.{Says}
use Rattle.decision.specs.Each.{Each}
use Rattle.decision.specs.Working.{among}
use Rattle.decision.specs.declared.Decision.{Decision}
use Rattle.decision.specs.declared.Refusal.{Refusal}
use Rattle.decision.proofs.Carried.{Alike, carried, carried_outcome}
use Rattle.decision.proofs.Laws.{Sound, opponent, successor, listed-once, refused-names, some_ranked}
use Rattle.fixes.specs.Fix.{Fix}
use Rattle.fixes.specs.Shown.{subset_of, agreement, shown}
use Rattle.fixes.specs.Items.{no_fix, fix_at}
use Rattle.fixes.specs.Claims.{fix_relations}
use Rattle.fixes.proofs.Indexed.{at_in}
use Rattle.fixes.proofs.Plainly.{shown-is-decided}
use Rattle.fixes.specs.Decided.{IsFix, refused_by, refused_of, outcome_in, shown_by, AllBelow, Within, ShowsFixes}

-- ---- a decision says its outcome

map-back : (rs : List (Refused ℕ ChiSquare)) → map refused_by (map refusal rs) ≡ rs
map-back [] = refl
map-back (r ∷ rs) = ap (λ (l : List (Refused ℕ ChiSquare)). r ∷ l) (map-back rs)

outcome-is : {N : ℕ} (d : Decision N) (o : Outcome ℕ ChiSquare) → Says d o → outcome_in d ≡ o
outcome-is d o w = rw (w.ranked, w.dominated, w.refusals, map-back o.refused) refl

module _ (gs : List Fix) (l : List Item) (long : length l ≡ length gs) (w : Each (λ i x. IsFix (fix_at gs i) x) l (length l)) where
  abbrev o : Outcome ℕ ChiSquare
  o = decide (relations l) (all l)

  item : (i : ℕ) → Memᴰ i (all l) → (x : Item) × (slice_get l i ≡ Some x) × IsFix (fix_at gs i) x
  item i m = let h = up_in (length l) i m in let r = some-here l i h in (r.0, r.1, w i r.0 h r.1)

  alike : Alike (relations l) fix_relations (fix_at gs) (λ c. c) (all l)
  unfolding V.disagrees V.ahead
  alike = record {
    disagrees = λ i j m n. let a = item i m in let b = item j n in sym (rw (a.1, b.1, a.2.report, b.2.report, b.2.candidate) refl);
    chi_square = λ i j m n. let a = item i m in let b = item j n in sym (rw (a.1, b.1, a.2.report, b.2.report) refl);
    outstands = λ i j m n. let a = item i m in let b = item j n in sym (rw (a.1, b.1, a.2.candidate, b.2.candidate) refl);
    passed = λ i m. let a = item i m in sym (rw (a.1, a.2.candidate) refl);
    within = λ i j m n. let a = item i m in let b = item j n in sym (rw (a.1, b.1, a.2.report, b.2.report, a.2.inputs, b.2.inputs) refl);
    lower = λ i j m n. let a = item i m in let b = item j n in sym (rw (a.1, b.1, a.2.identity, b.2.identity) refl);
    ahead = λ i j m n. let a = item i m in let b = item j n in sym (rw (a.1, b.1, a.2.candidate, b.2.candidate, a.2.identity, b.2.identity) refl);
  }

  -- what is shown of the fixes is what is decided of their items, each index standing for its fix
  shown-of-items : shown gs ≡ carried_outcome (fix_at gs) (λ c. c) o
  shown-of-items =
      shown-is-decided gs
      ∙ ap (decide fix_relations) (sym (by-places no_fix gs))
      ∙ ap (λ (n : ℕ). decide fix_relations (map (fix_at gs) (up_to n))) (sym long)
      ∙ carried (relations l) fix_relations (fix_at gs) (λ c. c) (all l) alike

  -- ---- it names fixes only

  listed-below : (i : ℕ) → Memᴰ i (listed_in o) → i < length l
  listed-below i m = up_in (length l) i (perm-mem (Permᴰ.symm (listed-once (relations l) (all l))) m)

  against-below : (x : Refused ℕ ChiSquare) → Memᴰ x o.refused → x.against < length l
  against-below x m = elim (refused-names (relations l) (all l) x m) [ opponent q c k d u ↦ up_in (length l) x.against k | successor q c k d v w ↦ up_in (length l) x.against k ]

  map-in : {A B : Type 0} (f : A → B) (k : List A) (x : A) → Memᴰ x k → Memᴰ (f x) (map f k)
  map-in f [] x m = absurd (Memᴰ.not-nil m)
  map-in f (y ∷ k) x m = or (Memᴰ.cases_cons m) (λ e. Memᴰ.head (ap f e)) (λ z. Memᴰ.tail (map-in f k x z))

  refusal-at : (rs : List (Refused ℕ ChiSquare)) (i : ℕ) (d : Refusal) → i < length (map refusal rs) → (x : Refused ℕ ChiSquare) × Memᴰ x rs × (get_or (map refusal rs) i d ≡ refusal x)
  refusal-at rs i d h =
      let k : i < length rs = rw (length-map rs refusal) at h in
      let x = get_or rs i (refused_by d) in
      (x, at_in (refused_by d) rs i k, get_or-map refusal rs i (refused_by d) d k)

  module _ {N : ℕ} (d : Decision N) (says : Says d o) where
    list-below : (k m : List ℕ) → k ≡ m → ((i : ℕ) → Memᴰ i m → i < length l) → AllBelow (length gs) k
    list-below k m e h i lt = let z = h (get_or k i 0) (subst (Memᴰ (get_or k i 0)) e (at_in 0 k i lt)) in omega (arith, z, long)

    within : Within (length gs) d
    within =
        record {
          ranked = list-below d.ranked.items o.ranked says.ranked (λ i m. listed-below i (Memᴰ.append_left _ m));
          dominated = list-below d.dominated.items o.dominated says.dominated (λ i m. listed-below i (Memᴰ.append_right o.ranked (Memᴰ.append_left _ m)));
          refused = λ i r k.
              let x = refusal-at o.refused i r (rw says.refusals at k) in
              let z = listed-below _ (Memᴰ.append_right o.ranked (Memᴰ.append_right o.dominated (map-in (λ (y : Refused ℕ ChiSquare). y.item) o.refused x.0 x.1))) in
              let e = ap (λ (k : List Refusal). (get_or k i r).refused) says.refusals ∙ ap (λ (y : Refusal). y.refused) x.2 in
              omega (arith, z, e, long);
          against = λ i r k.
              let x = refusal-at o.refused i r (rw says.refusals at k) in
              let z = against-below x.0 x.1 in
              let e = ap (λ (k : List Refusal). (get_or k i r).kept) says.refusals ∙ ap (λ (y : Refusal). y.kept) x.2 in
              omega (arith, z, e, long);
        }

    shows : ShowsFixes gs d
    shows = record { shown = ap (carried_outcome (fix_at gs) (λ c. c)) (outcome-is d o says) ∙ sym shown-of-items; within = within }

-- of items that were given by their places
pub shows-each : {N : ℕ} {d : Decision N} (gs : List Fix) (l : List Item) → length l ≡ length gs → Each (λ i x. IsFix (fix_at gs i) x) l (length l) → Says d (among l) → ShowsFixes gs d
shows-each {N} {d} gs l long w says = shows gs l long w d says

-- ---- some fix is ranked

-- a subset has fewer tags
sound : Sound fix_relations
sound = record {
  standing = λ f. 0;
  size = λ f. tag_count f.record_bytes;
  over-is = λ f g e. absurd (false≢true e);
  dis_size = λ f g e. subset-fewer g.record_bytes f.record_bytes (and_left (subset_of g f) (not (agrees_of (agreement f g))) e);
  sub_size = λ f g e. subset-fewer f.record_bytes g.record_bytes (and_left (subset_of f g) (same f.inputs g.inputs) e);
}

pub some-first : (gs : List Fix) → 0 < length gs → (f : Fix) × (rest : List Fix) × ((shown gs).ranked ≡ f ∷ rest)
some-first [] h = absurd (omega arith)
some-first (g ∷ gs) h =
    let all = g ∷ gs in
    let e = ap (λ (t : Outcome Fix ChiSquare). t.ranked) (shown-is-decided all) in
    let q = some_ranked fix_relations all sound g (Memᴰ.head refl) in
    let r = go (decide fix_relations all).ranked q.0 q.1 in
    (r.0, r.1, e ∙ r.2)
  where
    go : (l : List Fix) (x : Fix) → Memᴰ x l → (f : Fix) × (rest : List Fix) × (l ≡ f ∷ rest)
    go [] x m = absurd (Memᴰ.not-nil m)
    go (y ∷ l) x m = (y, l, refl)

pub ranked-some : (gs : List Fix) → 0 < length gs → 0 < length (shown gs).ranked
ranked-some gs h = let r = some-first gs h in rw r.2 (omega arith)

-- whoever is alone is ranked, and nothing opposes it
pub alone-shown : (f : Fix) → shown (f ∷ []) ≡ record { ranked = f ∷ []; dominated = []; refused = [] }
unfolding shown sort insert flat_map
alone-shown f = rw (subset-irrefl f.record_bytes) refl

pub alone : (f : Fix) → (shown (f ∷ [])).ranked ≡ f ∷ []
alone f = ap (λ (o : Outcome Fix ChiSquare). o.ranked) (alone-shown f)

-- a decision that only ranks
ranking : {N : ℕ} (n : ℕ) (d : Decision N) → d.dominated.items ≡ [] → d.refusals.items ≡ [] → AllBelow n d.ranked.items → Within n d
ranking n d q r a = record {
  ranked = a;
  dominated = λ i k. absurd (omega (arith, k, ap (λ (z : List ℕ). length z) q));
  refused = λ i x k. absurd (omega (arith, k, ap (λ (z : List Refusal). length z) r));
  against = λ i x k. absurd (omega (arith, k, ap (λ (z : List Refusal). length z) r));
}

-- nothing opposes at most one
pub shows-few : {N : ℕ} (gs : List Fix) (d : Decision N) → length gs ≤ 1 → d.ranked.items ≡ up_to (length gs) → d.dominated.items ≡ [] → d.refusals.items ≡ [] → ShowsFixes gs d
unfolding shown sort flat_map count_from
shows-few [] d h p q r = record { shown = rw (p, q, r) refl; within = ranking 0 d q r (rw p (λ i k. absurd (omega (arith, k)))) }
shows-few (f ∷ []) d h p q r = record { shown = rw (p, q, r, alone-shown f) refl; within = ranking 1 d q r (rw p (λ i k. let z : i ≡ 0 = omega (arith, k) in rw z (omega arith))) }
shows-few (f ∷ (g ∷ gs)) d h p q r = absurd (omega arith)

-- ---- one of those that are listed

pub at-map : {A B : Type 0} (f : A → B) (l : List A) (i : ℕ) (x : A) (y : B) → i < length l → get_or (map f l) i y ≡ f (get_or l i x)
at-map f l i x y h = get_or-map f l i x y h

pub get_or-default : {A : Type 0} (l : List A) (i : ℕ) (x y : A) → i < length l → get_or l i x ≡ get_or l i y
get_or-default l i x y h = get_or_default l i x y h

module _ (gs : List Fix) where
  -- what an index in a list stands for; m is the list as it is lent
  module _ (l m : List ℕ) (e : m ≡ l) (i : ℕ) (b : AllBelow (length gs) l) (h : i < length (map (fix_at gs) l)) where
    pub named : (i < length m) × (get_or m i 0 < length gs)
    named = let k : i < length l = rw (length-map l (fix_at gs)) at h in (rw e k, rw e (b i k))

    pub named-is : (f : Fix) → f ≡ get_or gs (get_or m i 0) f → (x : Fix) → get_or (map (fix_at gs) l) i x ≡ f
    named-is f q x =
        at-map (fix_at gs) l i 0 x (rw e at named.0) ∙ ap (λ (k : List ℕ). fix_at gs (get_or k i 0)) (sym e) ∙ get_or-default gs (get_or m i 0) no_fix f named.1 ∙ sym q

  -- and in a refusal
  module _ {N : ℕ} (d : Decision N) (w : Within (length gs) d) (m : List Refusal) (e : m ≡ d.refusals.items) (i : ℕ) (h : i < length (shown_by gs d).refused) where
    here : i < length d.refusals.items
    here = rw (length-map d.refusals.items refused_by) at (rw (length-map (map refused_by d.refusals.items) (refused_of gs)) at h)

    pub refusal-here : i < length m
    refusal-here = rw e here

    pub refused-below : (r : Refusal) → (get_or m i r).refused < length gs
    refused-below r = rw e (w.refused i r here)

    pub kept-below : (r : Refusal) → (get_or m i r).kept < length gs
    kept-below r = rw e (w.against i r here)

    pub refusal-is : (r : Refusal) (x : Refused Fix ChiSquare) → get_or (shown_by gs d).refused i x ≡ refused_of gs (refused_by (get_or m i r))
    refusal-is r x =
        let l = d.refusals.items in
        at-map (refused_of gs) (map refused_by l) i (refused_by r) x (rw (length-map (map refused_by l) (refused_of gs)) at h)
        ∙ ap (refused_of gs) (at-map refused_by l i r (refused_by r) here)
        ∙ ap (λ (k : List Refusal). refused_of gs (refused_by (get_or k i r))) (sym e)

    pub item-is : (r : Refusal) (f : Fix) → f ≡ get_or gs (get_or m i r).refused f → (x : Refused Fix ChiSquare) → (get_or (shown_by gs d).refused i x).item ≡ f
    item-is r f q x = ap (λ (z : Refused Fix ChiSquare). z.item) (refusal-is r x) ∙ get_or-default gs _ no_fix f (refused-below r) ∙ sym q

    pub against-is : (r : Refusal) (f : Fix) → f ≡ get_or gs (get_or m i r).kept f → (x : Refused Fix ChiSquare) → (get_or (shown_by gs d).refused i x).against ≡ f
    against-is r f q x = ap (λ (z : Refused Fix ChiSquare). z.against) (refusal-is r x) ∙ get_or-default gs _ no_fix f (kept-below r) ∙ sym q
