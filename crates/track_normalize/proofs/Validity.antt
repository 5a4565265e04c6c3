-- What is kept of fixes that a track can hold, a track can hold: its bytes are sound, and hold it.
use Prim.Native.Nat.{ℕ, ◌^◌, ◌<◌}
use mathlib.Core.Path.{◌≡◌, refl, sym, ap, ap₂, ◌∙◌, subst}
use mathlib.Core.Bool.{Bool, true}
use mathlib.Core.List.Memᴰ
use mathlib.Core.List.{List, [], ◌∷◌, ◌++◌, map, map-append, map-map, append-nil, Memᴰ}
use native.Mathlib.Omega.{arith}
use lib.Bits.{or_lt}
use lib.ListN.{length, get_or, take, drop}
use lib.Seq.{take_at}
use Rattle.octets.specs.Bytes.{Bytes}
use Rattle.octets.proofs.Numbers.{bytes_take, bytes_drop}
use Rattle.std.specs.List.{list_all, list_any}
use Rattle.lists.proofs.Bools.{by, or, and_both}
use Rattle.arithmetic.specs.Bits.{stored_bits}
use Rattle.arithmetic.proofs.Outcomes.{stored-bounded}
use Rattle.record.specs.Formed.{well_formed}
use Rattle.models.specs.Identity.{set_hash}
use Rattle.models.proofs.Sets.{identity-length}
use Rattle.decision_rule.specs.Outcome.{Refused}
use Rattle.decision.proofs.Laws as D
use Rattle.decision.proofs.Laws.{refused-names}
use Rattle.fixes.specs.Fix.{Fix}
use Rattle.fixes.specs.Shown.{Transmission, shown}
use Rattle.fixes.specs.Claims.{fix_relations}
use Rattle.fixes.proofs.Indexed.{in-at}
use Rattle.fixes.proofs.Plainly.{shown-is-decided}
use Rattle.track_transmission.specs.Layout.{max_standing, fix_size}
use Rattle.track_transmission.specs.Held.{RefusedFix, HeldTransmission, fix_of, held_in, is_of}
use Rattle.track_transmission.specs.Bytes.{record_in, fix_in, fix_bytes, refused_bytes, transmission_in, transmission_bytes}
use Rattle.track_transmission.specs.Parts.{held_places, held_count, Sound, Steady, held_place}
use Rattle.track_transmission.proofs.Encoding.{ValidFix, ValidRefused, Valid, Bounded, fix-length, fix-back, bytes-length, fix-places-back, refused-places-back, decode-encode, fix-valid}
use Rattle.track_transmission.proofs.Holding.{held-length, held_at, held-size, held-formed, held-are}
use Rattle.track_normalize.proofs.Lowest.{front-in}
use Rattle.track_normalize.specs.Normal.{signed_by, sign_first, gather, gather_all, distinct, refused_fix, normalized}
use Rattle.track_normalize.proofs.Distinct.{gather-held, gather-new}
use Rattle.track_normalize.proofs.Claimed.{low-in, ranked-in, refused-in, kept_in, few-kept}
use Rattle.arithmetic.specs.declared.standing.ChiSquare.{ChiSquare}

pub map_same : {A B : Type 0} (f g : A → B) (l : List A) → ((x : A) → Memᴰ x l → f x ≡ g x) → map f l ≡ map g l
map_same f g [] e = refl
map_same f g (x ∷ l) e = ap₂ ◌∷◌ (e x (Memᴰ.head refl)) (map_same f g l (λ y m. e y (Memᴰ.tail m)))

-- ---- what holds of all that are given holds of those that are gathered

module _ (P : Fix → Type 0) (join : (f g : Fix) → P f → P g → P (signed_by f g)) where
  abbrev All : List Fix → Type 0
  All fs = (f : Fix) → Memᴰ f fs → P f

  sign-all : (f : Fix) → P f → (ks : List Fix) → All ks → All (sign_first f ks)
  unfolding sign_first
  sign-all f p [] v = v
  sign-all f p (g ∷ ks) v =
      let q = v g (Memᴰ.head refl) in
      by (is_of f g)
      (λ t. rw t (λ x m. or (Memᴰ.cases_cons m) (λ e. subst P (sym e) (join f g p q)) (λ k. v x (Memᴰ.tail k))))
      (λ t. rw t (λ x m. or (Memᴰ.cases_cons m) (λ e. subst P (sym e) q) (λ k. sign-all f p ks (λ y n. v y (Memᴰ.tail n)) x k)))

  gather-all : (f : Fix) → P f → (ks : List Fix) → All ks → All (gather ks f)
  gather-all f p ks v =
      by (list_any (is_of f) ks)
      (λ t. subst All (sym (gather-held f ks t)) (sign-all f p ks v))
      (λ t. subst All (sym (gather-new f ks t)) (λ x m. or (Memᴰ.append_cases ks m) (λ k. v x k) (λ k. subst P (sym (Memᴰ.eq_of_singleton k)) p)))

  pub all-gathered : (ks fs : List Fix) → All ks → All fs → All (gather_all ks fs)
  unfolding gather_all
  all-gathered ks [] v w = v
  all-gathered ks (f ∷ fs) v w = all-gathered (gather ks f) fs (gather-all f (w f (Memᴰ.head refl)) ks v) (λ x m. w x (Memᴰ.tail m))

  pub all-distinct : (fs : List Fix) → All fs → All (distinct fs)
  all-distinct fs w = all-gathered [] fs (λ x m. absurd (Memᴰ.not-nil m)) w

-- ---- a fix that a track can hold

pub record Holdable (f : Fix) : Type 0 where
  pub valid : ValidFix f
  pub form : well_formed f.record_bytes ≡ true

holdable-both : (f g : Fix) → Holdable f → Holdable g → Holdable (signed_by f g)
holdable-both f g p q = record {
  valid = record {
    record-size = q.valid.record-size;
    inputs-size = q.valid.inputs-size;
    signed = or_lt 32 g.signers f.signers q.valid.signed p.valid.signed;
    identified = q.valid.identified;
  };
  form = q.form;
}

-- that which bytes hold is one
pub holdable-in : (p : List ℕ) → Bytes p → length p ≡ fix_size → well_formed (record_in p) ≡ true → Holdable (fix_in p)
holdable-in p b h e = record { valid = fix-valid p b (omega (arith, h)); form = e }

-- ---- what is kept

module _ (fs : List Fix) where
  abbrev u : HeldTransmission
  u = normalized fs

  abbrev o : Transmission
  o = shown (distinct fs)

  pub named : (y : Refused Fix ChiSquare) → Memᴰ y o.refused → D.Named fix_relations (distinct fs) y
  named y m = refused-names fix_relations (distinct fs) y (subst (λ (x : Transmission). Memᴰ y x.refused) (shown-is-decided (distinct fs)) m)

  against-in : (y : Refused Fix ChiSquare) → D.Named fix_relations (distinct fs) y → Memᴰ y.against (distinct fs)
  against-in y (D.opponent p c k d v) = k
  against-in y (D.successor p c k d v q) = k

  bounded-by : (y : Refused Fix ChiSquare) → D.Named fix_relations (distinct fs) y → stored_bits y.chi2 < 2 ^ 64
  bounded-by y (D.opponent p c k d v) = rw c (stored-bounded _ _)
  bounded-by y (D.successor p c k d v q) = rw c (stored-bounded _ _)

  pub normalized-bounded : Bounded (normalized fs)
  unfolding normalized
  normalized-bounded x m =
      let r = Memᴰ.of_map refused_fix _ m in
      subst (λ (z : RefusedFix). z.chi2 < 2 ^ 64) r.2 (bounded-by r.0 (named r.0 (low-in fs r.0 r.1)))

  module _ (w : (f : Fix) → Memᴰ f fs → Holdable f) where
    each : (g : Fix) → Memᴰ g (distinct fs) → Holdable g
    each = all-distinct Holdable holdable-both fs w

    pub kept-holdable : (g : Fix) → Memᴰ g (held_in (normalized fs)) → Holdable g
    kept-holdable g m = each g (kept_in fs g m)

    pub normalized-valid : Valid (normalized fs)
    unfolding normalized
    normalized-valid = record {
      few = (few-kept fs).0;
      few_refused = (few-kept fs).1;
      fixes = λ g m. (each g (ranked-in fs g (front-in max_standing o.ranked m))).valid;
      refused = λ x m.
          let r = Memᴰ.of_map refused_fix _ m in
          let y = r.0 in
          let k = low-in fs y r.1 in
          let a = (each y.against (against-in y (named y k))).valid in
          subst ValidRefused r.2
          (record {
            fix = (each y.item (refused-in fs y k)).valid;
            against_size = ap length a.identified ∙ identity-length (set_hash y.against.record_bytes) y.against.inputs;
          });
    }

-- ---- the places in its bytes

all-places : (test : List ℕ → Bool) (l : List Fix) → ((f : Fix) → Memᴰ f l → test (fix_bytes f) ≡ true) → list_all test (map fix_bytes l) ≡ true
all-places test [] e = refl
all-places test (f ∷ l) e = and_both (test (fix_bytes f)) (list_all test (map fix_bytes l)) (e f (Memᴰ.head refl)) (all-places test l (λ x m. e x (Memᴰ.tail m)))

module _ (u : HeldTransmission) (v : Valid u) where
  held_back : held_places (transmission_bytes u) ≡ map fix_bytes (held_in u)
  held_back =
      ap₂ (λ (x y : List (List ℕ)). x ++ map (take fix_size) y) (fix-places-back u v) (refused-places-back u v)
      ∙ ap (λ (x : List (List ℕ)). map fix_bytes u.fixes ++ x)
      (map-map (take fix_size) refused_bytes u.refused
      ∙ map_same (λ x. take fix_size (refused_bytes x)) (λ x. fix_bytes (fix_of x)) u.refused
      (λ x m. take_at (fix_bytes x.fix) _ fix_size (fix-length x.fix (v.refused x m).fix))
      ∙ sym (map-map fix_bytes fix_of u.refused))
      ∙ sym (map-append fix_bytes u.fixes (map fix_of u.refused))

  held-valid : (f : Fix) → Memᴰ f (held_in u) → ValidFix f
  held-valid f m =
      or (Memᴰ.append_cases u.fixes m)
      (λ k. v.fixes f k)
      (λ k. let r = Memᴰ.of_map fix_of u.refused k in subst ValidFix r.2 (v.refused r.0 r.1).fix)

  -- a test of what the places hold
  pub held-pass : (test : Fix → Bool) → ((f : Fix) → Memᴰ f (held_in u) → test f ≡ true) → list_all (λ p. test (fix_in p)) (held_places (transmission_bytes u)) ≡ true
  held-pass test e =
      ap (list_all (λ p. test (fix_in p))) held_back
      ∙ all-places (λ p. test (fix_in p)) (held_in u)
      (λ f m. ap test (ap fix_in (sym (append-nil (fix_bytes f))) ∙ fix-back f (held-valid f m) []) ∙ e f m)

module _ (fs : List Fix) (w : (f : Fix) → Memᴰ f fs → Holdable f) where
  pub normalized-sound : Sound (transmission_bytes (normalized fs))
  unfolding transmission_bytes
  normalized-sound = record {
    size = bytes-length (normalized fs) (normalized-valid fs w);
    few = (few-kept fs).0;
    few_refused = (few-kept fs).1;
    formed = held-pass (normalized fs) (normalized-valid fs w) (λ f. well_formed f.record_bytes) (λ f m. (kept-holdable fs w f m).form);
  }

  pub normalized-read : transmission_in (transmission_bytes (normalized fs)) ≡ normalized fs
  normalized-read = decode-encode (normalized fs) (normalized-valid fs w) (normalized-bounded fs)

  pub normalized-steady : Steady (transmission_bytes (normalized fs))
  normalized-steady = record { sound = normalized-sound; same_bytes = ap transmission_bytes normalized-read }

-- ---- the fixes that sound bytes hold

module _ (b : List ℕ) (bytes : Bytes b) (s : Sound b) where
  pub held-holdable : (f : Fix) → Memᴰ f (held_in (transmission_in b)) → Holdable f
  held-holdable f m =
      let r = Memᴰ.of_map fix_in (held_places b) (subst (λ (l : List Fix). Memᴰ f l) (sym (held-are b)) m) in
      let i = in-at [] (held_places b) r.0 r.1 in
      let k = i.0 in
      let h : k < held_count b = omega (arith, i.1, held-length b) in
      let p = get_or (held_places b) k [] in
      let c : Bytes p = subst Bytes (held_at b s k h) (bytes_take fix_size (drop (held_place b k) b) (bytes_drop (held_place b k) b bytes)) in
      subst Holdable (ap fix_in i.2 ∙ r.2) (holdable-in p c (held-size b s k h) (held-formed b s k h))

  -- and all with a further one
  pub with-holdable : (f : Fix) → Holdable f → (g : Fix) → Memᴰ g ((transmission_in b).fixes ++ (f ∷ map fix_of (transmission_in b).refused)) → Holdable g
  with-holdable f h g m =
      or (Memᴰ.append_cases (transmission_in b).fixes m)
      (λ k. held-holdable g (Memᴰ.append_left (map fix_of (transmission_in b).refused) k))
      (λ k. or (Memᴰ.cases_cons k) (λ e. subst Holdable (sym e) h) (λ q. held-holdable g (Memᴰ.append_right (transmission_in b).fixes q)))
