-- What a merge leaves of the transmissions of a track, a track may hold.
use Rattle.std.proofs.Common.{◌≡◌, ℕ, suc, ◌^◌, ◌<◌, ◌≤◌, true, false, cond, List, [], ◌∷◌, ◌++◌, map, length, sym, refl, ap, ◌∙◌, subst, arith}
use mathlib.Core.List.Memᴰ
use mathlib.Core.List.{Memᴰ}
use lib.Bits.{or_lt}
use lib.ListN.{length-map}
use Rattle.std.specs.List.{filter, list_any}
use Rattle.lists.proofs.Bools.{by, or}
use Rattle.lists.proofs.Lists.{filter-in}
use Rattle.octets.specs.Masks.{bit}
use Rattle.octets.proofs.Zeros.{or-zero}
use Rattle.record.specs.Formed as R
use Rattle.models.proofs.Sets.{cited-length}
use Rattle.engines.specs.Limits.{max_engine}
use Rattle.engines.proofs.Masks.{or_apart, with-apart, nothing-apart, with-some, with-small}
use Rattle.signed_records.proofs.Signatures.{record-length}
use Rattle.fixes.specs.Fix.{Fix}
use Rattle.decision_items.specs.Layout.{hash_size}
use Rattle.track_transmission.specs.Layout.{max_standing, max_refused}
use Rattle.track_transmission.specs.Held.{RefusedFix, HeldTransmission, fix_of, held_in, is_of, tied_to}
use Rattle.track_normalize.specs.Normal.{signed_by, sign_first, normalized}
use Rattle.track_normalize.specs.Joining.{with_fix, upholds}
use Rattle.track_normalize.proofs.Distinct.{sign-length}
use Rattle.track_arrange.specs.Arranged.{max_transmissions}
use Rattle.track_merge.specs.Merged.{opened, in_place, sign_refused, sign_in, joined, merged_into, merged}
use Rattle.track_memory.specs.Track.{Track}
use Rattle.track_memory.proofs.Blocks.{Upheld, Kept, Held, of_map}
use Rattle.track_memory.proofs.Valid.{Valid}
use Rattle.track_recheck.proofs.Renewing.{Fit, normalized-kept, held-fit, arranged-held, arranged-at-most}
use Rattle.track.specs.Track.{reported_fix, stepped}

-- ---- a fix that gains signers

fit-signed : (c : ℕ) (f g : Fix) → Fit c f → Fit c g → Fit c (signed_by f g)
fit-signed c f g p q = record {
  valid = record {
    record-size = q.valid.record-size;
    inputs-size = q.valid.inputs-size;
    signed = or_lt 32 g.signers f.signers q.valid.signed p.valid.signed;
    identified = q.valid.identified;
  };
  upheld = record {
    formed = q.upheld.formed;
    signed = or-zero g.signers f.signers ∙ rw q.upheld.signed refl;
    free = or_apart g.signers f.signers c q.upheld.free p.upheld.free;
  };
}

module _ (c : ℕ) (f : Fix) (p : Fit c f) where
  sign-fit : (ks : List Fix) → ((g : Fix) → Memᴰ g ks → Fit c g) → (g : Fix) → Memᴰ g (sign_first f ks) → Fit c g
  unfolding sign_first
  sign-fit [] v = v
  sign-fit (g ∷ ks) v =
      let q = v g (Memᴰ.head refl) in
      by (is_of f g)
      (λ t. rw t (λ x m. or (Memᴰ.cases_cons m) (λ e. subst (Fit c) (sym e) (fit-signed c f g p q)) (λ k. v x (Memᴰ.tail k))))
      (λ t. rw t (λ x m. or (Memᴰ.cases_cons m) (λ e. subst (Fit c) (sym e) q) (λ k. sign-fit ks (λ y n. v y (Memᴰ.tail n)) x k)))

  record RefusedFit (x : RefusedFix) : Type 0 where
    fit : Fit c x.fix
    against : length x.against ≡ hash_size
    bounded : x.chi2 < 2 ^ 64

  sign-refused-fit : (xs : List RefusedFix) → ((x : RefusedFix) → Memᴰ x xs → RefusedFit x) → (x : RefusedFix) → Memᴰ x (sign_refused f xs) → RefusedFit x
  unfolding sign_refused
  sign-refused-fit [] v = v
  sign-refused-fit (y ∷ xs) v =
      let q = v y (Memᴰ.head refl) in
      by (is_of f y.fix)
      (λ t. rw t (λ x m. or (Memᴰ.cases_cons m) (λ e. subst RefusedFit (sym e) (record { fit = fit-signed c f y.fix p q.fit; against = q.against; bounded = q.bounded })) (λ k. v x (Memᴰ.tail k))))
      (λ t. rw t (λ x m. or (Memᴰ.cases_cons m) (λ e. subst RefusedFit (sym e) q) (λ k. sign-refused-fit xs (λ z n. v z (Memᴰ.tail n)) x k)))

  sign-refused-length : (xs : List RefusedFix) → length (sign_refused f xs) ≡ length xs
  unfolding sign_refused
  sign-refused-length [] = refl
  sign-refused-length (x ∷ xs) = by (is_of f x.fix) (λ t. rw t refl) (λ t. rw t (ap suc (sign-refused-length xs)))

  -- ---- a transmission, by what holds of its fixes and its refused

  of_parts : (t : HeldTransmission) → 1 ≤ length t.fixes → length t.fixes ≤ max_standing → length t.refused ≤ max_refused
      → ((g : Fix) → Memᴰ g t.fixes → Fit c g) → ((x : RefusedFix) → Memᴰ x t.refused → RefusedFit x) → Held c t
  of_parts t s a b u v = record {
    kept = record {
      valid = record { few = a; few_refused = b; fixes = λ g m. (u g m).valid; refused = λ x m. record { fix = (v x m).fit.valid; against_size = (v x m).against } };
      bounded = λ x m. (v x m).bounded;
      held = λ g m. or (Memᴰ.append_cases t.fixes m) (λ i. (u g i).upheld) (λ i. of_map fix_of (Upheld c) t.refused (λ x n. (v x n).fit.upheld) g i);
    };
    some = s;
  }

  parts-fixes : (t : HeldTransmission) → Kept c t → (g : Fix) → Memᴰ g t.fixes → Fit c g
  parts-fixes t k g m = held-fit c t k g (Memᴰ.append_left (map fix_of t.refused) m)

  parts-refused : (t : HeldTransmission) → Kept c t → (x : RefusedFix) → Memᴰ x t.refused → RefusedFit x
  parts-refused t k x m = record {
    fit = held-fit c t k x.fix (Memᴰ.append_right t.fixes (Memᴰ.map fix_of m));
    against = (k.valid.refused x m).against_size;
    bounded = k.bounded x m;
  }

  sign-held : (t : HeldTransmission) → Held c t → Held c (sign_in f t)
  sign-held t h =
      by (upholds t f)
      (λ u. rw u (of_parts (record { fixes = sign_first f t.fixes; refused = t.refused }) (rw (sign-length f t.fixes) h.some) (rw (sign-length f t.fixes) h.kept.valid.few) h.kept.valid.few_refused
      (sign-fit t.fixes (parts-fixes t h.kept)) (parts-refused t h.kept)))
      (λ u. rw u (of_parts (record { fixes = t.fixes; refused = sign_refused f t.refused }) h.some h.kept.valid.few (rw (sign-refused-length t.refused) h.kept.valid.few_refused)
      (parts-fixes t h.kept) (sign-refused-fit t.refused (parts-refused t h.kept))))

  join_kept : (t : HeldTransmission) → Held c t → Kept c (with_fix f t)
  join_kept t h =
      normalized-kept c (t.fixes ++ (f ∷ map fix_of t.refused))
      (λ g m. or (Memᴰ.append_cases t.fixes m) (parts-fixes t h.kept g)
      (λ i. or (Memᴰ.cases_cons i) (λ e. subst (Fit c) (sym e) p) (λ k. held-fit c t h.kept g (Memᴰ.append_right t.fixes k))))

  alone-kept : Kept c (normalized (f ∷ []))
  alone-kept = normalized-kept c (f ∷ []) (λ g m. subst (Fit c) (sym (Memᴰ.eq_of_singleton m)) p)

  -- ---- the transmissions

  pub record Whole (ts : List HeldTransmission) : Type 0 where
    pub few : length ts ≤ max_transmissions
    pub held : (t : HeldTransmission) → Memᴰ t ts → Held c t

  module _ (ts : List HeldTransmission) (w : Whole ts) where
    opened-whole : Whole (opened f ts).left
    unfolding opened
    opened-whole = record {
      few = arranged-at-most (ts ++ (normalized (f ∷ []) ∷ []));
      held = arranged-held c (ts ++ (normalized (f ∷ []) ∷ [])) (λ t m. or (Memᴰ.append_cases ts m) (λ i. (w.held t i).kept) (λ i. subst (Kept c) (sym (Memᴰ.eq_of_singleton i)) alone-kept));
    }

    all-in-place : (P : HeldTransmission → Type 0) (u : HeldTransmission) → P u → ((t : HeldTransmission) → Memᴰ t ts → P t) → (t : HeldTransmission) → Memᴰ t (in_place f u ts) → P t
    all-in-place P u pu v = of_map (λ t. cond (tied_to f t) u t) P ts (λ t m. by (tied_to f t) (λ e. rw e pu) (λ e. rw e (v t m)))

    joined-whole : (t : HeldTransmission) → Memᴰ t ts → Whole (joined f t ts).left
    unfolding joined
    joined-whole t m =
        by (list_any (is_of f) (held_in t))
        (λ e. rw e (record { few = rw (length-map ts (λ x. cond (tied_to f x) (sign_in f t) x)) w.few; held = all-in-place (Held c) (sign_in f t) (sign-held t (w.held t m)) w.held }))
        (λ e. rw e (record {
          few = arranged-at-most (in_place f (with_fix f t) ts);
          held = arranged-held c (in_place f (with_fix f t) ts) (all-in-place (Kept c) (with_fix f t) (join_kept t (w.held t m)) (λ x i. (w.held x i).kept));
        }))

    into-whole : (us : List HeldTransmission) → ((t : HeldTransmission) → Memᴰ t us → Memᴰ t ts) → Whole (merged_into f ts us).left
    into-whole [] v = opened-whole
    into-whole (t ∷ []) v = joined-whole t (v t (Memᴰ.head refl))
    into-whole (t ∷ (u ∷ us)) v = opened-whole

    pub merged-whole : (length (merged f ts).left ≤ max_transmissions) × ((t : HeldTransmission) → Memᴰ t (merged f ts).left → Held c t)
    unfolding merged
    merged-whole = let r = into-whole (filter (tied_to f) ts) (λ t m. (filter-in (tied_to f) ts t m).0) in (r.few, r.held)

-- ---- a fix that is reported

-- by an engine that is not convicted
pub reported-fit : (e : ℕ) (r : List ℕ) (s : Track) → e ≤ max_engine → R.well_formed r ≡ true → bit s.convicted e ≡ false → Fit s.convicted (reported_fix e r s)
reported-fit e r s h w z = record {
  valid = record {
    record-size = record-length r w;
    inputs-size = cited-length s.summaries r;
    signed = with-small 0 e h (omega arith);
    identified = refl;
  };
  upheld = record { formed = w; signed = with-some 0 e; free = with-apart 0 s.convicted e (nothing-apart s.convicted) z };
}

pub stepped-valid : (s : Track) → Valid s → (e : ℕ) (r : List ℕ) → e ≤ max_engine → R.well_formed r ≡ true → bit s.convicted e ≡ false → Valid (stepped (merged (reported_fix e r s) s.transmissions) s)
stepped-valid s v e r h w z =
    let m = merged-whole s.convicted (reported_fix e r s) (reported-fit e r s h w z) s.transmissions (record { few = v.few; held = v.held }) in
    record {
      small = v.small;
      counted = omega arith;
      few_summaries = v.few_summaries;
      few = m.0;
      summaries-wide = v.summaries-wide;
      summaries-ascend = v.summaries-ascend;
      summaries-formed = v.summaries-formed;
      held = m.1;
    }

-- ---- at most eight are left, whatever the fix

module _ (f : Fix) (ts : List HeldTransmission) (few : length ts ≤ max_transmissions) where
  opened-few : length (opened f ts).left ≤ max_transmissions
  unfolding opened
  opened-few = arranged-at-most (ts ++ (normalized (f ∷ []) ∷ []))

  joined-few : (t : HeldTransmission) → length (joined f t ts).left ≤ max_transmissions
  unfolding joined
  joined-few t =
      by (list_any (is_of f) (held_in t))
      (λ e. rw e (rw (length-map ts (λ x. cond (tied_to f x) (sign_in f t) x)) few))
      (λ e. rw e (arranged-at-most (in_place f (with_fix f t) ts)))

  into_few : (us : List HeldTransmission) → length (merged_into f ts us).left ≤ max_transmissions
  into_few [] = opened-few
  into_few (t ∷ []) = joined-few t
  into_few (t ∷ (u ∷ us)) = opened-few

  pub merged-few : length (merged f ts).left ≤ max_transmissions
  unfolding merged
  merged-few = into_few (filter (tied_to f) ts)
