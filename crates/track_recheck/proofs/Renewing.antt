-- What is decided again of the transmissions of a track, a track may hold: the tracks that a recheck and a conviction leave are valid.
use Prim.Native.Nat.{ℕ, ◌-◌, ◌≤◌}
use mathlib.Core.Path.{◌≡◌, refl, sym, ap, ap₂, ◌∙◌, subst}
use mathlib.Core.Bool.{Bool, true, false, ◌&&◌, false≢true}
use mathlib.Core.List.Memᴰ
use mathlib.Core.List.{List, [], ◌∷◌, ◌++◌, map, append-nil, Memᴰ}
use native.Mathlib.Omega.{arith}
use lib.Dec.{eqb}
use lib.ListN.{length, take, drop, length-drop, take-append-drop}
use lib.Seq.{take_all}
use borrow.Author.Tests.{not-true}
use Rattle.std.specs.List.{filter, list_any}
use Rattle.lists.specs.Lists.{sort}
use Rattle.lists.proofs.Bools.{by, or, and_right}
use Rattle.lists.proofs.Lists.{any-in, filter-in, sort-in}
use Rattle.octets.specs.Masks.{bit, with_bit, without_bit}
use Rattle.octets.proofs.Zeros.{or-zero}
use Rattle.tables.specs.Places.{ascending, keep_places}
use Rattle.tables.proofs.Keeping.{kept-length, kept-wide, kept-ascending, kept-all}
use Rattle.tables.proofs.Tables.{wide}
use Rattle.models.specs.Summary.{summary_size}
use Rattle.engines.specs.Limits.{max_engine}
use Rattle.models.specs.Summaries.{summary_formed, is_of_another, no_value}
use Rattle.engines.proofs.Masks.{apart, disjoint, without-apart, with-small, without-small}
use Rattle.models.proofs.Summarized.{all_of, none_more, kept-summary}
use Rattle.fixes.specs.Fix.{Fix}
use Rattle.track_transmission.specs.Held.{HeldTransmission, fix_of, held_in, is_of}
use Rattle.track_transmission.proofs.Encoding.{ValidFix}
use Rattle.track_normalize.specs.Normal.{signed_by, normalized}
use Rattle.track_normalize.specs.Signed.{is_signed}
use Rattle.track_normalize.proofs.Claimed.{kept_in, signers-united}
use Rattle.track_normalize.proofs.Validity.{Holdable, all-distinct, kept-holdable, normalized-valid, normalized-bounded}
use Rattle.track_arrange.proofs.Tables.{drop-in}
use Rattle.track_arrange.specs.Arranged.{max_transmissions, is_nonempty, has_fix, older_than, arranged}
use Rattle.track_memory.specs.Layout.{pair_size}
use Rattle.track_memory.specs.Track.{Track}
use Rattle.track_memory.proofs.Blocks.{Upheld, Kept, Held, of_map}
use Rattle.track_memory.proofs.Valid.{Valid}
use Rattle.track_recheck.specs.Recheck.{stands, has_stale, standing, recheck, unsigned, without_engine, strike_engine}

-- ---- fixes decided again

-- a fix that a track may hold where c are convicted
pub record Fit (c : ℕ) (f : Fix) : Type 0 where
  pub valid : ValidFix f
  pub upheld : Upheld c f

module _ (c : ℕ) (fs : List Fix) (u : (f : Fix) → Memᴰ f fs → Fit c f) where
  holdable : (f : Fix) → Memᴰ f fs → Holdable f
  holdable f m = record { valid = (u f m).valid; form = (u f m).upheld.formed }

  both : (f g : Fix) → eqb f.signers 0 ≡ false → eqb g.signers 0 ≡ false → eqb (signed_by f g).signers 0 ≡ false
  both f g p q = or-zero g.signers f.signers ∙ rw q refl

  -- an engine that signed one signed one of those given
  kept-apart : (g : Fix) → Memᴰ g (held_in (normalized fs)) → (k : ℕ) → (bit g.signers k && bit c k) ≡ false
  kept-apart g m k =
      by (bit g.signers k)
      (λ t. rw t (
      let r = any-in (λ f. is_of g f && bit f.signers k) fs (sym (signers-united fs g m k) ∙ t) in
      let z : (bit r.0.signers k && bit c k) ≡ false = apart r.0.signers c k (u r.0 r.1).upheld.free in
      sym (rw (and_right (is_of g r.0) (bit r.0.signers k) r.2) refl) ∙ z))
      (λ t. rw t refl)

  pub normalized-kept : Kept c (normalized fs)
  normalized-kept = record {
    valid = normalized-valid fs holdable;
    bounded = normalized-bounded fs;
    held = λ g m. record {
      formed = (kept-holdable fs holdable g m).form;
      signed = all-distinct (λ f. eqb f.signers 0 ≡ false) both fs (λ f i. (u f i).upheld.signed) g (kept_in fs g m);
      free = disjoint g.signers c (kept-apart g m);
    };
  }

-- the fixes that a transmission holds
pub held-fit : (c : ℕ) (t : HeldTransmission) → Kept c t → (f : Fix) → Memᴰ f (held_in t) → Fit c f
held-fit c t k f m = record {
  valid = or (Memᴰ.append_cases t.fixes m) (λ i. k.valid.fixes f i) (λ i. let r = Memᴰ.of_map fix_of t.refused i in subst ValidFix r.2 (k.valid.refused r.0 r.1).fix);
  upheld = k.held f m;
}

pub standing-kept : (c : ℕ) (ss : List (List ℕ)) (t : HeldTransmission) → Kept c t → Kept c (standing ss t)
standing-kept c ss t k = normalized-kept c (filter (stands ss) (held_in t)) (λ f m. held-fit c t k f (filter-in (stands ss) (held_in t) f m).0)

pub without-kept : (c e : ℕ) (t : HeldTransmission) → Kept c t → Kept (with_bit c e) (without_engine e t)
without-kept c e t k =
    normalized-kept (with_bit c e) (filter is_signed (map (unsigned e) (held_in t)))
    (λ g m.
    let i = filter-in is_signed (map (unsigned e) (held_in t)) g m in
    let r = Memᴰ.of_map (unsigned e) (held_in t) i.0 in
    let f = held-fit c t k r.0 r.1 in
    subst (Fit (with_bit c e)) r.2 (fit r.0 f (ap is_signed r.2 ∙ i.1)))
  where
    fit : (f : Fix) → Fit c f → is_signed (unsigned e f) ≡ true → Fit (with_bit c e) (unsigned e f)
    fit f u s = record {
      valid = record {
        record-size = u.valid.record-size;
        inputs-size = u.valid.inputs-size;
        signed = without-small f.signers e u.valid.signed;
        identified = u.valid.identified;
      };
      upheld = record {
        formed = u.upheld.formed;
        signed = not-true (eqb (without_bit f.signers e) 0) s;
        free = without-apart f.signers c e u.upheld.free;
      };
    }

-- ---- transmissions arranged

pub arranged-from : (ts : List HeldTransmission) (t : HeldTransmission) → Memᴰ t (arranged ts) → Memᴰ t ts × (has_fix t ≡ true)
unfolding arranged
arranged-from ts t m =
    let l = sort older_than (filter has_fix ts) in
    filter-in has_fix ts t (sort-in older_than (filter has_fix ts) t (drop-in l (length l - max_transmissions) t m))

some-fixes : (t : HeldTransmission) → has_fix t ≡ true → 1 ≤ length t.fixes
some-fixes t h = go t.fixes h
  where
    go : (fs : List Fix) → is_nonempty fs ≡ true → 1 ≤ length fs
    go [] h = absurd (false≢true h)
    go (f ∷ fs) h = omega arith

pub arranged-held : (c : ℕ) (ts : List HeldTransmission) → ((t : HeldTransmission) → Memᴰ t ts → Kept c t) → (t : HeldTransmission) → Memᴰ t (arranged ts) → Held c t
arranged-held c ts k t m = let r = arranged-from ts t m in record { kept = k t r.0; some = some-fixes t r.1 }

pub arranged-at-most : (ts : List HeldTransmission) → length (arranged ts) ≤ max_transmissions
unfolding arranged
arranged-at-most ts = rw length-drop (omega arith)

-- ---- summaries

abbrev itself : List ℕ → List ℕ
itself v = v

-- those that stay are as they were, whatever of them is their key
kept_whole : (test : List ℕ → Bool) (ps : List (List ℕ)) → wide summary_size ps → keep_places summary_size test no_value ps ≡ keep_places pair_size test itself ps
unfolding keep_places
kept_whole test [] w = refl
kept_whole test (p ∷ ps) w =
    let r = kept_whole test ps w.1 in
    let e : take summary_size p ++ [] ≡ take pair_size p ++ drop pair_size p = append-nil (take summary_size p) ∙ take_all summary_size p (omega (arith, w.0)) ∙ sym (take-append-drop pair_size p) in
    by (test p) (λ t. rw t (ap₂ ◌∷◌ e r)) (λ t. rw t r)

-- ---- tracks

pub recheck-valid : (s : Track) → Valid s → Valid (recheck s)
unfolding recheck
recheck-valid s v =
    by (list_any (has_stale s.summaries) s.transmissions)
    (λ t. rw t (record {
      small = v.small;
      counted = v.counted;
      few_summaries = v.few_summaries;
      few = arranged-at-most (map (standing s.summaries) s.transmissions);
      summaries-wide = v.summaries-wide;
      summaries-ascend = v.summaries-ascend;
      summaries-formed = v.summaries-formed;
      held = arranged-held s.convicted (map (standing s.summaries) s.transmissions) (of_map (standing s.summaries) (Kept s.convicted) s.transmissions (λ t i. standing-kept s.convicted s.summaries t (v.held t i).kept));
    }))
    (λ t. rw t v)

pub strike-valid : (s : Track) → Valid s → (e : ℕ) → e ≤ max_engine → Valid (strike_engine e s)
unfolding strike_engine
strike-valid s v e h = record {
  small = with-small s.convicted e h v.small;
  counted = v.counted;
  few_summaries = let k = kept-length summary_size (is_of_another e) no_value s.summaries in omega (arith, k, v.few_summaries);
  few = arranged-at-most (map (without_engine e) s.transmissions);
  summaries-wide = kept-wide summary_size (is_of_another e) no_value summary_size all_of none_more s.summaries v.summaries-wide;
  summaries-ascend = ap (ascending pair_size) (kept_whole (is_of_another e) s.summaries v.summaries-wide) ∙ kept-ascending pair_size (is_of_another e) itself summary_size (omega arith) (λ l q. q) s.summaries v.summaries-wide v.summaries-ascend;
  summaries-formed = kept-all summary_size (is_of_another e) no_value (summary_formed s.convicted) (summary_formed (with_bit s.convicted e)) (kept-summary s.convicted e) s.summaries v.summaries-formed;
  held = arranged-held (with_bit s.convicted e) (map (without_engine e) s.transmissions) (of_map (without_engine e) (Kept (with_bit s.convicted e)) s.transmissions (λ t i. without-kept s.convicted e t (v.held t i).kept));
}
