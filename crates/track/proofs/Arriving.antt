-- Which fixes may still wait where a summary was stored, and where an engine was convicted.
use Rattle.std.proofs.Common.{◌≡◌, ℕ, Bool, true, false, not, ◌++◌, eqb, leb, List, [], ◌∷◌, take, drop, sym, refl, ap, ◌∙◌, arith, append-nil, take-append-drop}
use lib.Seq.{get_or-take}
use borrow.Author.Tests.{eqb-true, eq-eqb}
use Rattle.std.specs.List.{filter, list_all, list_any}
use Rattle.lists.proofs.Bools.{by, and_left, and_right, and_both, not_t, same_test}
use Rattle.octets.specs.Masks.{bit, with_bit}
use Rattle.octets.proofs.Lookup.{bit-set}
use Rattle.tables.specs.Places.{keep_places}
use Rattle.tables.proofs.Putting.{put_all}
use Rattle.tables.proofs.Keeping.{kept-all}
use Rattle.record.specs.Formed as R
use Rattle.record.specs.Fields.{models}
use Rattle.record.specs.Relations.{member}
use Rattle.engines.specs.Limits.{max_engine}
use Rattle.models.specs.Summary.{summary_size, model_of}
use Rattle.models.specs.Models.{summaries_for, state_of}
use Rattle.models.specs.Missing.{is_missing}
use Rattle.models.specs.Summaries.{is_of_another, no_value}
use Rattle.models.proofs.Held.{some, missing-exactly}
use Rattle.track_memory.specs.Layout.{pair_size}
use Rattle.track_memory.specs.Track.{Track}
use Rattle.track_memory.specs.Steps.{with_pair}
use Rattle.track_recheck.specs.Recheck.{recheck, strike_engine, has_stale}
use Rattle.track_shelf.specs.Waiting.{Waiting, waits_for, is_reported_by, may_wait}
use Rattle.track_shelf.proofs.Shelves.{has-record, has-engine, is-free, is-cited, in-need}

-- ---- a model is missing where no summary is for it

abbrev for_another : ℕ → List ℕ → Bool
for_another m p = not (eqb (model_of p) m)

none-for : (m : ℕ) (ps : List (List ℕ)) → not (some (summaries_for m ps)) ≡ list_all (for_another m) ps
unfolding summaries_for
none-for m [] = refl
none-for m (p ∷ ps) = by (eqb (model_of p) m) (λ h. rw h refl) (λ h. rw h (none-for m ps))

missing-is : (m : ℕ) (ps : List (List ℕ)) → is_missing (state_of m ps) ≡ list_all (for_another m) ps
missing-is m ps = missing-exactly m ps ∙ none-for m ps

-- a summary of another model leaves it missing
pub missing-put : (m : ℕ) (p : List ℕ) (s : Track) → eqb (model_of p) m ≡ false → is_missing (state_of m s.summaries) ≡ true → is_missing (state_of m (with_pair p s).summaries) ≡ true
missing-put m p s h a =
    let value : List ℕ → List ℕ = λ v. drop pair_size p in
    let key : List ℕ = take pair_size p in
    let new : for_another m (key ++ value []) ≡ true = ap (for_another m) (take-append-drop pair_size p) ∙ ap not h in
    missing-is m (with_pair p s).summaries
    ∙ put_all pair_size value key (for_another m) s.summaries new (λ q e z. ap (λ (l : List ℕ). for_another m (l ++ value (drop pair_size q))) e ∙ new) (sym (missing-is m s.summaries) ∙ a)

-- and so does a recheck, and an engine that is struck
pub recheck-same : (s : Track) → ((recheck s).convicted ≡ s.convicted) × ((recheck s).summaries ≡ s.summaries)
unfolding recheck
recheck-same s = by (list_any (has_stale s.summaries) s.transmissions) (λ e. rw e (refl, refl)) (λ e. rw e (refl, refl))

struck-place : (m : ℕ) (p : List ℕ) → for_another m p ≡ true → for_another m (take summary_size p ++ []) ≡ true
struck-place m p a = ap (for_another m) (append-nil (take summary_size p)) ∙ ap (λ (n : ℕ). not (eqb n m)) (get_or-take summary_size p 1 0 (omega arith)) ∙ a

pub missing-struck : (m e : ℕ) (s : Track) → is_missing (state_of m s.summaries) ≡ true → is_missing (state_of m (strike_engine e s).summaries) ≡ true
unfolding strike_engine
missing-struck m e s a =
    missing-is m (keep_places summary_size (is_of_another e) no_value s.summaries)
    ∙ kept-all summary_size (is_of_another e) no_value (for_another m) (for_another m) (λ p h t. struck-place m p h) s.summaries (sym (missing-is m s.summaries) ∙ a)

pub struck-convicted : (e : ℕ) (s : Track) → (strike_engine e s).convicted ≡ with_bit s.convicted e
unfolding strike_engine
struck-convicted e s = refl

-- ---- fixes that may wait

pub all-filter : (p f q : Waiting → Bool) → ((w : Waiting) → p w ≡ true → f w ≡ true → q w ≡ true) → (ws : List Waiting) → list_all p ws ≡ true → list_all q (filter f ws) ≡ true
all-filter p f q g [] a = refl
all-filter p f q g (w ∷ ws) a =
    let h = and_left (p w) (list_all p ws) a in
    let t = all-filter p f q g ws (and_right (p w) (list_all p ws) a) in
    by (f w) (λ y. rw y (and_both (q w) (list_all q (filter f ws)) (g w h y) t)) (λ y. rw y t)

pub all-weaken : (p q : Waiting → Bool) → ((w : Waiting) → p w ≡ true → q w ≡ true) → (ws : List Waiting) → list_all p ws ≡ true → list_all q ws ≡ true
all-weaken p q g [] a = refl
all-weaken p q g (w ∷ ws) a = and_both (q w) (list_all q ws) (g w (and_left (p w) (list_all p ws) a)) (all-weaken p q g ws (and_right (p w) (list_all p ws) a))

pub waits : (c : ℕ) (ss : List (List ℕ)) (w : Waiting) → R.well_formed w.record_bytes ≡ true → leb w.engine max_engine ≡ true → bit c w.engine ≡ false → member w.model (models w.record_bytes) ≡ true
    → is_missing (state_of w.model ss) ≡ true → may_wait c ss w ≡ true
waits c ss w f e b m i = rw (f, e, b, m, i) refl

-- one that waits for another model than the one that has a summary now
pub waits-on : (c model : ℕ) (ss tt' : List (List ℕ)) → ((m : ℕ) → eqb model m ≡ false → is_missing (state_of m ss) ≡ true → is_missing (state_of m tt') ≡ true)
    → (w : Waiting) → may_wait c ss w ≡ true → not (waits_for model w) ≡ true → may_wait c tt' w ≡ true
waits-on c model ss tt' g w h n =
    let other : eqb model w.model ≡ false = flipped w.model model ∙ not_t (waits_for model w) n in
    waits c tt' w (has-record c ss w h) (has-engine c ss w h) (not_t (bit c w.engine) (is-free c ss w h)) (is-cited c ss w h) (g w.model other (in-need c ss w h))
  where
    flipped : (a b : ℕ) → eqb b a ≡ eqb a b
    flipped a b = same_test (eqb b a) (eqb a b) (λ h. eq-eqb a b (sym (eqb-true b a h))) (λ h. eq-eqb b a (sym (eqb-true a b h)))

-- one that another engine reported than the one that is convicted now
pub waits-still : (e : ℕ) (s : Track) (w : Waiting) → may_wait s.convicted s.summaries w ≡ true → not (is_reported_by e w) ≡ true → may_wait (recheck (strike_engine e s)).convicted (recheck (strike_engine e s)).summaries w ≡ true
waits-still e s w h n =
    let c = s.convicted in
    let ss = s.summaries in
    let k = recheck-same (strike_engine e s) in
    let other : eqb e w.engine ≡ false = flipped w.engine e ∙ not_t (is_reported_by e w) n in
    let free : bit (with_bit c e) w.engine ≡ false = bit-set c e w.engine ∙ rw (other, not_t (bit c w.engine) (is-free c ss w h)) refl in
    waits (recheck (strike_engine e s)).convicted (recheck (strike_engine e s)).summaries w (has-record c ss w h) (has-engine c ss w h)
    (ap (λ (x : ℕ). bit x w.engine) (k.0 ∙ struck-convicted e s) ∙ free)
    (is-cited c ss w h)
    (ap (λ (l : List (List ℕ)). is_missing (state_of w.model l)) k.1 ∙ missing-struck w.model e s (in-need c ss w h))
  where
    flipped : (a b : ℕ) → eqb b a ≡ eqb a b
    flipped a b = same_test (eqb b a) (eqb a b) (λ h. eq-eqb a b (sym (eqb-true b a h))) (λ h. eq-eqb b a (sym (eqb-true a b h)))
