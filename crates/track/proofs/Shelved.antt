-- The claims about the fixes that wait.
use Rattle.std.proofs.Common.{◌≡◌, ℕ, Bool, true, false, not, List, [], ◌∷◌, refl, sym, ap, ◌∙◌, subst}
use mathlib.Core.List.Memᴰ
use mathlib.Core.List.{Memᴰ}
use borrow.Author.Tests.{eqb-true}
use Rattle.std.specs.List.{filter, list_all}
use Rattle.lists.proofs.Bools.{by, clash, and_left, and_right, not_f}
use Rattle.lists.proofs.Lists.{filter-of}
use Rattle.models.specs.Models.{state_of}
use Rattle.models.specs.Missing.{is_missing}
use Rattle.track_memory.specs.Track.{Track}
use Rattle.track_shelf.specs.Waiting.{Waiting, waits_for, is_reported_by, may_wait}
use Rattle.track_shelf.specs.Memory.{decode_shelf}
use Rattle.track_shelf.specs.Both.{Both, decode_both}
use Rattle.track_shelf.proofs.Shelves.{in-need}
use Rattle.track_shelf.proofs.Boths.{waiting-fixes}
use Rattle.track.specs.Track.{track_report, tried, arrival}
use Rattle.track.specs.Calls.{Call, report, summary, conviction, act}
use Rattle.track.specs.Shelved.{NoneWaitsInVain, SettlesNone, StaysTillThen, takes_off}
use Rattle.track.proofs.Leaving.{Leaves, left_after, report-leaves, tried-keeps, summary-leaves, conviction-leaves}
use Rattle.track.proofs.Arriving.{all-weaken}
use Rattle.track.proofs.Ordered.{all-reached, reached-formed, reached-held}

-- ---- none waits in vain

pub none-waits-in-vain : NoneWaitsInVain
none-waits-in-vain cs =
    let x = all-reached cs in
    let b = x.both in (
      reached-formed x,
      subst (λ (u : Both). list_all (λ (w : Waiting). is_missing (state_of w.model u.track.summaries)) u.shelf ≡ true) (sym (reached-held x))
          (all-weaken (may_wait b.track.convicted b.track.summaries) (λ w. is_missing (state_of w.model b.track.summaries)) (λ w h. in-need b.track.convicted b.track.summaries w h) b.shelf x.valid.wait),
    )

none-under : (c model : ℕ) (ss : List (List ℕ)) → is_missing (state_of model ss) ≡ false → (ws : List Waiting) → list_all (may_wait c ss) ws ≡ true → filter (waits_for model) ws ≡ []
none-under c model ss h [] a = refl
none-under c model ss h (w ∷ ws) a =
    let t = none-under c model ss h ws (and_right (may_wait c ss w) (list_all (may_wait c ss) ws) a) in
    by (waits_for model w)
    (λ q. clash (in-need c ss w (and_left (may_wait c ss w) (list_all (may_wait c ss) ws) a)) (ap (λ (m : ℕ). is_missing (state_of m ss)) (eqb-true w.model model q) ∙ h))
    (λ q. rw q t)

pub settles-none : SettlesNone
settles-none m w model f h = let k = waiting-fixes m w f in none-under (decode_both m w).track.convicted model (decode_both m w).track.summaries h (decode_shelf w) k

-- ---- a fix stays till its trial or its engine's conviction

module _ (w : Waiting) where
  abbrev On : Both → Type 0
  On b = Memᴰ w b.shelf

  report-stays : (e : ℕ) (r : List ℕ) (b : Both) → On b → Leaves On (track_report e r b)
  report-stays e r b i = report-leaves On e r b (λ h f c. ((λ m q k. Memᴰ.append_left (record { model = m; engine = e; record_bytes = r } ∷ []) i), (λ q. i)))

  tried-stays : (b : Both) (x : Waiting) → On b → On (tried b x)
  tried-stays b x i = left_after On b (track_report x.engine x.record_bytes b) i (report-stays x.engine x.record_bytes b i)

  arrival-stays : (model : ℕ) (b : Both) (t : Track) → On b → waits_for model w ≡ false → On (arrival model (record { track = t; shelf = b.shelf }))
  arrival-stays model b t i h =
      let others : Waiting → Bool = λ x. not (waits_for model x) in
      tried-keeps On tried-stays (filter (waits_for model) b.shelf) (record { track = t; shelf = filter others b.shelf }) (filter-of others b.shelf w i (not_f (waits_for model w) h))

  act-stays : (c : Call) (b : Both) → On b → takes_off c w ≡ false → Leaves On (act c b)
  act-stays (report e r) b i h = report-stays e r b i
  act-stays (summary e model spec inputs) b i h = summary-leaves (λ t. Unit {0}) On e model spec inputs b (λ a g l c d. tt) (λ t q. tt) (λ t q. arrival-stays model b t i h)
  act-stays (conviction e) b i h = conviction-leaves On e b (λ a. filter-of (λ x. not (is_reported_by e x)) b.shelf w i (not_f (is_reported_by e w) h))

pub stays-till-then : StaysTillThen
stays-till-then c b w i h = left_after (On w) b (act c b) i (act-stays w c b i h)
