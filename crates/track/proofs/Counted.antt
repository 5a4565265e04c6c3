-- The claims about the contested count.
use Rattle.std.proofs.Common.{◌≡◌, ℕ, ◌+◌, ◌%◌, ◌^◌, not, ◌&&◌, ◌||◌, List, Some, None, refl, sym, ap, ◌∙◌, subst, arith, eqb, leb, ltb, length, take}
use Rattle.std.specs.List.{list_any}
use Rattle.lists.proofs.Bools.{by, clash}
use Rattle.octets.specs.Masks.{bit}
use Rattle.tables.specs.Places.{holds}
use Rattle.record.specs.Layout.{max_model}
use Rattle.engines.specs.Limits.{max_engine}
use Rattle.models.specs.Limits.{max_summaries}
use Rattle.models.specs.Summary.{inputs_size, summary_of}
use Rattle.models.proofs.Waiting.{waits_exactly_where}
use Rattle.track_merge.specs.Merged.{merged}
use Rattle.track_memory.specs.Layout.{pair_size}
use Rattle.track_memory.specs.Steps.{with_pair}
use Rattle.track_memory.specs.Track.{Track, Transition}
use Rattle.track_recheck.specs.Recheck.{has_stale, recheck, strike_engine}
use Rattle.track_shelf.specs.Both.{Both}
use Rattle.track.specs.Track.{reported_fix, track_report, left_by, becomes_disputed, put_summary, arrival, track_summary, track_conviction}
use Rattle.track.specs.Counting.{ReportCounts, WaitingCountsNone, SummaryCounts, RefusalCountsNone, ConvictionCountsNone}
use Rattle.track.proofs.Leaving.{Leaves, left_after, report-leaves, conviction-leaves}

recheck-count : (s : Track) → (recheck s).contested ≡ s.contested
unfolding recheck
recheck-count s = by (list_any (has_stale s.summaries) s.transmissions) (λ e. rw e refl) (λ e. rw e refl)

strike-count : (e : ℕ) (s : Track) → (strike_engine e s).contested ≡ s.contested
unfolding strike_engine
strike-count e s = refl

pub report-counts : ReportCounts
report-counts e r b c n q k =
    let x = (merged (reported_fix e r b.track) b.track.transmissions).entered in
    let P : Both → Type 0 = λ u. u.track.contested ≡ (b.track.contested + x) % 2 ^ 64 in
    subst (Leaves P) q (report-leaves P e r b (λ h w z. ((λ m i j. absurd (none-and-some m (sym (waits_exactly_where.counted b.track.summaries r k) ∙ i))), (λ y. refl))))
  where
    none-and-some : (m : ℕ) → None ≡ Some m → ⊥
    none-and-some m e = grind (arith, e)

pub waiting-counts-none : WaitingCountsNone
waiting-counts-none e r b k =
    let P : Both → Type 0 = λ u. u.track.contested ≡ b.track.contested in
    left_after P b (track_report e r b) refl (report-leaves P e r b (λ h w z. ((λ m i j. refl), (λ y. clash y k))))

put-count : (model : ℕ) (p : List ℕ) (s : Track) → (put_summary model p s).contested ≡ s.contested
put-count model p s =
    let t = with_pair p s in
    by (becomes_disputed model s.summaries t.summaries) (λ d. rw d (recheck-count t)) (λ d. rw d refl)

-- what a summary leaves, if it is not refused
stored : (e model spec : ℕ) (inputs : List ℕ) (b : Both)
    → Leaves (λ u. u ≡ arrival model (record { track = put_summary model (summary_of e model spec inputs) b.track; shelf = b.shelf })) (track_summary e model spec inputs b)
stored e model spec inputs b =
    let p = summary_of e model spec inputs in
    by (ltb max_engine e)
    (λ a. rw a tt)
    (λ a. by (ltb max_model model || not (eqb (length inputs) inputs_size))
    (λ d. rw (a, d) tt)
    (λ d. by (bit b.track.convicted e)
    (λ c. rw (a, d, c) tt)
    (λ c. by (not (holds pair_size (take pair_size p) b.track.summaries) && leb max_summaries (length b.track.summaries)) (λ f. rw (a, d, c, f) tt) (λ f. rw (a, d, c, f) refl))))

pub summary-counts : SummaryCounts
summary-counts e model spec inputs b c n q =
    let p = summary_of e model spec inputs in
    (put-count model p b.track, subst (Leaves (λ (u : Both). u ≡ arrival model (record { track = put_summary model p b.track; shelf = b.shelf }))) q (stored e model spec inputs b))

pub refusal-counts-none : RefusalCountsNone
refusal-counts-none c b n q = ap (λ (o : Transition Both). (left_by b o).track.contested) q

pub conviction-counts-none : ConvictionCountsNone
conviction-counts-none e b =
    let P : Both → Type 0 = λ u. u.track.contested ≡ b.track.contested in
    left_after P b (track_conviction e b) refl (conviction-leaves P e b (λ h. recheck-count (strike_engine e b.track) ∙ strike-count e b.track))
