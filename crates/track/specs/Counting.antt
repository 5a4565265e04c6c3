-- What is claimed of `contested` (docs/REFERENCE.md, 'Track and listing'), which is counted modulo 2^64: it grows by the fixes that enter a list of refused, at a
-- report and where a fix that waited is tried, and by nothing else. The contract of src/claims.rt names it; the proofs are in proofs/Counted.
use Rattle.std.specs.Prelude.{◌≡◌, ℕ, ◌+◌, ◌%◌, ◌^◌, true, false, List}
use Rattle.models.specs.Summary.{summary_of}
use Rattle.models.specs.Models.{counts}
use Rattle.track_merge.specs.Merged.{merged}
use Rattle.track_memory.specs.Track.{refused, done}
use Rattle.track_shelf.specs.Both.{Both}
use Rattle.track.specs.Track.{reported_fix, left_by, put_summary, arrival}
use Rattle.track.specs.Calls.{Call, report, summary, conviction, act}

-- a report that is merged adds the fixes that entered a list of refused
abbrev pub ReportCounts : Type 0
ReportCounts = (e : ℕ) (r : List ℕ) (b c : Both) (n : ℕ) → act (report e r) b ≡ done n c → counts b.track.summaries r ≡ true
    → c.track.contested ≡ (b.track.contested + (merged (reported_fix e r b.track) b.track.transmissions).entered) % 2 ^ 64

-- one that waits adds none
abbrev pub WaitingCountsNone : Type 0
WaitingCountsNone = (e : ℕ) (r : List ℕ) (b : Both) → counts b.track.summaries r ≡ false → (left_by b (act (report e r) b)).track.contested ≡ b.track.contested

-- storing a summary adds none; then what waited for its model is tried, each as a report
abbrev pub SummaryCounts : Type 0
SummaryCounts = (e model spec : ℕ) (inputs : List ℕ) (b c : Both) (n : ℕ) → act (summary e model spec inputs) b ≡ done n c
    → ((put_summary model (summary_of e model spec inputs) b.track).contested ≡ b.track.contested)
    × (c ≡ arrival model (record { track = put_summary model (summary_of e model spec inputs) b.track; shelf = b.shelf }))

-- a call that is refused, and a conviction, leave the count
abbrev pub RefusalCountsNone : Type 0
RefusalCountsNone = (c : Call) (b : Both) (n : ℕ) → act c b ≡ refused n → (left_by b (act c b)).track.contested ≡ b.track.contested

abbrev pub ConvictionCountsNone : Type 0
ConvictionCountsNone = (e : ℕ) (b : Both) → (left_by b (act (conviction e) b)).track.contested ≡ b.track.contested
