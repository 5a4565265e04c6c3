use Rattle.std.proofs.Common.{ℕ, arith, ap, ◌∙◌}
use Rattle.tables.specs.Places.{places}
use Rattle.models.specs.Summary.{summary_size}
use Rattle.track_memory.specs.Track.{Track}
use Rattle.track_memory.specs.Memory.{decode, summary_table}
use Rattle.track_memory.proofs.Opened.{opened, summary-bytes-length}
use Rattle.track_memory.proofs.view.View.summaries.Goals as goal

pub invariant_of-result : goal.invariant_of-result
invariant_of-result c =
    let m = c.self.inside.bytes.now in
    let o = opened m c.self.invariant.0 in
    record { within = rw (summary-bytes-length m o) (omega (arith, o.few_summaries, c.u16_at.ensures)) }

pub returns : goal.returns
unfolding decode
returns c = ap (λ (n : ℕ). places summary_size n (summary_table c.self.inside.bytes.now)) c.u16_at.ensures ∙ ap (λ (s : Track). s.summaries) c.self.view_is
