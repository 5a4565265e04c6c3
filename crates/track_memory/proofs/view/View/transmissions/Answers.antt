use Rattle.std.proofs.Common.{ℕ, List, ap, ◌∙◌}
use mathlib.Core.List.{map}
use Rattle.tables.specs.Places.{places}
use Rattle.track_transmission.specs.Layout.{transmission_size}
use Rattle.track_transmission.specs.Bytes.{transmission_in}
use Rattle.track_memory.specs.Track.{Track}
use Rattle.track_memory.specs.Memory.{transmission_count, decode}
use Rattle.track_memory.proofs.Opened.{opened, filled}
use Rattle.track_memory.proofs.view.View.transmissions.Goals as goal

pub blocks-requires : goal.blocks-requires
blocks-requires c =
    let m : List ℕ = c.self.inside.bytes.now in
    rw c.split_at.ensures.back (filled m (opened m c.self.invariant.0) c.self.invariant.1)

pub returns : goal.returns
unfolding decode
returns c =
    let m : List ℕ = c.self.inside.bytes.now in
    c.blocks-2.ensures
    ∙ ap (λ (t : List ℕ). map transmission_in (places transmission_size (transmission_count m) t)) c.split_at.ensures.back
    ∙ ap (λ (s : Track). s.transmissions) c.self.view_is
