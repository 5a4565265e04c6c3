use mathlib.Core.Path.{sym, ap, ◌∙◌}
use lib.ListN.{length, length-map}
use Rattle.tables.proofs.Tables.{length-places}
use Rattle.track_transmission.specs.Layout.{refused_size}
use Rattle.track_transmission.specs.Held.{HeldTransmission}
use Rattle.track_transmission.specs.Bytes.{refused_in, refused_count, refused_table, refused_places, transmission_in}
use Rattle.track_transmission.proofs.block.Block.refused_count.Goals as goal

pub returns : goal.returns
unfolding transmission_in
returns c =
    let b = c.self.inside.bytes.now in
    c.refused_count.ensures ∙ sym (length-map (refused_places b) refused_in ∙ length-places refused_size (refused_count b) (refused_table b)) ∙ ap (λ (t : HeldTransmission). length t.refused) c.self.view_is
