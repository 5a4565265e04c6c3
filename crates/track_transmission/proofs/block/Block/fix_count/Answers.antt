use mathlib.Core.Path.{sym, ap, ◌∙◌}
use lib.ListN.{length, length-map}
use Rattle.tables.proofs.Tables.{length-places}
use Rattle.track_transmission.specs.Layout.{fix_size}
use Rattle.track_transmission.specs.Held.{HeldTransmission}
use Rattle.track_transmission.specs.Bytes.{fix_in, fix_count, fix_table, fix_places, transmission_in}
use Rattle.track_transmission.proofs.block.Block.fix_count.Goals as goal

pub returns : goal.returns
unfolding transmission_in
returns c =
    let b = c.self.inside.bytes.now in
    c.fix_count.ensures ∙ sym (length-map (fix_places b) fix_in ∙ length-places fix_size (fix_count b) (fix_table b)) ∙ ap (λ (t : HeldTransmission). length t.fixes) c.self.view_is
