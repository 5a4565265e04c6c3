use mathlib.Core.Path.{ap, ◌∙◌}
use mathlib.Core.List.{map}
use Prim.Native.Nat.{ℕ}
use Rattle.tables.specs.Places.{places}
use Rattle.track_transmission.specs.Layout.{fix_size}
use Rattle.track_transmission.specs.Held.{HeldTransmission}
use Rattle.track_transmission.specs.Bytes.{fix_in, fix_table, transmission_in}
use Rattle.track_transmission.proofs.Reading.{few-stand, standing-formed}
use Rattle.track_transmission.proofs.block.Block.fix_places.Goals as goal

pub returns-clause-values : goal.returns-clause-values
unfolding transmission_in
returns-clause-values c =
    let e = c.places_of.ensures ∙ ap (λ (n : ℕ). places fix_size n (fix_table c.self.inside.bytes.now)) c.fix_count-count.ensures in
    ap (map fix_in) e ∙ ap (λ (t : HeldTransmission). t.fixes) c.self.view_is

pub returns-clause-few : goal.returns-clause-few
returns-clause-few c =
    few-stand _ c.self.invariant _ (c.places_of.ensures ∙ ap (λ (n : ℕ). places fix_size n (fix_table c.self.inside.bytes.now)) c.fix_count-count.ensures)

pub returns-clause-formed : goal.returns-clause-formed
returns-clause-formed c =
    standing-formed _ c.self.invariant _ (c.places_of.ensures ∙ ap (λ (n : ℕ). places fix_size n (fix_table c.self.inside.bytes.now)) c.fix_count-count.ensures)
