use mathlib.Core.Path.{ap, ap₂, ◌∙◌}
use mathlib.Core.List.{List, map}
use Prim.Native.Nat.{ℕ}
use Rattle.tables.specs.Places.{places}
use Rattle.track_transmission.specs.Layout.{refused_size}
use Rattle.track_transmission.specs.Held.{HeldTransmission}
use Rattle.track_transmission.specs.Bytes.{refused_in, transmission_in}
use Rattle.track_transmission.proofs.Reading.{few-refused, refused-formed}
use Rattle.track_transmission.proofs.block.Block.refused_places.Goals as goal

pub returns-clause-values : goal.returns-clause-values
unfolding transmission_in
returns-clause-values c =
    ap (map refused_in) (c.places_of.ensures ∙ ap₂ (λ (n : ℕ) (t : List ℕ). places refused_size n t) c.refused_count-count.ensures c.split_at.ensures.back) ∙ ap (λ (t : HeldTransmission). t.refused) c.self.view_is

pub returns-clause-few : goal.returns-clause-few
returns-clause-few c =
    few-refused _ c.self.invariant _ (c.places_of.ensures ∙ ap₂ (λ (n : ℕ) (t : List ℕ). places refused_size n t) c.refused_count-count.ensures c.split_at.ensures.back)

pub returns-clause-formed : goal.returns-clause-formed
returns-clause-formed c =
    refused-formed _ c.self.invariant _ (c.places_of.ensures ∙ ap₂ (λ (n : ℕ) (t : List ℕ). places refused_size n t) c.refused_count-count.ensures c.split_at.ensures.back)
