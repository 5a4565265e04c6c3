use mathlib.Core.Path.{sym, ap, ap₂, ◌∙◌}
use Prim.Native.Nat.{◌+◌}
use lib.ListN.{length}
use Rattle.track_transmission.specs.Held.{HeldTransmission, held_in}
use Rattle.track_transmission.proofs.Holding.{held-number}
use Rattle.track_transmission.proofs.block.Block.held_count.Goals as goal

pub returns-clause-count : goal.returns-clause-count
returns-clause-count c =
    ap₂ ◌+◌ c.fix_count.ensures c.refused_count.ensures ∙ sym (held-number c.self.inside.bytes.now) ∙ ap (λ (t : HeldTransmission). length (held_in t)) c.self.view_is
