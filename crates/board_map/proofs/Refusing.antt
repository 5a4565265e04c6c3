-- A map's refusals in their order.
use Rattle.std.proofs.Common.{refl}
use Rattle.lists.proofs.Bools.{by}
use Rattle.register.specs.Memory.{well_formed}
use Rattle.board_map.specs.Map.{draw_map}
use Rattle.board_map.specs.Refusals.{MapInOrder}

pub map-in-order : MapInOrder
unfolding draw_map
map-in-order m out = by (well_formed m) (λ w. rw w refl) (λ w. rw w refl)
