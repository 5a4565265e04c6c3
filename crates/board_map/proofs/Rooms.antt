-- Two rooms of which the same remains get the same map.
use Rattle.std.proofs.Common.{ℕ, ◌≤◌, ◌≡◌, sym, ap, ap₂, ◌∙◌, true, List, length, le-ltb}
use Rattle.errors.specs.After.{write_text}
use Rattle.register.specs.Memory.{decode, fresh}
use Rattle.register.specs.Calls.{Call, runs, none_full}
use Rattle.register.proofs.Whole.{whole, decoded, same-summaries, same-records}
use Rattle.register.proofs.Remaining.{holds-in-order}
use Rattle.board_map.specs.Map.{map_size, map_of, map_in, draw_map}
use Rattle.board_map.specs.Claims.{map_over_remains, MapsInBothRooms}

module _ (cs : List Call) (f : none_full fresh cs ≡ true) where
  -- the register's map is the map over what remains
  map-over : map_in (decode (runs fresh cs)) ≡ map_over_remains cs
  map-over = let h = holds-in-order cs f in ap₂ map_of h.0 h.1

  -- and a call draws it
  drawn : (out : List ℕ) → map_size ≤ length out → draw_map (runs fresh cs) out ≡ write_text (map_over_remains cs) out
  unfolding draw_map
  drawn out h = rw ((whole cs f).formed, le-ltb _ _ h) (ap (λ (t : List ℕ). write_text t out) map-over)

pub maps-in-both-rooms : MapsInBothRooms
maps-in-both-rooms cs ds f g q =
    let same : map_over_remains ds ≡ map_over_remains cs =
    sym (map-over ds g)
    ∙ ap map_in (decoded ds g)
    ∙ ap₂ map_of (sym (same-summaries cs ds f g q)) (sym (same-records cs ds f g q))
    ∙ sym (ap map_in (decoded cs f))
    ∙ map-over cs f in
    record { drawn_north = drawn cs f; drawn_south = λ out h. drawn ds g out h ∙ ap (λ (t : List ℕ). write_text t out) same }
