use Rattle.std.proofs.Common.{◌≡◌, true, arith, ap, ◌∙◌, length, take}
use mathlib.Core.List.{map}
use lib.ListN.{length-map}
use lib.Seq.{length-take-le, take_all}
use Rattle.std.specs.List.{list_all}
use Rattle.tables.specs.Places.{places}
use Rattle.tables.proofs.Tables.{length-places}
use Rattle.track_shelf.specs.Layout.{place_size}
use Rattle.track_shelf.specs.Memory.{waiting_in, waiting_count, decode_shelf}
use Rattle.track_shelf.specs.Steps.{place_holds, places_in_use}
use Rattle.track_shelf.proofs.Shelves.{holds-at}
use Rattle.track_shelf.proofs.view.Shelf.fixes.Goals as goal
use Rattle.track_shelf.proofs.view.Shelf.fixes.Goals.{After-places_of-places}

-- the places that are gone through are those in use
in-use : (c : After-places_of-places) → c.places_of-places.result.now ≡ places_in_use c.self.inside.bytes.now
in-use c = c.places_of-places.ensures ∙ ap (places place_size (waiting_count c.self.inside.bytes.now)) c.split_at.ensures.back

pub read-requires : goal.read-requires
read-requires c =
    let ps = c.places_of-places.result.now in
    let all : list_all place_holds ps ≡ true = ap (list_all place_holds) (in-use (goal.at.read-requires c).After-places_of-places) ∙ c.self.invariant.hold in
    holds-at place_holds ps c.loop-place.place-index all c.loop-place-test.true

pub push-requires : goal.push-requires
push-requires c =
    let m = c.self.inside.bytes.now in
    let i = c.loop-place.place-index in
    let ps = c.places_of-places.result.now in
    let k = ap length c.loop-place.invariant ∙ length-map (take i ps) waiting_in ∙ length-take-le i ps (omega (arith, c.loop-place-test.true)) in
    let n = ap length (in-use (goal.at.push-requires c).After-places_of-places) ∙ length-places place_size (waiting_count m) _ in
    (omega arith, omega (arith, k, n, c.self.invariant.few, c.loop-place-test.true))

pub returns : goal.returns
unfolding decode_shelf
returns c =
    let ps = c.places_of-places.result.now in
    c.loop-place.invariant ∙ ap (map waiting_in) (take_all c.loop-place.place-index ps c.loop-place-test.false ∙ in-use (goal.at.returns c).After-places_of-places) ∙ c.self.view_is
