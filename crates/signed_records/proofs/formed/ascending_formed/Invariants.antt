use Rattle.std.proofs.Common.{◌≡◌, ◌&&◌, true, take, drop}
use Rattle.std.specs.List.{list_all}
use Rattle.tables.specs.Places.{ascending, ascending_from}
use Rattle.record.specs.Layout.{record_size}
use Rattle.record.specs.Formed.{well_formed}
use Rattle.signed_records.specs.Signed.{place_formed}
use Rattle.signed_records.proofs.formed.ascending_formed.Given as goal

abbrev pub invariant-loop-place : goal.invariant-loop-place
invariant-loop-place l =
    ((ascending record_size l.places && list_all (place_formed l.convicted) l.places) ≡ (ascending_from record_size (take record_size l.last) (drop l.place-index l.rest) && list_all (place_formed l.convicted) (drop l.place-index l.rest)))
    × (well_formed (take record_size l.last) ≡ true)
