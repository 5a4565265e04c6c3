use Rattle.std.proofs.Common.{◌≡◌, refl, rules}
use Rattle.board_map.specs.Points.{max_longitude, max_latitude}
use Rattle.board_map.specs.declared.points.TheConstants.{MAX_LONGITUDE, MAX_LATITUDE}
use Rattle.board_map.proofs.points.lies_within.Goals as goal

pub returns : goal.returns
returns c =
    let east : MAX_LONGITUDE ≡ max_longitude = refl in
    let north : MAX_LATITUDE ≡ max_latitude = refl in
    search rules
