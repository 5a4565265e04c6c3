-- The order of transmissions by their first ranked is transitive.
use Rattle.std.proofs.Common.{◌≡◌, true}
use Rattle.fixes.specs.Shown.{Transmission}
use Rattle.fixes.proofs.Ages.{first-trans}
use Rattle.board_picture.specs.Picture.{older_than}

pub older_than-trans : (t u v : Transmission) → older_than t u ≡ true → older_than u v ≡ true → older_than t v ≡ true
older_than-trans t u v = first-trans t.ranked u.ranked v.ranked
