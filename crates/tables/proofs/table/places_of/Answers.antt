use Rattle.std.proofs.Common.{◌/◌, length, ap, take, ◌∙◌}
use Rattle.std.proofs.Math.Nat.{le-div_iff_mul-le}
use Rattle.tables.proofs.Searches.{first-places}
use Rattle.tables.proofs.table.places_of.Goals as goal

pub returns : goal.returns
returns g c =
    ap (take c.args.count) c.as_chunks.ensures.front
    ∙ first-places g.row.WIDTH c.args.count (length c.args.t.now / g.row.WIDTH) c.args.t.now ((le-div_iff_mul-le c.requires.width).1 c.requires.fits)
