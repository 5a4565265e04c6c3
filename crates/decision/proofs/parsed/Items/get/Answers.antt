use Rattle.std.proofs.Common.{arith, ◌+◌}
use Rattle.decision.proofs.Passed.{whole-items, long-items}
use Rattle.decision.proofs.Holding.{in-places, formed-place, read-place}
use Rattle.decision.proofs.parsed.Items.get.Goals as goal

pub bounds-places-i : goal.bounds-places-i
bounds-places-i c = in-places c.args.self.now.bytes.now (c.args.i + 1) c.args.i (omega arith) _ c.places_of-places.ensures

pub of-requires : goal.of-requires
of-requires c =
    let s = c.args.self.now.bytes.now in
    let i = c.args.i in
    let long = long-items s c.args.self.now.good in
    formed-place s (i + 1) i (omega arith) _ c.places_of-places.ensures ((whole-items s _ long c.args.self.now.good).formed i (omega (arith, long, c.requires)))

pub returns : goal.returns
returns c = read-place c.args.self.now.bytes.now (c.args.i + 1) c.args.i (omega arith) _ c.places_of-places.ensures c.of.result c.of.ensures
