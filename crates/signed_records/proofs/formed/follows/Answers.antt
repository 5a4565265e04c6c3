use Rattle.std.proofs.Common.{refl, sym, arith, le-leb}
use Rattle.octets.proofs.Alike.{alike-same}
use Rattle.record.specs.Layout.{spec_at}
use Rattle.record.proofs.Same.{also-formed}
use Rattle.signed_records.proofs.formed.follows.Goals as goal

pub returns-then-alike-ge-SPEC_AT : goal.returns-then-alike-ge-SPEC_AT
returns-then-alike-ge-SPEC_AT c =
    let a = c.args.last.now in
    let b = c.args.key.now in
    let h = c.if-alike-ge-SPEC_AT.true in
    let same = alike-same spec_at a b (omega (arith, h, c.alike-alike.ensures)) in
    rw (le-leb spec_at c.alike-alike.result h, also-formed a b same c.requires.sizes c.requires.formed, sym c.precedes_behind.ensures, c.if-precedes_behind.true) refl
