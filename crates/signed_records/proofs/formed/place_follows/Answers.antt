use Rattle.std.proofs.Common.{◌≡◌, ◌&&◌, Bool, take}
use Rattle.lists.proofs.Bools.{and_assoc}
use Rattle.octets.specs.Order.{is_before}
use Rattle.record.specs.Layout.{record_size}
use Rattle.record.specs.Formed.{well_formed}
use Rattle.signed_records.proofs.formed.place_follows.Goals as goal

joined : (f s x y z : Bool) → f ≡ (x && y) → s ≡ z → (f && s) ≡ (x && (y && z))
joined f s x y z d e = rw (d, e) (and_assoc x y z)

pub returns : goal.returns
returns c =
    let p = take record_size c.args.place.now in
    joined c.follows.result c.is_signed.result (is_before (take record_size c.args.last.now) p) (well_formed p) _ c.follows.ensures c.is_signed.ensures
