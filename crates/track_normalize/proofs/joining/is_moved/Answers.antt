use Rattle.std.proofs.Common.{◌≡◌, not, true, rules}
use Rattle.track_normalize.specs.Joining as J
use Rattle.track_normalize.proofs.joining.is_moved.Goals as goal

pub returns : goal.returns
returns c =
    let moved : not c.is_of.result ≡ J.moved c.args.before.now c.args.after.now = search rules in
    moved
