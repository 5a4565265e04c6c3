use Rattle.std.proofs.Common.{rules}
use Rattle.octets.proofs.Numbers.{all-bytes}
use Rattle.track_recheck.proofs.Alone.{only-cleared}
use Rattle.track_recheck.proofs.rechecks.clear_only.Goals as goal

pub returns : goal.returns
returns c =
    only-cleared c.args.b.now (all-bytes c.args.b.now (search rules)) c.requires.steady c.requires.only.0 c.requires.only.1 _ _ _ c.split_at_mut-used.ensures.front c.clear.ensures c.split_at_mut-used.ensures.back
