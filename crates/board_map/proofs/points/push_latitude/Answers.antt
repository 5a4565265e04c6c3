use Rattle.std.proofs.Common.{◌≡◌, rules}
use Rattle.octets.specs.Ascii.{ascii}
use Rattle.record.specs.Fields as F
use Rattle.board_map.proofs.points.push_latitude.Goals as goal

pub returns : goal.returns
unfolding ascii
returns c =
    let north : c.latitude.result ≡ F.latitude c.args.report.bytes.now = c.latitude.ensures in
    search rules
