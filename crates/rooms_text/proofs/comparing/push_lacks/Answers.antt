use Rattle.std.proofs.Common.{◌∙◌}
use Rattle.octets.proofs.Numbers.{all-bytes}
use Rattle.rooms_text.proofs.Lacked.{written-formed, written-is}
use Rattle.rooms_text.proofs.comparing.push_lacks.Goals as goal

pub of-requires : goal.of-requires
of-requires c =
    let n = c.args.other.now in
    let m = c.args.memory.now in
    written-formed n m (all-bytes n c.fits-other) (all-bytes m c.fits-memory) c.requires.others c.requires.own _ c.register_buffer-lacked.ensures _ _ c.lacks.ensures

pub returns : goal.returns
returns c =
    let n = c.args.other.now in
    let m = c.args.memory.now in
    let is = c.of.ensures ∙ written-is n m (all-bytes n c.fits-other) (all-bytes m c.fits-memory) c.requires.others c.requires.own _ c.register_buffer-lacked.ensures _ _ c.lacks.ensures in
    rw is at c.push_lacking.ensures
