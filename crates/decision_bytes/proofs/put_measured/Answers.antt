use Rattle.decision_bytes.proofs.Parts.{measured-put}
use Rattle.decision_bytes.proofs.put_measured.Goals as goal

pub returns : goal.returns
returns c =
    rw c.put_u64.ensures (measured-put c.args.out.now c.args.at c.args.measured c.args.bits c.requires)
