use Rattle.std.proofs.Common.{refl, ◌∙◌}
use Rattle.signed_records.proofs.Signatures.{signers-at}
use Rattle.signed_records.proofs.formed.is_signed.Goals as goal

pub returns : goal.returns
returns c =
    let e = c.from_mask-signers.ensures ∙ c.u32_at.ensures ∙ signers-at c.args.p.now c.requires in
    rw (c.is_empty.ensures, c.is_disjoint.ensures, e) refl
