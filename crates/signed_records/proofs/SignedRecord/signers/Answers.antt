use Rattle.std.proofs.Common.{ap, ◌∙◌, rules}
use Rattle.signed_records.specs.Signed.{signers_in}
use Rattle.signed_records.proofs.Signatures.{signers-at}
use Rattle.signed_records.proofs.SignedRecord.signers.Goals as goal

pub returns : goal.returns
returns c = c.from_mask.ensures ∙ c.u32_at.ensures ∙ signers-at c.self.inside.bytes.now (search rules) ∙ ap signers_in c.self.view_is
