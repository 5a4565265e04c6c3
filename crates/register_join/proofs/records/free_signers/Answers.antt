use Rattle.std.proofs.Common.{ℕ, ap, ◌∙◌}
use Rattle.signed_records.proofs.Signatures.{signers-at}
use Rattle.register_join.specs.Join.{without_bits}
use Rattle.register_join.proofs.records.free_signers.Goals as goal

pub returns-clause-set : goal.returns-clause-set
returns-clause-set c = c.without.ensures.set ∙ ap (λ (s : ℕ). without_bits s c.args.convicted) (c.from_mask.ensures ∙ c.u32_at.ensures ∙ signers-at c.args.place.now c.told-place)
