-- A register that holds what a list has holds what remains of it, in order.
use Rattle.std.proofs.Common.{ℕ, ◌≡◌, sym, ap, ◌∙◌, not, List, eqb}
use Rattle.octets.proofs.Lookup.{bit-ext}
use Rattle.tables.proofs.Keys.{ascending-ext}
use Rattle.record.specs.Layout.{record_size}
use Rattle.models.specs.Summary.{summary_size}
use Rattle.register.specs.Register.{Register}
use Rattle.register.specs.Calls.{Call, convicts, remaining}
use Rattle.register.specs.Claims.{signers_of}
use Rattle.register.specs.Remains.{summaries_held, records_held}
use Rattle.register.proofs.Steps.{nothing-follows}
use Rattle.register_join.proofs.Loose.{held-signed, lookup-signed}
use Rattle.register_join.proofs.JoinLists.{Has, signs, held-summaries}
use Rattle.register.proofs.Remaining.{masks, masks-bits, follows, sums-ascend, sums-hold, sums-nothing, recs-ascend, recs-follow, recs-hold}

module _ (h : List Call) (s : Register) (u : Has h s) where
  same-mask : (r : List ℕ) → signers_of r s ≡ masks (remaining h) r
  same-mask r = bit-ext (signers_of r s) (masks (remaining h) r) (λ e. signs h s u e r ∙ sym (masks-bits (remaining h) e r))

  pub has-in-order : (s.summaries ≡ summaries_held (remaining h)) × (s.records ≡ records_held (remaining h))
  has-in-order =
      let v = u.loose in
      let x = convicts h in (
        ascending-ext summary_size s.summaries (summaries_held (remaining h)) v.summaries_ascend (sums-ascend x h)
            (λ p. held-summaries h s u p ∙ sym (sums-hold x p h))
            (λ p. nothing-follows p s.summaries v.summaries_wide ∙ sym (sums-nothing x p h)),
        ascending-ext record_size s.records (records_held (remaining h)) v.records_ascend (recs-ascend x h)
            (λ r. held-signed s v r ∙ ap (λ (m : ℕ). not (eqb m 0)) (same-mask r) ∙ sym (recs-hold x r h))
            (λ r. lookup-signed s v r ∙ ap follows (same-mask r) ∙ sym (recs-follow x r h)),
      )
