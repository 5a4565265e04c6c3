use Prim.Native.Nat.{◌-◌}
use mathlib.Core.Path.{ap, ◌∙◌}
use mathlib.Core.Bool.{false}
use native.Mathlib.Omega.{arith}
use lib.ListN.{length, get_or}
use Rattle.std.specs.Float.{nan}
use Rattle.std.proofs.lemmas.List.{get_or_default}
use Rattle.arithmetic.specs.declared.standing.ChiSquare.TheVariants.{Measured}
use Rattle.decision.specs.declared.Refusal.{Refusal}
use Rattle.fixes.specs.Fix.{Fix}
use Rattle.fixes.specs.Items.{no_fix}
use Rattle.track_transmission.specs.Layout.{max_refused}
use Rattle.track_normalize.specs.Deciding.{named_refused, lower_held}
use Rattle.track_normalize.proofs.Lowest.{lowest-none, lowest-turn}
use Rattle.track_normalize.proofs.deciding.list_refused.Goals as goal

-- what a read past the end of the refusals would give
abbrev unread : Refusal
unread = record { refused = 0; kept = 0; chi2 = Measured nan; superseded = false }

pub loop-k-init : goal.loop-k-init
loop-k-init c = c.clear.ensures ∙ lowest-none lower_held max_refused (named_refused c.args.fixes.now) c.args.refusals.now (length c.args.refusals.now) (omega arith)

pub loop-k-preserved : goal.loop-k-preserved
loop-k-preserved c =
    let fs = c.args.fixes.now in
    let xs = c.args.refusals.now in
    let k = c.loop-k.k in
    let x = get_or xs (k - 1) unread in
    let named = c.requires (k - 1) unread (omega arith) in
    let f = c.copied.ensures ∙ c.index-fixes-x-in-loop-k.is ∙ get_or_default fs x.refused c.index-fixes-x-in-loop-k.result no_fix named.0 in
    let a = ap (λ (g : Fix). g.identity) (c.against.view_is ∙ c.index-fixes-x.is ∙ get_or_default fs x.kept c.index-fixes-x.result no_fix named.1) in
    let s = c.stored_bits.ensures in
    c.enter.ensures
    ∙ lowest-turn lower_held max_refused (named_refused fs) xs k _ unread c.loop-k.refused.items (omega arith) (omega arith)
    (λ t. record { fix = f t; against = a t; chi2 = s t }) c.loop-k.invariant
