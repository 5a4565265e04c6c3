use Rattle.std.proofs.Common.{rules, ◌≡◌, refl, ap, ap₂, sym, ◌∙◌, subst}
use Rattle.models.specs.Identity.{cited}
use Rattle.fixes.specs.Fix.{Fix}
use Rattle.fixes.specs.Items.{AllFormed}
use Rattle.board_fixes.specs.Fixes.{record_in, enter}
use Rattle.models.proofs.Cited.{cites, cites-none}
use Rattle.board_fixes.proofs.Kept.{fixes-formed}
use Rattle.board_fixes.proofs.Representing.{walked-start, walked-in, walked-by, walked-end}
use Rattle.board_fixes.proofs.represent.Goals as goal

pub loop-signed-init : goal.loop-signed-init
loop-signed-init c = walked-start _ _ _ _ (search rules) c.requires.none c.records-signed-items.ensures.few

pub loop-signed-preserved-in-Some-cited_inputs : goal.loop-signed-preserved-in-Some-cited_inputs
loop-signed-preserved-in-Some-cited_inputs c =
    let ss = c.args.register.now.summaries in
    let is : c.cited_inputs.result ≡ cited ss (record_in c.in-Some.signed) = c.cited_inputs.ensures ∙ ap₂ cited c.summaries-summaries.ensures c.record-record.ensures in
    let k = cites ss (record_in c.in-Some.signed) _ is _ c.in-Some-cited_inputs.is in
    walked-in _ _ _ c.in-Some.signed _ _ _ c.loop-signed.invariant (search rules) k.0
    (c.enter.ensures ∙ ap (λ (f : Fix). enter f c.loop-signed.fixes.items) (c.of.ensures ∙ rw (c.record-record.ensures, k.1, c.signers.ensures) refl))

pub loop-signed-preserved : goal.loop-signed-preserved
loop-signed-preserved c =
    let ss = c.args.register.now.summaries in
    let is : c.cited_inputs.result ≡ cited ss (record_in c.in-Some.signed) = c.cited_inputs.ensures ∙ ap₂ cited c.summaries-summaries.ensures c.record-record.ensures in
    walked-by _ _ _ c.in-Some.signed _ _ c.loop-signed.invariant (search rules) (cites-none ss (record_in c.in-Some.signed) _ is (search rules))

pub returns-clause-fixes : goal.returns-clause-fixes
returns-clause-fixes c = walked-end _ _ _ _ c.loop-signed.invariant (search rules)

pub returns-clause-formed : goal.returns-clause-formed
returns-clause-formed c =
    subst AllFormed (sym (returns-clause-fixes c)) (fixes-formed _ _ c.records-signed-items.ensures.formed)
