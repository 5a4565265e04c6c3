use mathlib.Core.Path.{sym, ap, ◌∙◌}
use mathlib.Core.List.{[]}
use native.Mathlib.Omega.{arith}
use lib.ListN.{take}
use lib.Seq.{length-take-le, take_all}
use Rattle.track_arrange.specs.Leads.{before, put_all_behind, leads_from, kept_of, put_behind}
use Rattle.track_arrange.proofs.Entering.{none-yet, one-entered, none-entered, entered-few}
use Rattle.track_arrange.proofs.leads.enter_all.Goals as goal
use Rattle.track_arrange.proofs.leads.enter_all.Goals.{in-Some, in_default}

pub loop-place-init : goal.loop-place-init
loop-place-init c = c.requires ∙ none-yet

pub enter-requires : goal.enter-requires
enter-requires c =
    let i = c.loop-place.place in
    let bs = c.as_slice-blocks.result.now in
    let f = entered-few c.loop-place.leads.items (take i bs) c.loop-place.invariant in
    let l = length-take-le i bs (omega (arith, c.loop-place-test.true)) in
    omega (arith, f, l, c.loop-place-test.true, c.as_slice-blocks.ensures.fits)

pub loop-place-preserved : goal.loop-place-preserved
loop-place-preserved c =
    let d = c.index-blocks-place.result in
    let e = c.kept.ensures ∙ ap kept_of c.index-blocks-place.is in
    elim c.match-kept.branch [
      | in-Some w ↦
          one-entered _ _ c.as_slice-blocks.result.now c.loop-place.place d c.loop-place-test.true c.loop-place.invariant w.in-Some.kept (sym w.in-Some.is ∙ e) (ap (λ x. x.items) w.leads-is ∙ w.enter.ensures ∙ ap (λ x. put_behind before x c.loop-place.leads.items) w.of.ensures)
      | in_default w ↦
          none-entered _ _ c.as_slice-blocks.result.now c.loop-place.place d c.loop-place-test.true c.loop-place.invariant (sym w.in_default.is ∙ e) (ap (λ x. x.items) w.leads-is)
    ]

pub returns : goal.returns
returns c =
    let all = take_all c.loop-place.place c.as_slice-blocks.result.now c.loop-place-test.false ∙ c.as_slice-blocks.ensures.value in
    c.loop-place.invariant ∙ ap (λ ts. put_all_behind before [] (leads_from 0 ts)) all
