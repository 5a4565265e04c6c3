use mathlib.Core.Path.{ap, ap₂, ◌∙◌}
use mathlib.Core.Bool.{not}
use mathlib.Core.List.{map}
use lib.ListN.{length}
use Rattle.std.specs.List.{filter, list_any}
use Rattle.track_transmission.specs.Held.{fix_of, is_of}
use Rattle.track_normalize.specs.Joining.{moved}
use Rattle.track_normalize.specs.Did.{joined_as}
use Rattle.track_normalize.proofs.Told.{any_held, count_new}
use Rattle.track_normalize.proofs.joining.join.Goals as goal

pub returns-clause-told : goal.returns-clause-told
returns-clause-told c =
    let f = c.args.fix.now in
    let r = c.has_refused.ensures ∙ any_held (is_of f) c.deref.result.now ∙ ap (λ l. list_any (is_of f) (map fix_of l)) c.deref.ensures.0 in
    let m = c.is_moved.ensures ∙ ap₂ moved c.deref-2.ensures.0 c.deref-3.ensures.0 ∙ ap (λ t. moved t.fixes c.into.inside.fixes.items) c.held.view_is in
    let u = c.has.ensures ∙ ap (list_any (is_of f)) c.deref-4.ensures.0 in
    let n = c.entered.ensures ∙ count_new c.deref-5.result.now c.deref-6.result.now
    ∙ ap₂ (λ b a. length (filter (λ g. not (list_any (is_of g) (map fix_of b))) (map fix_of a))) c.deref-5.ensures.0 c.deref-6.ensures.0
    ∙ ap (λ t. length (filter (λ g. not (list_any (is_of g) (map fix_of t.refused))) (map fix_of c.into.inside.refused.items))) c.held.view_is in
    (λ t. record { refused = r t; moved = m t; upheld = u t; entered = n t }) ∙ ap (joined_as f c.args.held.now) c.into.view_is
