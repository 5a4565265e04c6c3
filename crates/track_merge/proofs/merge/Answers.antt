use mathlib.Core.Path.{sym, ap, ◌∙◌}
use Rattle.track_arrange.specs.Blocks.{held}
use Rattle.fixes.specs.Fix.{Fix}
use Rattle.track_transmission.specs.Held.{tied_to}
use Rattle.track_merge.specs.Searching.{only}
use Rattle.track_merge.proofs.Joining.{merged-none}
use Rattle.track_merge.proofs.merge.Goals as goal

pub join_at-requires-clause-only : goal.join_at-requires-clause-only
join_at-requires-clause-only c =
    let ts = held c.args.n c.args.t.now in
    ap (λ (f : Fix). only (tied_to f) ts) (sym c.fix.view_is) ∙ ap (only _) (sym (c.deref.ensures.0 ∙ c.blocks-2.ensures)) ∙ sym c.only_tied.ensures ∙ c.in-Some.is

pub returns-in-None : goal.returns-in-None
returns-in-None c =
    let ts = held c.args.n c.args.t.now in
    rw (merged-none c.args.fix.now ts (ap (λ (f : Fix). only (tied_to f) ts) (sym c.fix.view_is) ∙ ap (only _) (sym (c.deref.ensures.0 ∙ c.blocks-2.ensures)) ∙ sym c.only_tied.ensures ∙ c.in-None.is)) c.open.ensures
