use mathlib.Core.Path.{ap, ◌∙◌}
use mathlib.Core.Bool.{not}
use Rattle.std.specs.List.{list_any}
use Rattle.track_transmission.specs.Held.{fix_of, is_of}
use Rattle.track_normalize.proofs.joining.is_new.Goals as goal

pub returns : goal.returns
returns c =
    ap not
    (c.has_refused.ensures ∙ ap (λ f. list_any (λ y. is_of f (fix_of y)) c.args.before.now) (ap fix_of c.refusal.view_is))
