use Rattle.std.proofs.Common.{sym, ap, ◌∙◌, length, take, replicate}
use Rattle.std.proofs.lemmas.List.{take-replicate}
use Rattle.std.specs.Prelude.{None}
use Rattle.decision.proofs.decide_items.Goals as goal

pub of-requires-2-clause-none_known : goal.of-requires-2-clause-none_known
of-requires-2-clause-none_known g c =
    let l = c.args.items.now in
    ap (take (length l)) c.requires.none_known ∙ take-replicate (length l) (length c.args.factors.now) None c.requires.factors_len ∙ ap (λ x. replicate (length x) None) (sym c.of.ensures)
