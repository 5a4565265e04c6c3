use Rattle.std.proofs.Common.{◌≡◌, ◌∙◌, refl, sym, ap, ℕ, suc, ◌+◌, ◌-◌, List, arith}
use Rattle.session_lines.specs.Numbers.{split_once}
use Rattle.session_text.specs.Found.{behind_feed, behind_lines}
use Rattle.session_text.proofs.found.from_line.Goals as goal

pub lines-init : goal.lines-init
unfolding behind_lines
lines-init c = refl

pub lines-preserved : goal.lines-preserved
unfolding behind_lines
lines-preserved c =
    let n : ℕ = c.lines._number in
    let e : n + 1 ≡ suc n = omega arith in
    ap (λ (k : ℕ). behind_lines k c.args.input.now) e ∙ ap (λ (t : List ℕ). behind_feed (split_once 10 t)) c.lines.invariant ∙ sym c.behind_feed-rest.ensures

pub returns : goal.returns
returns c =
    let e : c.lines._number ≡ c.args.line - 1 = omega arith in
    sym c.lines.invariant ∙ ap (λ (k : ℕ). behind_lines k c.args.input.now) e
