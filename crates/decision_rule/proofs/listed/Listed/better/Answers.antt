use Rattle.std.proofs.Common.{◌≡◌, ◌<◌, subst, sym, ◌∙◌, refl, length, true, false}
use Rattle.std.specs.Prelude.{IfSome}
use Rattle.decision_items.specs.Values as V
use Rattle.decision_rule.specs.Listed.{relations}
use Rattle.decision_rule.proofs.Known.{two-at}
use Rattle.decision_rule.proofs.listed.Listed.better.Goals as goal

pub returns-then-is_lower : goal.returns-then-is_lower
returns-then-is_lower c =
    let l = c.args.self.now.items.now in
    let h = subst (λ o. IfSome o (λ b. b < length l)) c.in-Some.is c.requires.1 in
    let e : (relations l).lower c.args.j c.in-Some.b ≡ true =
    sym (two-at false V.lower l c.args.j c.in-Some.b c.index-self-j.result c.index-self-b.result c.requires.0 h) ∙ sym c.is_lower.ensures ∙ c.if-is_lower.true in
    rw (c.in-Some.is, e) refl

pub returns : goal.returns
returns c =
    let l = c.args.self.now.items.now in
    let h = subst (λ o. IfSome o (λ b. b < length l)) c.in-Some.is c.requires.1 in
    let e : (relations l).lower c.args.j c.in-Some.b ≡ false =
    sym (two-at false V.lower l c.args.j c.in-Some.b c.index-self-j.result c.index-self-b.result c.requires.0 h) ∙ sym c.is_lower.ensures ∙ c.if-is_lower.false in
    rw (c.in-Some.is, e) refl
