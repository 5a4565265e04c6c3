use Rattle.std.proofs.Common.{sym, ap₂, ◌∙◌}
use Rattle.octets.specs.Order.{is_before}
use Rattle.register_join.proofs.Walking.{wide-each}
use Rattle.register_join.proofs.Firsts.{behind-mine, behind-theirs, behind-both}
use Rattle.register_join.proofs.Turns.{none-left, mine-alone, mine-before, theirs-alone, theirs-before, both-first}
use Rattle.register_join.proofs.walk.first_of.Goals as goal

pub returns-in_default-split_first-clause-none : goal.returns-in_default-split_first-clause-none
returns-in_default-split_first-clause-none g c h =
    none-left g.row.KEY g.row.WIDTH g.K.Kind.merge g.K.Kind.test g.K.Kind.change g.K.Kind.left_of g.K.Kind.placed c.requires.kind c.args.their_convicted c.args.my_convicted c.args.mine.now c.args.theirs.now (wide-each g.row.WIDTH c.args.mine.now c.requires.mine_wide) (wide-each g.row.WIDTH c.args.theirs.now c.requires.theirs_wide) c.requires.mine c.requires.theirs
    c.in_default.ensures.cases c.in_default-split_first.ensures.cases

pub returns-in_default-clause-some : goal.returns-in_default-clause-some
returns-in_default-clause-some g c =
    theirs-alone g.row.KEY g.row.WIDTH g.K.Kind.merge g.K.Kind.test g.K.Kind.change g.K.Kind.left_of g.K.Kind.placed c.requires.kind c.args.their_convicted c.args.my_convicted c.args.mine.now c.args.theirs.now (wide-each g.row.WIDTH c.args.mine.now c.requires.mine_wide) (wide-each g.row.WIDTH c.args.theirs.now c.requires.theirs_wide) c.requires.mine c.requires.theirs
    c.in-Some-split_first.q.now c.in-Some-split_first.qs.now c.in-Some-split_first.ensures.cases.0 c.left-left.result c.left-left.ensures.value c.left-left.ensures.small c.in_default.ensures.cases

pub returns-in_default-clause-behind : goal.returns-in_default-clause-behind
returns-in_default-clause-behind g c = behind-theirs g.row.KEY g.row.WIDTH c.args.mine.now c.args.theirs.now c.requires.mine c.requires.theirs c.requires.mine_wide c.requires.theirs_wide c.in-Some-split_first.q.now c.in-Some-split_first.qs.now c.in-Some-split_first.ensures.cases.0

pub returns-in_default-split_first-2-clause-some : goal.returns-in_default-split_first-2-clause-some
returns-in_default-split_first-2-clause-some g c =
    mine-alone g.row.KEY g.row.WIDTH g.K.Kind.merge g.K.Kind.test g.K.Kind.change g.K.Kind.left_of g.K.Kind.placed c.requires.kind c.args.their_convicted c.args.my_convicted c.args.mine.now c.args.theirs.now (wide-each g.row.WIDTH c.args.mine.now c.requires.mine_wide) (wide-each g.row.WIDTH c.args.theirs.now c.requires.theirs_wide) c.requires.mine c.requires.theirs
    c.in-Some.p.now c.in-Some.ps.now c.in-Some.ensures.cases.0 c.left-mine_left.result c.left-mine_left.ensures.value c.in_default-split_first-2.ensures.cases

pub returns-in_default-split_first-2-clause-behind : goal.returns-in_default-split_first-2-clause-behind
returns-in_default-split_first-2-clause-behind g c = behind-mine g.row.KEY g.row.WIDTH c.args.mine.now c.args.theirs.now c.requires.mine c.requires.theirs c.requires.mine_wide c.requires.theirs_wide c.in-Some.p.now c.in-Some.ps.now c.in-Some.ensures.cases.0

pub returns-then-precedes-clause-some : goal.returns-then-precedes-clause-some
returns-then-precedes-clause-some g c =
    mine-before g.row.KEY g.row.WIDTH g.K.Kind.merge g.K.Kind.test g.K.Kind.change g.K.Kind.left_of g.K.Kind.placed c.requires.kind c.args.their_convicted c.args.my_convicted c.args.mine.now c.args.theirs.now (wide-each g.row.WIDTH c.args.mine.now c.requires.mine_wide) (wide-each g.row.WIDTH c.args.theirs.now c.requires.theirs_wide) c.requires.mine c.requires.theirs
    c.in-Some.p.now c.in-Some.ps.now c.in-Some.ensures.cases.0 c.left-mine_left.result c.left-mine_left.ensures.value
    c.in-Some-split_first-2.q.now c.in-Some-split_first-2.qs.now c.in-Some-split_first-2.ensures.cases.0 (ap₂ is_before (sym c.key_of-my_key.ensures) (sym c.key_of-their_key.ensures) ∙ sym c.precedes.ensures ∙ c.if-precedes.true)

pub returns-then-precedes-clause-behind : goal.returns-then-precedes-clause-behind
returns-then-precedes-clause-behind g c = behind-mine g.row.KEY g.row.WIDTH c.args.mine.now c.args.theirs.now c.requires.mine c.requires.theirs c.requires.mine_wide c.requires.theirs_wide c.in-Some.p.now c.in-Some.ps.now c.in-Some.ensures.cases.0

pub returns-then-precedes-2-clause-some : goal.returns-then-precedes-2-clause-some
returns-then-precedes-2-clause-some g c =
    theirs-before g.row.KEY g.row.WIDTH g.K.Kind.merge g.K.Kind.test g.K.Kind.change g.K.Kind.left_of g.K.Kind.placed c.requires.kind c.args.their_convicted c.args.my_convicted c.args.mine.now c.args.theirs.now (wide-each g.row.WIDTH c.args.mine.now c.requires.mine_wide) (wide-each g.row.WIDTH c.args.theirs.now c.requires.theirs_wide) c.requires.mine c.requires.theirs
    c.in-Some-split_first-2.q.now c.in-Some-split_first-2.qs.now c.in-Some-split_first-2.ensures.cases.0 c.left-theirs_left.result c.left-theirs_left.ensures.value c.left-theirs_left.ensures.small
    c.in-Some.p.now c.in-Some.ps.now c.in-Some.ensures.cases.0 (ap₂ is_before (sym c.key_of-their_key.ensures) (sym c.key_of-my_key.ensures) ∙ sym c.precedes-2.ensures ∙ c.if-precedes-2.true)

pub returns-then-precedes-2-clause-behind : goal.returns-then-precedes-2-clause-behind
returns-then-precedes-2-clause-behind g c = behind-theirs g.row.KEY g.row.WIDTH c.args.mine.now c.args.theirs.now c.requires.mine c.requires.theirs c.requires.mine_wide c.requires.theirs_wide c.in-Some-split_first-2.q.now c.in-Some-split_first-2.qs.now c.in-Some-split_first-2.ensures.cases.0

pub returns-clause-some : goal.returns-clause-some
returns-clause-some g c =
    both-first g.row.KEY g.row.WIDTH g.K.Kind.merge g.K.Kind.test g.K.Kind.change g.K.Kind.left_of g.K.Kind.placed c.requires.kind c.args.their_convicted c.args.my_convicted c.args.mine.now c.args.theirs.now (wide-each g.row.WIDTH c.args.mine.now c.requires.mine_wide) (wide-each g.row.WIDTH c.args.theirs.now c.requires.theirs_wide) c.requires.mine c.requires.theirs
    c.in-Some-split_first-2.q.now c.in-Some-split_first-2.qs.now c.in-Some-split_first-2.ensures.cases.0 c.left-theirs_left.result c.left-theirs_left.ensures.value c.left-theirs_left.ensures.small
    c.in-Some.p.now c.in-Some.ps.now c.in-Some.ensures.cases.0 c.left-mine_left.result c.left-mine_left.ensures.value c.left-mine_left.ensures.small
    (ap₂ is_before (sym c.key_of-my_key.ensures) (sym c.key_of-their_key.ensures) ∙ sym c.precedes.ensures ∙ c.if-precedes.false) (ap₂ is_before (sym c.key_of-their_key.ensures) (sym c.key_of-my_key.ensures) ∙ sym c.precedes-2.ensures ∙ c.if-precedes-2.false)

pub returns-clause-behind : goal.returns-clause-behind
returns-clause-behind g c =
    behind-both g.row.KEY g.row.WIDTH c.args.mine.now c.args.theirs.now c.requires.mine c.requires.theirs c.requires.mine_wide c.requires.theirs_wide c.in-Some.p.now c.in-Some-split_first-2.q.now c.in-Some.ps.now c.in-Some-split_first-2.qs.now c.in-Some.ensures.cases.0 c.in-Some-split_first-2.ensures.cases.0
