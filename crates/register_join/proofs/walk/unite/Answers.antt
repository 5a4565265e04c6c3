use Rattle.std.proofs.Common.{◌∙◌, take, arith}
use Rattle.register_join.specs.Merged.{together}
use Rattle.register_join.proofs.Filling.{none-written, next-written}
use Rattle.register_join.proofs.Turns.{with-left}
use Rattle.register_join.proofs.walk.unite.Goals as goal

pub loop-first-init : goal.loop-first-init
loop-first-init g c = record {
  mine_ascend = c.requires.mine;
  theirs_ascend = c.requires.theirs;
  mine_wide = c.requires.mine_wide;
  theirs_wide = c.requires.theirs_wide;
  filled = none-written g.row.WIDTH g.row.CAP (together g.row.KEY g.K.Kind.merge g.K.Kind.test g.K.Kind.change c.args.their_convicted c.args.mine.now c.args.my_convicted c.args.theirs.now) c.args.out.now c.requires.zero;
}

pub loop-first-preserved : goal.loop-first-preserved
loop-first-preserved g c =
    let f = c.in-Some.first in
    let whole = together g.row.KEY g.K.Kind.merge g.K.Kind.test g.K.Kind.change c.args.their_convicted c.args.mine.now c.args.my_convicted c.args.theirs.now in
    let rest = together g.row.KEY g.K.Kind.merge g.K.Kind.test g.K.Kind.change c.args.their_convicted c.loop-first.mine.now c.args.my_convicted c.loop-first.theirs.now in
    let after = together g.row.KEY g.K.Kind.merge g.K.Kind.test g.K.Kind.change c.args.their_convicted f.mine.now c.args.my_convicted f.theirs.now in
    let filled = c.loop-first.invariant.filled in
    record {
      mine_ascend = c.in-Some.ensures.behind.mine_ascend;
      theirs_ascend = c.in-Some.ensures.behind.theirs_ascend;
      mine_wide = c.in-Some.ensures.behind.mine_wide;
      theirs_wide = c.in-Some.ensures.behind.theirs_wide;
      filled =
          next-written g.row.WIDTH g.row.CAP whole c.loop-first.out c.loop-first.count rest filled (let few = filled.few in let full = c.if-count.false in omega arith)
          (g.K.Kind.placed (take g.row.KEY f.place.now) f.left) after (c.in-Some.ensures.some ∙ with-left g.row.KEY g.K.Kind.placed f.place.now f.left after c.if-first-eq0.false)
          (c.requires.kind.as_wide f.place.now f.left c.put.ensures.size) c.put.new.t c.put.ensures.bytes;
    }
