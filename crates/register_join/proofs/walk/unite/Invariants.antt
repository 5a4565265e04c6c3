-- The places that are left of both tables are the rest of those that are written.
use Rattle.std.proofs.Common.{◌≡◌, true, ◌+◌, length}
use Rattle.tables.specs.Places.{ascending}
use Rattle.register_join.specs.Merged.{together, EachWide}
use Rattle.register_join.proofs.Filling.{Filled}
use Rattle.register_join.proofs.walk.unite.Given as goal

abbrev pub invariant-loop-first : goal.invariant-loop-first
invariant-loop-first g l = record {
  mine_ascend : ascending g.row.KEY l.mine ≡ true;
  theirs_ascend : ascending g.row.KEY l.theirs ≡ true;
  mine_wide : EachWide g.row.WIDTH l.mine;
  theirs_wide : EachWide g.row.WIDTH l.theirs;
  filled : Filled g.row.WIDTH g.row.CAP (together g.row.KEY g.K.Kind.merge g.K.Kind.test g.K.Kind.change l.their_convicted l.mine-2 l.my_convicted l.theirs-2) l.out l.count
      (together g.row.KEY g.K.Kind.merge g.K.Kind.test g.K.Kind.change l.their_convicted l.mine l.my_convicted l.theirs);
}

abbrev pub decreases-loop-first : goal.decreases-loop-first
decreases-loop-first g l = length l.mine + length l.theirs
