use Rattle.std.proofs.Common.{ap, arith}
use Rattle.fixes.specs.Items.{fix_at}
use Rattle.board_transmissions.specs.Links.{members_of}
use Rattle.board_picture.specs.Lines.{line_of}
use Rattle.board_picture.proofs.Listing.{none_yet, one_more, member-at, room-left}
use Rattle.board_picture.proofs.deciding.push_named.Goals as goal

pub loop-i-init : goal.loop-i-init
loop-i-init c = none_yet c.args.transmission.now.fixes c.args.lines.now.items

pub push-requires : goal.push-requires
push-requires c = (omega arith, room-left c.args.transmission.now.fixes (λ i. line_of c.args.standing (fix_at (members_of c.args.transmission.now) i)) c.args.named.now c.loop-i.i-index c.loop-i-test.true c.loop-i.invariant c.requires.room)

pub loop-i-preserved : goal.loop-i-preserved
loop-i-preserved c =
    let m = c.args.transmission.now in
    one_more m.fixes (λ i. line_of c.args.standing (fix_at (members_of m) i)) c.args.lines.now.items _ _ c.args.named.now c.loop-i.i-index 0 _ c.loop-i-test.true c.loop-i.invariant c.push.ensures.items
    (ap (line_of c.args.standing) (member-at m _ _ (c.requires.below c.loop-i.i-index 0 c.loop-i-test.true) c.index-fix.ensures.value)) c.index-fix.ensures.within c.index-fix.ensures.within
