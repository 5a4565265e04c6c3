use Rattle.std.proofs.Common.{get_or, arith}
use Rattle.board_transmissions.specs.Links.{members_of}
use Rattle.board_picture.specs.Lines.{line_refused}
use Rattle.board_picture.proofs.Listing.{none_yet, one_more, member-at, refused-is, room-left}
use Rattle.board_picture.proofs.deciding.push_refused.Goals as goal

pub loop-refusal-init : goal.loop-refusal-init
loop-refusal-init c = none_yet c.args.transmission.now.fixes c.args.lines.now.items

pub push-requires : goal.push-requires
push-requires c = (omega arith, room-left c.args.transmission.now.fixes (line_refused (members_of c.args.transmission.now)) c.args.refusals.now c.loop-refusal.refusal-index c.loop-refusal-test.true c.loop-refusal.invariant c.requires.room)

pub loop-refusal-preserved : goal.loop-refusal-preserved
loop-refusal-preserved c =
    let m = c.args.transmission.now in
    one_more m.fixes (line_refused (members_of m)) c.args.lines.now.items _ _ c.args.refusals.now c.loop-refusal.refusal-index _ _ c.loop-refusal-test.true c.loop-refusal.invariant c.push.ensures.items
    (refused-is m.fixes (members_of m) (get_or c.args.refusals.now c.loop-refusal.refusal-index _) _ _
    (member-at m _ _ (c.requires.below c.loop-refusal.refusal-index _ c.loop-refusal-test.true) c.index-fix.ensures.value)
    (member-at m _ _ (c.requires.against c.loop-refusal.refusal-index _ c.loop-refusal-test.true) c.index-against.ensures.value)) c.index-fix.ensures.within c.index-against.ensures.within
