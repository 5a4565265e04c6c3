use Rattle.std.proofs.Common.{rules, ◌∙◌, sym, arith}
use Rattle.board_transmissions.specs.Links.{members_of}
use Rattle.fixes.proofs.Showing.{shows-each}
use Rattle.board_picture.proofs.Listing.{members-length}
use Rattle.board_picture.proofs.deciding.push_least.Goals as goal

pub push_decided-requires : goal.push_decided-requires
push_decided-requires c =
    let d = c.decide_least-decision.ensures in
    (omega arith, (shows-each (members_of c.args.transmission.now) d.items (d.long ∙ c.len.ensures.value ∙ sym (members-length c.args.transmission.now)) (λ i x h e. let q = d.held i x (omega (arith, d.long, h)) e in search rules) d.says, c.requires.room))
