use Rattle.std.proofs.Common.{◌≡◌, length, ap, arith}
use Rattle.fix_lines.specs.declared.Standing.TheVariants.{Ranked}
use Rattle.board_transmissions.specs.Links.{members_of}
use Rattle.board_picture.specs.Lines.{line_of}
use Rattle.board_picture.proofs.Listing.{alone, alone-counts, member-at, members-length}
use Rattle.board_picture.proofs.deciding.push_lines.Goals as goal

pub returns-clause-decided : goal.returns-clause-decided
returns-clause-decided c =
    let m = c.args.transmission.now in
    let n = members-length m in
    let one : length (members_of m) ≡ 1 = omega (arith, n, c.len-2.ensures.value, c.if-len-gt1.false, c.len-2.ensures.some) in
    record {
      lines = alone m.fixes (members_of m) c.args.lines.now.items _ _ one c.push.ensures.items
          (ap (line_of Ranked) (member-at m 0 _ (omega (arith, n, one)) c.index-fix.ensures.value)) c.index-fix.ensures.within c.index-fix.ensures.within;
      counts = alone-counts (members_of m) one;
    }
