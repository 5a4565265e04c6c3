use Rattle.std.proofs.Common.{◌≡◌, ◌∙◌, sym, refl, true, false, ◌++◌}
use Rattle.octets.specs.Ascii.{ascii}
use Rattle.octets.specs.Order.{same}
use Rattle.rooms_text.specs.Boards.{differences, boards_text}
use Rattle.rooms_text.proofs.Heap.{added, behind}
use Rattle.rooms_text.proofs.boards.push_boards.Goals as goal

pub returns-then-equal : goal.returns-then-equal
unfolding boards_text ascii
returns-then-equal c =
    let alike : same c.args.a.now c.args.b.now ≡ true = sym c.equal.ensures ∙ c.if-equal.true in
    let text : c.args.out.now.items ++ ascii "boards=equal\n" ≡ c.args.out.now.items ++ boards_text c.args.a.now c.args.b.now = rw alike refl in
    added _ c.args.out.now.items c.extend_from_slice.new.self.items (ascii "boards=equal\n") _ c.extend_from_slice.ensures.items text

pub returns : goal.returns
unfolding boards_text ascii
returns c =
    let unlike : same c.args.a.now c.args.b.now ≡ false = sym c.equal.ensures ∙ c.if-equal.false in
    let text : ascii "boards=different\n" ++ differences c.args.a.now c.args.b.now ≡ boards_text c.args.a.now c.args.b.now = rw unlike refl in
    behind _ _ _ _ _ _ _ c.in_ok-extend_from_slice.ensures.items text c.push_differences.ensures
