use Rattle.std.proofs.Common.{◌≡◌, refl, ◌++◌}
use Rattle.octets.specs.Ascii.{ascii}
use Rattle.rooms_text.specs.Compared.{equal_line}
use Rattle.rooms_text.proofs.Heap.{added}
use Rattle.rooms_text.proofs.comparing.push_equal.Goals as goal

pub returns-then-equal : goal.returns-then-equal
unfolding ascii
returns-then-equal c =
    let out = c.args.out.now.items in
    let text : out ++ ascii "registers=equal\n" ≡ out ++ equal_line c.args.equal = rw c.if-equal.true refl in
    added _ out c.extend_from_slice.new.self.items (ascii "registers=equal\n") _ c.extend_from_slice.ensures.items text

pub returns-else-equal : goal.returns-else-equal
unfolding ascii
returns-else-equal c =
    let out = c.args.out.now.items in
    let text : out ++ ascii "registers=different\n" ≡ out ++ equal_line c.args.equal = rw c.if-equal.false refl in
    added _ out c.extend_from_slice-else-equal.new.self.items (ascii "registers=different\n") _ c.extend_from_slice-else-equal.ensures.items text
