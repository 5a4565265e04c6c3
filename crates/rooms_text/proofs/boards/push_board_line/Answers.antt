use Rattle.std.proofs.Common.{◌≡◌, ◌∙◌, ap, sym, List, ℕ, false, ◌==◌, length, ◌++◌, append_assoc, arith}
use Rattle.octets.specs.Ascii.{ascii}
use Rattle.rooms_text.specs.Boards.{prefix, board_line}
use Rattle.rooms_text.proofs.Heap.{added, front-put}
use Rattle.rooms_text.proofs.Widths.{prefix-width}
use Rattle.rooms_text.proofs.boards.push_board_line.Goals as goal

pub returns : goal.returns
unfolding ascii
returns c =
    let out = c.args.out.now.items in
    let line = c.args.line.now in
    let before = prefix c.args.room c.args.number in
    let end = ascii "\n" in
    let some : (length line == 0) ≡ false = sym c.is_empty.ensures ∙ c.if-is_empty.false in
    let short = prefix-width c.args.room c.args.number in
    let put = c.write_prefix-n.ensures.1 in
    let front = front-put _ _ _ _ put (omega (arith, short)) in
    let first : c.extend_from_slice.new.self.items ≡ out ++ before = c.in_ok-extend_from_slice.ensures.items ∙ ap (λ (s : List ℕ). out ++ s) front in
    let second : c.extend_from_slice-2.new.self.items ≡ out ++ (before ++ line) =
    c.in_ok-extend_from_slice-2.ensures.items ∙ ap (λ (s : List ℕ). s ++ line) first ∙ append_assoc out before line in
    let third : c.extend_from_slice-2.new.self.items ++ end ≡ out ++ ((before ++ line) ++ end) =
    ap (λ (s : List ℕ). s ++ end) second ∙ append_assoc out (before ++ line) end in
    let whole : c.extend_from_slice-2.new.self.items ++ end ≡ out ++ board_line c.args.room c.args.number line = rw some third in
    added _ c.extend_from_slice-2.new.self.items c.extend_from_slice-3.new.self.items end _ c.extend_from_slice-3.ensures.items whole
