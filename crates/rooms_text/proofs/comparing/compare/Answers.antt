use Rattle.std.proofs.Common.{◌≡◌, ◌∙◌, ap, ap₂, ℕ, Bool, List, ◌++◌}
use Rattle.register.specs.Register.{Register}
use Rattle.register.specs.Memory.{decode}
use Rattle.register_join.specs.Lacks.{lacking}
use Rattle.board.specs.Full.{board_in}
use Rattle.rooms_text.specs.declared.lines.Room.TheVariants as room
use Rattle.rooms_text.specs.Lacking.{lacking_text}
use Rattle.rooms_text.specs.Boards.{boards_text}
use Rattle.rooms_text.specs.Compared.{equal_line, is_equal, compared}
use Rattle.rooms_text.proofs.comparing.compare.Goals as goal

pub returns-clause-text : goal.returns-clause-text
unfolding compared
returns-clause-text c =
    let m = c.args.a.now in
    let n = c.args.b.now in
    let a = lacking_text room.A (lacking (decode n) (decode m)) in
    let b = lacking_text room.B (lacking (decode m) (decode n)) in
    let equal = equal_line (is_equal m n) in
    let boards = boards_text (board_in (decode m)) (board_in (decode n)) in
    let one : c.push_lacks.new.out.items ≡ a = c.in_ok-push_lacks.ensures ∙ ap (λ (t : List ℕ). t ++ a) c.new-text.ensures.items in
    let two : c.push_lacks-2.new.out.items ≡ a ++ b = c.in_ok-push_lacks-2.ensures ∙ ap (λ (t : List ℕ). t ++ b) one in
    let three : c.push_equal.new.out.items ≡ (a ++ b) ++ equal =
    c.in_ok-push_equal.ensures ∙ ap₂ (λ (t : List ℕ) (e : Bool). t ++ equal_line e) two c.is_equal-equal.ensures in
    let drawn : c.push_boards_of.new.out.items ≡ c.push_equal.new.out.items ++ boards =
    c.in_ok-push_boards_of.ensures ∙ ap₂ (λ (s t : Register). c.push_equal.new.out.items ++ boards_text (board_in s) (board_in t)) c.of.ensures c.of-2.ensures in
    drawn ∙ ap (λ (t : List ℕ). t ++ boards) three
