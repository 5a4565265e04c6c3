use Rattle.session_text.proofs.Quiet.{line-without-board, board-as-it-is, no-board-is-the-line}
use Rattle.session_text.proofs.claims.the_board_or_the_line_comes_after_the_answers.Goals as goal

pub returns : goal.returns
returns c = record { without_board = line-without-board; board_as_it_is = board-as-it-is; no_board_is_the_line = no-board-is-the-line }
