-- Registers that are equal but for the convicted engines hold the same, and have the same board.
use Rattle.std.proofs.Common.{◌≡◌, ◌∙◌, ap, ap₂, sym, refl, ℕ, ◌+◌, true, List, take, drop, drop-drop}
use Rattle.octets.specs.Words.{word}
use Rattle.octets.proofs.Comparison.{same-eq, same_refl}
use Rattle.tables.specs.Places.{places}
use Rattle.models.specs.Summary.{summary_size}
use Rattle.models.specs.Limits.{summaries_size}
use Rattle.signed_records.specs.Signed.{place_size}
use Rattle.register.specs.Layout.{summary_count_at}
use Rattle.register.specs.Memory.{decode, summaries_in, records_in}
use Rattle.board.specs.Board.{board_of}
use Rattle.board.specs.Full.{board_in}
use Rattle.rooms_text.specs.Boards.{boards_text}
use Rattle.rooms_text.specs.Compared.{is_equal}
use Rattle.rooms_text.specs.Claims.{AlikeInBoth}

module _ (m n : List ℕ) (h : is_equal m n ≡ true) where
  same-behind : (k : ℕ) → drop (summary_count_at + k) m ≡ drop (summary_count_at + k) n
  same-behind k =
      sym (drop-drop k summary_count_at m) ∙ ap (drop k) (same-eq (drop summary_count_at m) (drop summary_count_at n) h) ∙ drop-drop k summary_count_at n

  same-summaries : summaries_in m ≡ summaries_in n
  same-summaries =
      ap₂ (places summary_size) (ap (λ (t : List ℕ). word (take 2 t)) (same-behind 0)) (ap (take summaries_size) (same-behind 4))

  same-records : records_in m ≡ records_in n
  same-records = ap₂ (places place_size) (ap (λ (t : List ℕ). word (take 2 t)) (same-behind 2)) (same-behind (4 + summaries_size))

  same-boards : board_in (decode m) ≡ board_in (decode n)
  unfolding decode
  same-boards = ap₂ board_of same-summaries same-records

pub alike : AlikeInBoth
unfolding boards_text
alike m n h =
    let a = board_in (decode m) in
    ap (boards_text a) (sym (same-boards m n h)) ∙ rw (same_refl a) refl
