-- What a crew sees: it follows from the full board, and from its ranked lines; and a board's refusals in their order.
use Rattle.std.proofs.Common.{ℕ, ◌≡◌, ◌==◌, refl, sym, ap, ◌∙◌, Bool, ◌||◌, cond, not, List, [], ◌∷◌, ◌++◌, map, ltb, eqb, length, lt-ltb}
use mathlib.Core.List.{flat_map}
use Rattle.std.specs.List.{filter, before_first, slice_split}
use Rattle.octets.specs.Ascii.{ascii}
use Rattle.lists.proofs.Bools.{by}
use Rattle.board_picture.specs.Picture.{picture, latest_of}
use Rattle.fix_lines.specs.Text.{board_size}
use Rattle.fix_lines.specs.CrewFromFull.{crew_line}
use Rattle.fix_lines.proofs.Crew.{crew-from-full}
use Rattle.errors.specs.After.{After, after, write_text}
use Rattle.desks.specs.declared.Desk.TheVariants.{Crew}
use Rattle.desks.proofs.Rights.{each-number, at-no-desk}
use Rattle.register.specs.Register.{Register}
use Rattle.register.specs.Memory.{well_formed, decode}
use Rattle.board.specs.Board.{board_of, crew_board_of, board_seen, draw_for, draw_board}
use Rattle.board.specs.Full.{board_in}
use Rattle.board.specs.Crew.{is_header, is_ranked, without_counts, ranked_lines, CrewFollows, SameToCrews, BoardInOrder}

pub crew-follows : CrewFollows
unfolding board_of crew_board_of
crew-follows s = sym (crew-from-full (latest_of (picture s.summaries s.records)))

-- ---- from the ranked lines

-- lines, each with its line feed
abbrev joined : List (List ℕ) → List ℕ
joined ls = flat_map (λ l. l ++ ascii "\n") ls

abbrev to_crews : List ℕ → Bool
to_crews l = is_header l || is_ranked l

-- what a crew sees of lines is those that are kept of them
lines-joined : (ls : List (List ℕ)) → flat_map crew_line ls ≡ joined (map without_counts (filter to_crews ls))
unfolding mathlib.Core.List.flat_map
lines-joined [] = refl
lines-joined (l ∷ ls) =
    by (is_header l)
    (λ h. rw (h, h) (ap (λ (t : List ℕ). (before_first (λ b. b == 32) l ++ ascii "\n") ++ t) (lines-joined ls)))
    (λ h.
    by (is_ranked l)
    (λ r. rw (h, r, h) (ap (λ (t : List ℕ). (l ++ ascii "\n") ++ t) (lines-joined ls)))
    (λ r. rw (h, r) (lines-joined ls)))

seen : (u : Register) → board_seen Crew u ≡ joined (ranked_lines (board_in u))
seen u = crew-follows u ∙ lines-joined (slice_split (λ b. b == 10) (board_in u))

pub same-to-crews : SameToCrews
same-to-crews s t e = seen s ∙ ap joined e ∙ sym (seen t)

-- ---- refused in order

pub board-in-order : BoardInOrder
unfolding draw_for
board-in-order desk m out =
    each-number
    (λ (n : ℕ). draw_board n m out
    ≡ cond (ltb 2 n) (after 15 out)
    (cond (not (well_formed m)) (after 1 out)
    (cond (ltb (length out) board_size) (after 10 out)
    (write_text (cond (eqb n 0) (board_seen Crew (decode m)) (board_in (decode m))) out))))
    (turned (write_text (board_seen Crew (decode m)) out))
    (turned (write_text (board_in (decode m)) out))
    (turned (write_text (board_in (decode m)) out))
    (λ n over none. at-no-desk n out _ none ∙ rw (lt-ltb 2 n over) refl)
    desk
  where
    turned : (x : After (List ℕ))
        → cond (well_formed m) (cond (ltb (length out) board_size) (after 10 out) x) (after 1 out)
        ≡ cond (not (well_formed m)) (after 1 out) (cond (ltb (length out) board_size) (after 10 out) x)
    turned x = by (well_formed m) (λ w. rw w refl) (λ w. rw w refl)
