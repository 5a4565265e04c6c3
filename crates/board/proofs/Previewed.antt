-- What a preview gives: the refusals in their order, the board after the conviction, the present board where nothing of the engine is held, and after a list of
-- calls the board after that list with the conviction at its end.
use Rattle.std.proofs.Common.{ℕ, ◌≤◌, ◌≡◌, refl, sym, ap, ap₂, ◌∙◌, true, false, cond, not, ◌&&◌, List, [], ◌∷◌, arith, ltb, eqb, length, ne_eqb, lt-ltb, le-ltb, ltb-true, ltb-false}
use borrow.Author.Tests.{eqb-false}
use Rattle.lists.proofs.Bools.{by, and_both}
use Rattle.octets.specs.Bytes.{Bytes}
use Rattle.tables.specs.Places.{keep_places}
use Rattle.models.specs.Summary.{summary_size}
use Rattle.record.specs.Layout.{record_size}
use Rattle.errors.specs.After.{After, after, write_text}
use Rattle.engines.specs.Limits.{max_engine}
use Rattle.models.specs.Summaries.{is_of_another, no_value}
use Rattle.signed_records.specs.Signed.{drop_signer, has_another_signer}
use Rattle.fix_lines.specs.Text.{board_size}
use Rattle.register.specs.Register.{Register, take_conviction, strike_engine}
use Rattle.register.specs.Memory.{well_formed, decode, encode, fresh}
use Rattle.register.specs.Calls.{Call, conviction, runs, none_full}
use Rattle.register.proofs.Answers.{no_register, on-register, refused, conviction-2, conviction-0}
use Rattle.register.proofs.Further.{runs_then, none-full-then, runs-formed}
use Rattle.register.proofs.Kept.{decode-valid, still_formed}
use Rattle.register.proofs.Opened.{opened}
use Rattle.register.proofs.Steps.{struck-valid, summaries-stay, records-stay, convicted-engine, convicted-no-summary, convicted-no-signature}
use Rattle.register.proofs.Valid.{Valid, decode-encode, formed-encode}
use Rattle.register.proofs.Whole.{last, decoded, same-summaries, same-records}
use Rattle.desks.specs.declared.Desk.{Desk}
use Rattle.desks.specs.declared.Desk.TheVariants.{Manager}
use Rattle.desks.specs.Desks.{number_of}
use Rattle.desks.specs.Previewing.{may_preview}
use Rattle.desks.proofs.Rights.{each-number, at-no-desk}
use Rattle.board.specs.Board.{board_of, board_for, board_seen, draw_for, draw_board}
use Rattle.board.specs.Preview.{convict, preview_of, draw_preview}
use Rattle.board.specs.Full.{board_in}
use Rattle.board.specs.Claims.{board_over}
use Rattle.board.specs.Previews.{RefusedInOrder, AnalystAsManager, ThenConvicted, ConvictedIsPresent, Idle, IdleIsPresent, then_convict, ConvictionAtTheEnd, PreviewsInBothRooms}
use Rattle.board.proofs.Desks.{draw-by, preview-for, full-for}
use Rattle.board.proofs.Fitting.{fits, no_refusal}
use Rattle.board.proofs.WholeLists.{valid, board-over, drawn}

-- ---- by what the conviction gives

module _ (e : ℕ) (m : List ℕ) (out : List ℕ) where
  preview-by : (a : After (List ℕ)) → a ≡ convict e m → preview_of e m out ≡ cond (eqb a.answer 0) (draw_for Manager a.left out) (after a.answer out)
  unfolding preview_of
  preview-by a h = ap (λ (x : After (List ℕ)). cond (eqb x.answer 0) (draw_for Manager x.left out) (after x.answer out)) (sym h)

  pub preview-refused : (n : ℕ) (l : List ℕ) → after n l ≡ convict e m → (n ≡ 0 → ⊥) → preview_of e m out ≡ after n out
  preview-refused n l h z = preview-by (after n l) h ∙ rw (ne_eqb n 0 z) refl

  pub preview-drawn : (n : ℕ) (l : List ℕ) → after n l ≡ convict e m → n ≡ 0 → preview_of e m out ≡ draw_for Manager l out
  preview-drawn n l h z = preview-by (after n l) h ∙ rw z refl

-- ---- what the conviction gives

module _ (e : ℕ) (m : List ℕ) where
  pub no_copy : well_formed m ≡ false → after 1 m ≡ convict e m
  no_copy = no_register (take_conviction e) m

  -- what is convicted was a register, and stays one
  module _ (n : ℕ) (l : List ℕ) (h : after n l ≡ convict e m) (z : n ≡ 0) where
    pub was-formed : well_formed m ≡ true
    was-formed = by (well_formed m) (λ w. w) (λ w. absurd (eqb-false 1 0 refl (sym (ap (λ (a : After (List ℕ)). a.answer) (h ∙ sym (no_copy w))) ∙ z)))

    pub copy-formed : Bytes m → well_formed l ≡ true
    copy-formed b = ap (λ (a : After (List ℕ)). well_formed a.left) h ∙ still_formed (conviction (number_of Manager) e) m b was-formed

  module _ (w : well_formed m ≡ true) (a : e ≤ max_engine) where
    struck : after 0 (encode (strike_engine e (decode m))) ≡ convict e m
    struck = on-register (take_conviction e) m w (after 0 (encode (strike_engine e (decode m)))) (rw (conviction-0 e (decode m) a) refl)

    -- the preview is the board of the copy, whatever is lent
    preview-is : (out : List ℕ) → preview_of e m out ≡ draw_for Manager (encode (strike_engine e (decode m))) out
    preview-is out = preview-drawn e m out 0 (encode (strike_engine e (decode m))) struck refl

-- ---- on any memory

-- the board of the bytes of a valid register
bytes-drawn : (s : Register) → Valid s → (out : List ℕ) → draw_for Manager (encode s) out ≡ cond (ltb (length out) board_size) (after 10 out) (write_text (board_in s) out)
unfolding draw_for
bytes-drawn s v out = rw (formed-encode s v, decode-encode s v) refl

struck-register : (e : ℕ) (m : List ℕ) → Bytes m → well_formed m ≡ true → e ≤ max_engine → Valid (strike_engine e (decode m))
struck-register e m b w a = struck-valid (decode m) (decode-valid m (opened m w) b) e a

-- once the desk may
pub in-order : (e : ℕ) (m : List ℕ) → Bytes m → (out : List ℕ)
    → preview_of e m out
    ≡ cond (not (well_formed m)) (after 1 out)
    (cond (ltb max_engine e) (after 2 out)
    (cond (ltb (length out) board_size) (after 10 out) (write_text (board_in (strike_engine e (decode m))) out)))
in-order e m b out =
    by (well_formed m)
    (λ w. by (ltb max_engine e)
    (λ g. rw (w, g) (preview-refused e m out 2 m (refused (take_conviction e) m w 2 refl (conviction-2 e (decode m) (ltb-true max_engine e g))) (eqb-false 2 0 refl)))
    (λ g. let a = ltb-false max_engine e g in rw (w, g) (preview-is e m w a out ∙ bytes-drawn (strike_engine e (decode m)) (struck-register e m b w a) out)))
    (λ w. rw w (preview-refused e m out 1 m (no_copy e m w) (eqb-false 1 0 refl)))

pub refused-in-order : RefusedInOrder
refused-in-order desk e m b out =
    each-number
    (λ (n : ℕ). draw_preview n e m out
    ≡ cond (ltb 2 n) (after 15 out)
    (cond (eqb n 0) (after 16 out)
    (cond (not (well_formed m)) (after 1 out)
    (cond (ltb max_engine e) (after 2 out)
    (cond (ltb (length out) board_size) (after 10 out) (write_text (board_in (strike_engine e (decode m))) out))))))
    refl (in-order e m b out) (in-order e m b out)
    (λ n over none. at-no-desk n out _ none ∙ rw (lt-ltb 2 n over) refl)
    desk

pub analyst-as-manager : AnalystAsManager
unfolding preview_of
analyst-as-manager e m out = record { alike = refl; on_a_copy = refl }

-- a preview fits what every board fits
pub preview-fits : (desk : Desk) (e : ℕ) (m out : List ℕ) → Bytes m → board_size ≤ length out → (draw_preview (number_of desk) e m out).answer ≤ board_size
preview-fits desk e m out b l =
    rw (preview-for desk e m out)
    (by (may_preview desk)
    (λ p. rw (p, in-order e m b out)
    (by (well_formed m)
    (λ w. by (ltb max_engine e)
    (λ g. rw (w, g) (omega arith))
    (λ g. rw (w, g, le-ltb (length out) board_size l) (fits (strike_engine e (decode m)) (struck-register e m b w (ltb-false max_engine e g)))))
    (λ w. rw w (omega arith))))
    (λ p. rw p (omega arith)))

module _ (desk : Desk) (p : may_preview desk ≡ true) where
  -- its preview and its board are a manager's
  previews-as : (e : ℕ) (m out : List ℕ) → draw_preview (number_of desk) e m out ≡ preview_of e m out
  previews-as e m out = preview-for desk e m out ∙ rw p refl

  draws-as : (m out : List ℕ) → draw_board (number_of desk) m out ≡ draw_for Manager m out
  draws-as m out = draw-by desk m out ∙ full-for desk p m out

pub then-convicted : ThenConvicted
then-convicted desk e m b p a w =
    let s = strike_engine e (decode m) in
    let v = struck-register e m b w a in
    let enough : (out : List ℕ) → board_size ≤ length out → draw_for Manager (encode s) out ≡ write_text (board_in s) out = λ out l. bytes-drawn s v out ∙ rw (le-ltb (length out) board_size l) refl in
    record {
      text = board_in s;
      previewed = λ out l. previews-as desk p e m out ∙ preview-is e m w a out ∙ enough out l;
      done = ap (λ (x : After (List ℕ)). x.answer) (sym (struck e m w a));
      drawn = λ out l. draws-as desk p (convict e m).left out ∙ ap (λ (x : After (List ℕ)). draw_for Manager x.left out) (sym (struck e m w a)) ∙ enough out l;
      no_refusal = no_refusal s v Manager;
    }

module _ (e : ℕ) (m : List ℕ) (out : List ℕ) where
  neither : well_formed m ≡ false → preview_of e m out ≡ draw_for Manager m out
  unfolding draw_for
  neither w = preview-refused e m out 1 m (no_copy e m w) (eqb-false 1 0 refl) ∙ sym (rw w refl)

  alike : Bytes m → well_formed m ≡ true → e ≤ max_engine → Idle e (decode m) → preview_of e m out ≡ draw_for Manager m out
  unfolding draw_for
  alike b w a n =
      let v = decode-valid m (opened m w) b in
      let same : board_in (strike_engine e (decode m)) ≡ board_in (decode m) = ap₂ board_of (summaries-stay (decode m) v e a n.no_summary) (records-stay (decode m) v e a n.no_signature) in
      preview-is e m w a out
      ∙ bytes-drawn (strike_engine e (decode m)) (struck-register e m b w a) out
      ∙ rw w (ap (λ (t : List ℕ). cond (ltb (length out) board_size) (after 10 out) (write_text t out)) same)

pub idle-is-present : IdleIsPresent
idle-is-present desk e m b p a n out =
    previews-as desk p e m out ∙ by (well_formed m) (λ w. alike e m out b w a n) (neither e m out) ∙ sym (draws-as desk p m out)

pub convicted-is-present : ConvictedIsPresent
convicted-is-present desk e m b p z out =
    previews-as desk p e m out
    ∙ by (well_formed m)
    (λ w. let s = decode m in
    let v = decode-valid m (opened m w) b in
    alike e m out b w (convicted-engine s v e z) (record { no_summary = convicted-no-summary s v e z; no_signature = convicted-no-signature s v e z }))
    (neither e m out)
    ∙ sym (draws-as desk p m out)

-- ---- after whole lists of calls

module _ (cs : List Call) (e : ℕ) (a : e ≤ max_engine) where
  ended : runs fresh (then_convict cs e) ≡ encode (strike_engine e (decode (runs fresh cs)))
  unfolding runs
  ended = runs_then fresh cs (conviction (number_of Manager) e ∷ []) ∙ ap (λ (x : After (List ℕ)). x.left) (sym (struck e (runs fresh cs) (runs-formed cs) a))

  at-the-end : (out : List ℕ) → preview_of e (runs fresh cs) out ≡ draw_for Manager (runs fresh (then_convict cs e)) out
  at-the-end out = preview-is e (runs fresh cs) (runs-formed cs) a out ∙ ap (λ (l : List ℕ). draw_for Manager l out) (sym ended)

  module _ (desk : Desk) (p : may_preview desk ≡ true) where
    drawn-at-the-end : (out : List ℕ) → draw_preview (number_of desk) e (runs fresh cs) out ≡ draw_board (number_of desk) (runs fresh (then_convict cs e)) out
    drawn-at-the-end out = previews-as desk p e (runs fresh cs) out ∙ at-the-end out ∙ sym (draws-as desk p (runs fresh (then_convict cs e)) out)

  module _ (f : none_full fresh cs ≡ true) where
    -- a conviction is not refused as full
    ended-none-full : none_full fresh (then_convict cs e) ≡ true
    unfolding none_full
    ended-none-full =
        none-full-then fresh cs (conviction (number_of Manager) e ∷ [])
        ∙ and_both (none_full fresh cs) _ f (ap (λ (x : After (List ℕ)). not (eqb x.answer 5) && true) (sym (struck e (runs fresh cs) (runs-formed cs) a)))

    previewed : (desk : Desk) → may_preview desk ≡ true → (out : List ℕ) → board_size ≤ length out → draw_preview (number_of desk) e (runs fresh cs) out ≡ write_text (board_over desk (then_convict cs e)) out
    previewed desk p out l = drawn-at-the-end desk p out ∙ drawn (then_convict cs e) ended-none-full desk out l

    -- the board over what remains then is the board of the register without the engine
    over-is : (desk : Desk) → board_over desk (then_convict cs e) ≡ board_seen desk (strike_engine e (last cs f))
    over-is desk =
        sym (board-over (then_convict cs e) ended-none-full desk)
        ∙ ap (λ (l : List ℕ). board_seen desk (decode l)) ended
        ∙ ap (board_seen desk) (decode-encode (strike_engine e (decode (runs fresh cs))) (struck-valid (decode (runs fresh cs)) (valid cs f) e a))
        ∙ ap (λ (s : Register). board_seen desk (strike_engine e s)) (decoded cs f)

pub conviction-at-the-end : ConvictionAtTheEnd
conviction-at-the-end desk cs e p a = drawn-at-the-end cs e a desk p

pub previews-in-both-rooms : PreviewsInBothRooms
previews-in-both-rooms north south f g q desk e p a =
    let same : board_over desk (then_convict south e) ≡ board_over desk (then_convict north e) =
    over-is south e a g desk
    ∙ ap₂ (λ (ss ps : List (List ℕ)). board_for desk (keep_places summary_size (is_of_another e) no_value ss) (keep_places record_size (has_another_signer e) (drop_signer e) ps))
    (sym (same-summaries north south f g q)) (sym (same-records north south f g q))
    ∙ sym (over-is north e a f desk) in
    record {
      previewed_north = previewed north e a f desk p;
      previewed_south = λ out l. previewed south e a g desk p out l ∙ ap (λ (t : List ℕ). write_text t out) same;
    }
