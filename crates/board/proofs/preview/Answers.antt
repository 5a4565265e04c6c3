use Rattle.std.proofs.Common.{ℕ, ◌≡◌, refl, sym, ap, ◌∙◌, true, false, List, Result, Ok, Err, is_ok, eqb, ne_eqb}
use borrow.Author.Tests.{eqb-false}
use Rattle.std.specs.Result.{IsErrAnd}
use Rattle.octets.specs.Bytes.{Bytes}
use Rattle.octets.proofs.Numbers.{all-bytes}
use Rattle.errors.specs.After.{After, after}
use Rattle.errors.specs.Errors.{error_number, answer_number, value_or_number}
use Rattle.errors.specs.declared.Error.{Error}
use Rattle.errors.proofs.Numbered.{never-zero}
use Rattle.register.specs.Memory.{well_formed, decode}
use Rattle.register.proofs.Opened.{other-size}
use Rattle.desks.specs.Previewing.{may_preview}
use Rattle.board.specs.Board.{draw_for}
use Rattle.board.specs.Preview.{convict}
use Rattle.board.proofs.Desks.{preview-for}
use Rattle.board.proofs.Previewed.{preview-refused, preview-drawn, no_copy, copy-formed}
use Rattle.board.proofs.preview.Goals as goal

pub returns-then-not-may_preview-clause-preview : goal.returns-then-not-may_preview-clause-preview
returns-then-not-may_preview-clause-preview c =
    let lacking : may_preview c.args.desk ≡ false = sym c.may_preview.ensures ∙ c.if-not-may_preview.true in
    rw (preview-for c.args.desk c.args.engine c.args.memory.now c.args.out.now, lacking) refl

pub returns-in_default-clause-preview : goal.returns-in_default-clause-preview
returns-in_default-clause-preview c =
    let allowed : may_preview c.args.desk ≡ true = sym c.may_preview.ensures ∙ c.if-not-may_preview.false in
    rw (preview-for c.args.desk c.args.engine c.args.memory.now c.args.out.now, allowed)
    (sym (preview-refused c.args.engine c.args.memory.now c.args.out.now 1 c.args.memory.now
    (no_copy c.args.engine c.args.memory.now (other-size c.args.memory.now c.in_default.ensures.1)) (eqb-false 1 0 refl)))

numbered : (r : Result ℕ Error) (x : Error) → IsErrAnd r (λ y. y ≡ x) → value_or_number r ≡ error_number x
numbered (Ok n) x h = absurd h
numbered (Err y) x h = ap error_number h

pub returns-in_err-conviction-clause-preview : goal.returns-in_err-conviction-clause-preview
returns-in_err-conviction-clause-preview c =
    let m : List ℕ = c.args.memory.now in
    let e : ℕ = c.args.engine in
    let x : Error = c.in_err-conviction.field-0.0 in
    let refused : value_or_number c.from_residual.result ≡ error_number x = numbered c.from_residual.result x c.from_residual.ensures.1 in
    let may : may_preview c.args.desk ≡ true = sym c.may_preview.ensures ∙ c.if-not-may_preview.false in
    rw (preview-for c.args.desk e m c.args.out.now, may, refused) (sym (preview-refused e m c.args.out.now _ _ (c.in_err-conviction.ensures ∙ ap (convict e) c.in-Ok.ensures.1.same) (never-zero x)))

pub of-requires : goal.of-requires
of-requires c =
    let m : List ℕ = c.args.memory.now in
    let e : ℕ = c.args.engine in
    let bytes : Bytes m = all-bytes m (λ i. (c.type_inv.memory i).fits) in
    let convicted : after (answer_number c.conviction.result) c.conviction.new.memory ≡ convict e m = c.conviction.ensures ∙ ap (convict e) c.in-Ok.ensures.1.same in
    let drawn : well_formed c.conviction.new.memory ≡ true = copy-formed e m _ _ convicted (ap answer_number c.in_ok-conviction.was) bytes in
    drawn

pub returns-clause-preview : goal.returns-clause-preview
unfolding draw_for
returns-clause-preview c =
    let m : List ℕ = c.args.memory.now in
    let e : ℕ = c.args.engine in
    let convicted : after (answer_number c.conviction.result) c.conviction.new.memory ≡ convict e m = c.conviction.ensures ∙ ap (convict e) c.in-Ok.ensures.1.same in
    let bytes : Bytes m = all-bytes m (λ i. (c.type_inv.memory i).fits) in
    let formed : well_formed c.conviction.new.memory ≡ true = copy-formed e m _ _ convicted (ap answer_number c.in_ok-conviction.was) bytes in
    let shown : c.of.result ≡ decode c.conviction.new.memory = c.of.ensures in
    let may : may_preview c.args.desk ≡ true = sym c.may_preview.ensures ∙ c.if-not-may_preview.false in
    rw (preview-for c.args.desk e m c.args.out.now, may, preview-drawn e m c.args.out.now _ _ convicted (ap answer_number c.in_ok-conviction.was), formed, ← shown) c.draw.ensures.board

-- ---- done where the desk may, and neither the conviction nor the board is refused

pub returns-then-not-may_preview-clause-done : goal.returns-then-not-may_preview-clause-done
returns-then-not-may_preview-clause-done c =
    let lacking : may_preview c.args.desk ≡ false = sym c.may_preview.ensures ∙ c.if-not-may_preview.true in
    rw lacking refl

pub returns-in_default-clause-done : goal.returns-in_default-clause-done
returns-in_default-clause-done c =
    let right : may_preview c.args.desk ≡ true = sym c.may_preview.ensures ∙ c.if-not-may_preview.false in
    let refused : eqb (convict c.args.engine c.args.memory.now).answer 0 ≡ false =
    sym (ap (λ (a : After (List ℕ)). eqb a.answer 0) (no_copy c.args.engine c.args.memory.now (other-size c.args.memory.now c.in_default.ensures.1))) in
    rw (right, refused) refl

not-done : (r : Result ℕ Error) (x : Error) → IsErrAnd r (λ y. y ≡ x) → is_ok r ≡ false
not-done (Ok n) x h = absurd h
not-done (Err y) x h = refl

pub returns-in_err-conviction-clause-done : goal.returns-in_err-conviction-clause-done
returns-in_err-conviction-clause-done c =
    let x : Error = c.in_err-conviction.field-0.0 in
    let e : ℕ = c.args.engine in
    let right : may_preview c.args.desk ≡ true = sym c.may_preview.ensures ∙ c.if-not-may_preview.false in
    let refused : eqb (convict e c.args.memory.now).answer 0 ≡ false =
    sym (ap (λ (a : After (List ℕ)). eqb a.answer 0) (c.in_err-conviction.ensures ∙ ap (convict e) c.in-Ok.ensures.1.same)) ∙ ne_eqb (error_number x) 0 (never-zero x) in
    rw (right, refused) (not-done c.from_residual.result x c.from_residual.ensures.1)

pub returns-clause-done : goal.returns-clause-done
returns-clause-done c =
    let e : ℕ = c.args.engine in
    let right : may_preview c.args.desk ≡ true = sym c.may_preview.ensures ∙ c.if-not-may_preview.false in
    let taken : eqb (convict e c.args.memory.now).answer 0 ≡ true =
    sym (ap (λ (a : After (List ℕ)). eqb a.answer 0) (c.conviction.ensures ∙ ap (convict e) c.in-Ok.ensures.1.same)) ∙ ap (λ (r : Result (Unit {0}) Error). eqb (answer_number r) 0) c.in_ok-conviction.was in
    rw (right, taken) c.draw.ensures.done
