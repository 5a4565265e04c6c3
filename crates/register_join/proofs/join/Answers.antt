use Rattle.std.proofs.Common.{rules, ℕ, ◌≡◌, refl, sym, ap, ◌∙◌, Bool, false, cond, List, arith}
use Rattle.errors.specs.Errors.{error_number, answer_number}
use Rattle.errors.specs.After.{after}
use Rattle.errors.proofs.Numbered.{never-zero}
use Rattle.register.specs.Memory.{decode, encode}
use Rattle.register.proofs.Opened.{sized}
use Rattle.register_join.specs.Join.{overfull, joined}
use Rattle.register_join.proofs.JoinBytes.{join-of, none-first, none-second}
use Rattle.register_join.proofs.join.Goals as goal
use Rattle.register_join.proofs.join.Goals.{then-not-well_formed-via-then-not-well_formed, then-not-well_formed-via-else-not-well_formed+then-not-well_formed-2}

pub returns-then-not-well_formed : goal.returns-then-not-well_formed
returns-then-not-well_formed c =
    elim c.then-not-well_formed.branch [
      | then-not-well_formed-via-then-not-well_formed w ↦ sym (none-second c.args.other.now c.args.memory.now (sym c.well_formed-2.ensures ∙ w.if-not-well_formed.true))
      | then-not-well_formed-via-else-not-well_formed+then-not-well_formed-2 w ↦ sym (none-first c.args.other.now c.args.memory.now (sym w.well_formed-else-not-well_formed.ensures ∙ w.if-not-well_formed-2.true))
    ]

-- an answer that is none but of no room
refused : (b : Bool) (x : ℕ) (m e : List ℕ) → x ≡ cond b 5 0 → (x ≡ 0 → ⊥) → after x m ≡ cond b (after 5 m) (after 0 e)
refused b x m e h z = grind (arith, h, z)

-- and where it is taken
roomy : (b : Bool) (x : ℕ) → x ≡ cond b 5 0 → x ≡ 0 → b ≡ false
roomy b x h z = grind (arith, h, z)

pub returns-in_err-write : goal.returns-in_err-write
returns-in_err-write c =
    let m = c.args.memory.now in
    let n = c.args.other.now in
    let x = c.in_err-write.field-0.0 in
    let e : answer_number c.from_residual.result ≡ error_number x = search rules in
    rw e
    (refused (overfull (joined (decode n) (decode m))) (error_number x) m (encode (joined (decode n) (decode m))) c.in_err-write.ensures.answer (never-zero x)
    ∙ sym (join-of n m (sym c.well_formed-else-not-well_formed.ensures ∙ c.if-not-well_formed-2.false) (sym c.well_formed-2.ensures ∙ c.if-not-well_formed.false)))

pub copy_from_slice-requires : goal.copy_from_slice-requires
copy_from_slice-requires c = omega (arith, sized c.args.memory.now (sym c.well_formed-2.ensures ∙ c.if-not-well_formed.false), c.fresh-joined.ensures.size, c.write.auto.out)

pub returns : goal.returns
returns c =
    let m = c.args.memory.now in
    let n = c.args.other.now in
    let room : overfull (joined (decode n) (decode m)) ≡ false = roomy (overfull (joined (decode n) (decode m))) 0 c.in_ok-write.ensures.answer refl in
    ap (after 0) (c.copy_from_slice.ensures.after ∙ c.write.ensures.written room)
    ∙ sym (join-of n m (sym c.well_formed-else-not-well_formed.ensures ∙ c.if-not-well_formed-2.false) (sym c.well_formed-2.ensures ∙ c.if-not-well_formed.false) ∙ rw room refl)
