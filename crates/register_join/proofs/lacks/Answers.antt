use Rattle.std.proofs.Common.{ℕ, ◌≤◌, ◌<◌, ◌≡◌, refl, sym, ap, ap₂, ◌∙◌, true, false, List, ◌++◌, arith, ltb, length, drop}
use Rattle.lists.proofs.Bools.{by}
use Rattle.errors.specs.After.{after}
use Rattle.register.specs.Layout.{register_size}
use Rattle.register.specs.Memory.{well_formed, decode, encode}
use Rattle.register_join.specs.Lacks.{lacking, lacks_memory}
use Rattle.register_join.proofs.lacks.Goals as goal
use Rattle.register_join.proofs.lacks.Goals.{then-not-well_formed-via-then-not-well_formed, then-not-well_formed-via-else-not-well_formed+then-not-well_formed-2}

module _ (n m out : List ℕ) where
  mine-none : well_formed m ≡ false → lacks_memory n m out ≡ after 1 out
  unfolding lacks_memory
  mine-none h = rw h refl

  theirs-none : well_formed n ≡ false → lacks_memory n m out ≡ after 1 out
  unfolding lacks_memory
  theirs-none h = by (well_formed m) (λ g. rw (g, h) refl) (λ g. rw g refl)

  module _ (w : well_formed m ≡ true) (v : well_formed n ≡ true) where
    too-small : length out < register_size → lacks_memory n m out ≡ after 10 out
    unfolding lacks_memory
    too-small h = let l : ltb (length out) register_size ≡ true = grind (arith, h) in rw (w, v, l) refl

    large : register_size ≤ length out → lacks_memory n m out ≡ after 0 (encode (lacking (decode n) (decode m)) ++ drop register_size out)
    unfolding lacks_memory
    large h = let l : ltb (length out) register_size ≡ false = grind (arith, h) in rw (w, v, l) refl

pub returns-then-not-well_formed : goal.returns-then-not-well_formed
returns-then-not-well_formed c =
    elim c.then-not-well_formed.branch [
      | then-not-well_formed-via-then-not-well_formed w ↦ sym (theirs-none c.args.other.now c.args.memory.now c.args.out.now (sym c.well_formed-2.ensures ∙ w.if-not-well_formed.true))
      | then-not-well_formed-via-else-not-well_formed+then-not-well_formed-2 w ↦ sym (mine-none c.args.other.now c.args.memory.now c.args.out.now (sym w.well_formed-else-not-well_formed.ensures ∙ w.if-not-well_formed-2.true))
    ]

pub returns-then-out-lt-REGISTER_SIZE : goal.returns-then-out-lt-REGISTER_SIZE
returns-then-out-lt-REGISTER_SIZE c =
    let w : well_formed c.args.memory.now ≡ true = sym c.well_formed-else-not-well_formed.ensures ∙ c.if-not-well_formed-2.false in
    let v : well_formed c.args.other.now ≡ true = sym c.well_formed-2.ensures ∙ c.if-not-well_formed.false in
    let h : length c.args.out.now < register_size = let l = c.if-out-lt-REGISTER_SIZE.true in omega arith in
    sym (too-small c.args.other.now c.args.memory.now c.args.out.now w v h)

pub returns : goal.returns
returns c =
    let formed : well_formed c.args.memory.now ≡ true = sym c.well_formed-else-not-well_formed.ensures ∙ c.if-not-well_formed-2.false in
    let other_formed : well_formed c.args.other.now ≡ true = sym c.well_formed-2.ensures ∙ c.if-not-well_formed.false in
    let l : register_size ≤ length c.args.out.now = let n = c.if-out-lt-REGISTER_SIZE.false in omega arith in
    ap (after 0) (ap₂ (λ (a z : List ℕ). a ++ z) c.write.ensures c.split_at_mut-front.ensures.back) ∙ sym (large c.args.other.now c.args.memory.now c.args.out.now formed other_formed l)
