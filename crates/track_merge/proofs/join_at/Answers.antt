use Prim.Native.Nat.{ℕ, ◌+◌, ◌*◌, ◌-◌, ◌<◌}
use mathlib.Core.Path.{◌≡◌, refl, sym, ap, ◌∙◌}
use mathlib.Core.List.{List, []}
use native.Mathlib.Omega.{arith}
use lib.ListN.{length, get_or, take, drop, set, length-map}
use borrow.Rule.Slice.PartMut.{put_mid}
use Rattle.std.specs.Prelude.{Option, Some, None}
use Rattle.fixes.specs.Fix.{Fix}
use Rattle.track_transmission.specs.Layout.{transmission_size}
use Rattle.track_transmission.specs.Held.{HeldTransmission, tied_to}
use Rattle.track_transmission.specs.Bytes.{transmission_in, transmission_bytes}
use Rattle.track_transmission.specs.Parts.{Steady}
use Rattle.track_normalize.specs.declared.Joined.{Joined}
use Rattle.track_normalize.specs.Joining.{with_fix, sign_in}
use Rattle.track_normalize.specs.Taking.{taken_in, told_of}
use Rattle.track_arrange.specs.Arranged.{arranged}
use Rattle.track_arrange.specs.Blocks.{blocks, held, Filled}
use Rattle.track_arrange.proofs.Tables.{count-is, within, lent-steady, lent-held, put-bytes, put-count, put-filled, put-held, held-count, held-bytes}
use Rattle.track_merge.specs.declared.Merged.{Merged}
use Rattle.track_merge.specs.declared.Merged.TheVariants.{Duplicate}
use Rattle.track_merge.specs.Merged.{merged}
use Rattle.track_merge.specs.Searching.{only, answer_in, Leaves}
use Rattle.track_merge.proofs.Joining.{there, told-none, told-some, taken-held, duplicate, decided}
use Rattle.track_merge.proofs.join_at.Goals as goal

module _ (t : List ℕ) (n i : ℕ) (f : Fix) (filled : Filled t n) (one : only (tied_to f) (held n t) ≡ Some i) where
  abbrev at : ℕ
  at = i * transmission_size

  abbrev w : ℕ
  w = at + transmission_size - at

  -- what is lent
  abbrev b : List ℕ
  b = take w (drop at t)

  abbrev ts : List HeldTransmission
  ts = held n t

  abbrev u : HeldTransmission
  u = get_or ts i (transmission_in [])

  below : i < n
  below = let m = length-map (blocks n t) transmission_in in omega (arith, there f ts i one, m, count-is t n filled)

  steady : Steady b
  steady = lent-steady t n i filled below

  is : transmission_in b ≡ u
  is = lent-held t n i filled below

  module _ (x : List ℕ) (size : length x ≡ length b) where
    -- it gains a signer
    signed : x ≡ transmission_bytes (taken_in f (transmission_in b)) → ◌≡◌ {A = Option Joined} None (told_of f (transmission_in b)) → Leaves (merged f ts) (record { answer = Duplicate; entered = 0; count = n }) (put_mid at w t x)
    signed left told =
        let h = told-none f u (rw is at told) in
        rw (duplicate f ts i one h) (record {
          answer = refl;
          entered = refl;
          count = put-count t n i filled below (sign_in f u);
          bytes = put-bytes t n i filled below x (sign_in f u) (size ∙ steady.sound.size) (left ∙ ap transmission_bytes (ap (taken_in f) is ∙ taken-held f u h));
        })

    -- all is decided again
    module _ (j : Joined) (told : Some j ≡ told_of f (transmission_in b)) (s : Steady x × (transmission_in x ≡ with_fix f (transmission_in b))) where
      again : (m : ℕ) (t' : List ℕ) (a : Merged) → Filled t' m → held m t' ≡ arranged (held n (put_mid at w t x)) → a ≡ answer_in j → Leaves (merged f ts) (record { answer = a; entered = j.entered; count = m }) t'
      again m t' a filled' held' answer =
          let d = told-some f u j (rw is at told) in
          let e = held' ∙ ap arranged (put-held t n i filled below x s.0 ∙ ap (set ts i) (s.1 ∙ ap (with_fix f) is)) in
          rw (decided f ts i one d.0) (record { answer = answer ∙ ap answer_in d.1; entered = ap (λ (q : Joined). q.entered) d.1; count = held-count filled' e; bytes = held-bytes filled' e })

pub overflow_mul-a : goal.overflow_mul-a
overflow_mul-a c =
    let l = below c.args.t.now c.args.n c.args.i c.args.fix.now c.requires.filled c.requires.only in
    let z = c.requires.filled.few in
    omega (arith, l, z)

pub overflow_add-e : goal.overflow_add-e
overflow_add-e c =
    let l = below c.args.t.now c.args.n c.args.i c.args.fix.now c.requires.filled c.requires.only in
    let z = c.requires.filled.few in
    omega (arith, l, z)

pub slice_bounds-join-end : goal.slice_bounds-join-end
slice_bounds-join-end c = within c.args.t.now c.args.n c.requires.filled c.args.i (below c.args.t.now c.args.n c.args.i c.args.fix.now c.requires.filled c.requires.only)

pub join-requires : goal.join-requires
join-requires c = steady c.args.t.now c.args.n c.args.i c.args.fix.now c.requires.filled c.requires.only

pub returns-in_default : goal.returns-in_default
returns-in_default c =
    signed c.args.t.now c.args.n c.args.i c.args.fix.now c.requires.filled c.requires.only c.join.new.b c.join.auto.b c.join.ensures.left (sym c.in_default.is ∙ c.join.ensures.told)

pub arrange-count-requires : goal.arrange-count-requires
arrange-count-requires c =
    let t = c.args.t.now in
    put-filled t c.args.n c.args.i c.requires.filled (below t c.args.n c.args.i c.args.fix.now c.requires.filled c.requires.only) c.join.new.b c.in-Some.ensures.decided.0

pub returns : goal.returns
returns c =
    again c.args.t.now c.args.n c.args.i c.args.fix.now c.requires.filled c.requires.only c.join.new.b c.join.auto.b c.in-Some.joined (sym c.in-Some.is ∙ c.join.ensures.told) c.in-Some.ensures.decided _ _ _
    c.arrange-count.ensures.filled c.arrange-count.ensures.held c.answer_of.ensures
