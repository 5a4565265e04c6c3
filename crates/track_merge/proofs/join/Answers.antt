use Prim.Native.Nat.{ℕ, ◌+◌, ◌<◌}
use mathlib.Core.Path.{◌≡◌, sym, ap, ap₂, ◌∙◌, subst}
use mathlib.Core.List.{List}
use lib.Bits.{bit_or}
use native.Mathlib.Omega.{arith}
use Rattle.octets.specs.Bytes.{Bytes}
use Rattle.octets.specs.Words.{word_at}
use Rattle.octets.specs.Writes.{put_word}
use Rattle.octets.proofs.Numbers.{all-bytes}
use Rattle.fixes.specs.Fix.{Fix}
use Rattle.fixes.specs.Items.{no_fix}
use Rattle.track_transmission.specs.Layout.{signers_at}
use Rattle.track_transmission.specs.Held.{HeldTransmission, held_in, is_of}
use Rattle.track_transmission.specs.Bytes.{transmission_in, transmission_bytes}
use Rattle.track_transmission.specs.Parts.{held_count, held_place, Steady}
use Rattle.track_normalize.specs.declared.Joined.{Joined}
use Rattle.track_normalize.proofs.Validity.{Holdable}
use Rattle.std.specs.Prelude.{Option, Some, None, IfSome, position}
use Rattle.track_normalize.specs.Taking.{taken_in, told_of}
use Rattle.track_normalize.specs.Joining.{with_fix}
use Rattle.track_merge.proofs.Counting.{first-at}
use Rattle.track_merge.proofs.Written.{holdable-of}
use Rattle.track_transmission.proofs.Holding.{held-number}
use Rattle.track_merge.proofs.Identified.{signed-bytes, some-held}
use Rattle.track_merge.proofs.Joining.{told-some, told-held, taken-held, taken-new, with-steady, with-read}
use Rattle.track_merge.proofs.join.Goals as goal

module _ (f : Fix) (b : List ℕ) where
  -- k is the first held fix of its identity
  module _ (k : ℕ) (first : position (is_of f) (held_in (transmission_in b)) ≡ Some k) where
    within : k < held_count b
    within = rw (sym (held-number b)) (first-at (is_of f) (held_in (transmission_in b)) k no_fix first).there

    module _ (y : Bytes b) (s : Steady b) where
      signed : (c x : List ℕ) (n : ℕ) → c ≡ b → n ≡ f.signers → x ≡ put_word 4 (held_place c k + signers_at) (bit_or (word_at 4 (held_place c k + signers_at) c) n) c → x ≡ transmission_bytes (taken_in f (transmission_in b))
      signed c x n same e q =
          q ∙ ap₂ (λ (l : List ℕ) (m : ℕ). put_word 4 (held_place l k + signers_at) (bit_or (word_at 4 (held_place l k + signers_at) l) m) l) same e
          ∙ signed-bytes b y s f k first
          ∙ ap transmission_bytes (sym (taken-held f (transmission_in b) (some-held b y s f k first)))

      told : ◌≡◌ {A = Option Joined} None (told_of f (transmission_in b))
      told = told-held f (transmission_in b) (some-held b y s f k first)

  -- what is told of one that was decided with all
  module _ (y : Bytes b) (s : Steady b) (x : List ℕ) (h : Holdable f) (left : x ≡ transmission_bytes (taken_in f (transmission_in b))) where
    decided : (o : Option Joined) → o ≡ told_of f (transmission_in b) → IfSome o (λ _. Steady x × (transmission_in x ≡ with_fix f (transmission_in b)))
    decided None e = tt
    decided (Some j) e =
        let n = (told-some f (transmission_in b) j e).0 in
        let q = left ∙ ap transmission_bytes (taken-new f (transmission_in b) n) in
        (subst Steady (sym q) (with-steady f b h y s.sound), ap transmission_in q ∙ with-read f b h y s.sound)

pub sign-requires-clause-k_bound : goal.sign-requires-clause-k_bound
sign-requires-clause-k_bound c =
    let same = (rw c.unwrap-b.ensures at c.as_mut_array.ensures.cases).same in
    let first = ap (λ (t : HeldTransmission). position (is_of c.args.fix.now) (held_in t)) (sym (c.of.ensures ∙ ap transmission_in same)) ∙ c.in-Some.ensures in
    subst (λ (l : List ℕ). c.in-Some.k < held_count l) (sym same) (within c.args.fix.now c.args.b.now c.in-Some.k first)

pub returns-in-Some-clause-left : goal.returns-in-Some-clause-left
returns-in-Some-clause-left c =
    let same = (rw c.unwrap-b.ensures at c.as_mut_array.ensures.cases).same in
    let first = ap (λ (t : HeldTransmission). position (is_of c.args.fix.now) (held_in t)) (sym (c.of.ensures ∙ ap transmission_in same)) ∙ c.in-Some.ensures in
    let y : Bytes c.args.b.now = all-bytes c.args.b.now (λ i. (c.slice_known-1.given i).fits) in
    signed c.args.fix.now c.args.b.now c.in-Some.k first y c.requires _ _ _ same (ap (λ (x : Fix). x.signers) c.fix.view_is) c.sign.ensures

pub returns-in-Some-clause-told : goal.returns-in-Some-clause-told
returns-in-Some-clause-told c =
    let same = (rw c.unwrap-b.ensures at c.as_mut_array.ensures.cases).same in
    let first = ap (λ (t : HeldTransmission). position (is_of c.args.fix.now) (held_in t)) (sym (c.of.ensures ∙ ap transmission_in same)) ∙ c.in-Some.ensures in
    told c.args.fix.now c.args.b.now c.in-Some.k first (all-bytes c.args.b.now (λ i. (c.slice_known-1.given i).fits)) c.requires

pub returns-clause-decided : goal.returns-clause-decided
returns-clause-decided c =
    let f : Fix = c.args.fix.now in
    let same = (rw c.unwrap-b.ensures at c.as_mut_array.ensures.cases).same in
    let y : Bytes c.args.b.now = all-bytes c.args.b.now (λ i. (c.slice_known-1.given i).fits) in
    let h : Holdable f = holdable-of _ _ _ f c.fix.inside.report.formed c.fix.inside.report.size c.fix.invariant.0 c.fix.invariant.1 c.fix.view_is in
    decided f c.args.b.now y c.requires c.take_in.new.b h
    (c.take_in.ensures.left ∙ ap₂ (λ (g : Fix) (l : List ℕ). transmission_bytes (taken_in g (transmission_in l))) c.identified.ensures same)
    c.take_in.result
    (c.take_in.ensures.told ∙ ap₂ (λ (g : Fix) (l : List ℕ). told_of g (transmission_in l)) c.identified.ensures same)
