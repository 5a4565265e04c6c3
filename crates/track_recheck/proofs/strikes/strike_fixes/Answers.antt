use Rattle.std.proofs.Common.{ℕ, ◌+◌, sym, ap, ◌∙◌}
use mathlib.Core.Path.{subst}
use lib.Dec.{eqb}
use Rattle.octets.specs.Bytes.{Bytes}
use Rattle.octets.specs.Masks.{without_bit}
use Rattle.octets.specs.Writes.{put_word}
use Rattle.octets.proofs.Numbers.{all-bytes}
use Rattle.fixes.specs.Fix.{Fix}
use Rattle.track_transmission.specs.Layout.{fixes_at, signers_at}
use Rattle.track_transmission.specs.Bytes.{transmission_in}
use Rattle.track_transmission.specs.Parts.{Sound, Steady}
use Rattle.track_recheck.specs.Recheck.{without_engine}
use Rattle.track_recheck.proofs.Alone.{signed-left, unsigned-left}
use Rattle.track_recheck.proofs.strikes.strike_fixes.Goals as goal

pub decide_without-requires : goal.decide_without-requires
decide_without-requires c =
    let same = (rw c.unwrap-b.ensures at c.as_mut_array.ensures.cases).same in
    subst Sound (sym same) c.requires.sound

pub returns-in_default : goal.returns-in_default
returns-in_default c =
    let same = (rw c.unwrap-b.ensures at c.as_mut_array.ensures.cases).same in
    record {
      steady = c.decide_without.ensures.steady;
      held = c.decide_without.ensures.held ∙ ap (λ b. without_engine c.args.engine (transmission_in b)) same;
      settled = c.decide_without.ensures.settled;
    }

pub clear_only-requires-clause-steady : goal.clear_only-requires-clause-steady
clear_only-requires-clause-steady c =
    let same = (rw c.unwrap-b.ensures at c.as_mut_array.ensures.cases).same in
    subst Steady (sym same) c.requires

pub clear_only-requires-clause-only : goal.clear_only-requires-clause-only
clear_only-requires-clause-only c = (c.in-Some.fix, sym c.of.ensures ∙ c.in-Some.ensures)

pub returns-then-is_empty : goal.returns-then-is_empty
returns-then-is_empty c =
    let same = (rw c.unwrap-b.ensures at c.as_mut_array.ensures.cases).same in
    let y : Bytes c.args.b.now = all-bytes c.args.b.now (λ i. (c.slice_known-1.given i).fits) in
    let alone = sym (c.of.ensures ∙ ap transmission_in same) ∙ c.in-Some.ensures in
    let left = c.without-left.ensures ∙ ap (λ (x : Fix). without_bit x.signers c.args.engine) c.fix.view_is in
    let r =
    unsigned-left c.args.b.now y c.requires c.in-Some.fix alone c.args.engine c.without-left.result left (sym c.is_empty.ensures ∙ c.if-is_empty.true) c.clear_only.new.b c.clear_only.ensures in
    record { steady = r.steady; held = r.held; settled = λ _. r.settled }

pub returns : goal.returns
returns c =
    let same = (rw c.unwrap-b.ensures at c.as_mut_array.ensures.cases).same in
    let y : Bytes c.args.b.now = all-bytes c.args.b.now (λ i. (c.slice_known-1.given i).fits) in
    let alone = sym (c.of.ensures ∙ ap transmission_in same) ∙ c.in-Some.ensures in
    let left = c.without-left.ensures ∙ ap (λ (x : Fix). without_bit x.signers c.args.engine) c.fix.view_is in
    let r =
    signed-left c.args.b.now y c.requires c.in-Some.fix alone c.args.engine c.mask.result (c.mask.ensures ∙ left)
    (ap (λ (n : ℕ). eqb n 0) c.mask.ensures ∙ sym c.is_empty.ensures ∙ c.if-is_empty.false) c.put_u32.new.s
    (c.put_u32.ensures ∙ ap (put_word 4 (fixes_at + signers_at) c.mask.result) same) in
    record { steady = r.steady; held = r.held; settled = λ _. r.settled }
