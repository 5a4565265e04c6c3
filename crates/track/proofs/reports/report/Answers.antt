use Rattle.std.proofs.Common.{◌≡◌, ◌<◌, ℕ, Bool, true, false, List, sym, ap, ap₂, ◌∙◌}
use borrow.Author.Tests.{ltb-true}
use Rattle.octets.specs.Masks.{bit}
use Rattle.record.specs.Formed as R
use Rattle.errors.proofs.Parsed.{parsed}
use Rattle.track_memory.specs.Memory.{decode}
use Rattle.track_shelf.specs.Both.{Both, both_formed, decode_both, on_both}
use Rattle.track.specs.Track.{track_report}
use Rattle.track.proofs.Taking.{convicted-is-4, reported}
use Rattle.track.proofs.reports.report.Goals as goal
use Rattle.track.proofs.reports.report.Goals.{After-contains}

-- what was tested
record Tested (m w r : List ℕ) (e : ℕ) (b : Bool) : Type 0 where
  both : both_formed m w ≡ true
  engine : e < 32
  formed : R.well_formed r ≡ true
  free : b ≡ bit (decode m).convicted e

tested : (c : After-contains) → Tested c.args.memory.now c.args.shelf.now c.in-Some-parse.r.bytes.now c.in-Some.engine c.contains.result
tested c =
    let m = c.args.memory.now in
    let w = c.args.shelf.now in
    let k = parsed (both_formed m w) (decode_both m w) _ c.parse.ensures _ c.in_ok-both.was in
    record {
      both = k.0;
      engine = rw c.in-Some.ensures.same (ltb-true c.args.engine 32 (sym c.in-Some.ensures.small));
      formed = c.in-Some-parse.r.formed;
      free = c.contains.ensures ∙ ap (λ (x : ℕ). bit x c.in-Some.engine) (c.convicted.ensures ∙ ap (λ (b : Both). b.track.convicted) (c.both.view_is ∙ sym k.1));
    }

pub returns-then-contains : goal.returns-then-contains
returns-then-contains c =
    let m = c.args.memory.now in
    let w = c.args.shelf.now in
    let r = c.in-Some-parse.r.bytes.now in
    let t = tested (goal.at.returns-then-contains c).After-contains in
    let is : bit (decode m).convicted c.in-Some.engine ≡ true = sym t.free ∙ c.if-contains.true in
    convicted-is-4 m w c.in-Some.engine r t.both t.engine t.formed is ∙ ap₂ (λ (n : ℕ) (s : List ℕ). on_both (track_report n s) m w) c.in-Some.ensures.same c.in-Some-parse.ensures.same

pub take-requires : goal.take-requires
take-requires c = (tested (goal.at.take-requires c).After-contains).both

pub returns : goal.returns
returns c =
    let m = c.args.memory.now in
    let w = c.args.shelf.now in
    let r = c.in-Some-parse.r.bytes.now in
    let t = tested (goal.at.returns c).After-contains in
    let free : bit (decode m).convicted c.in-Some.engine ≡ false = sym t.free ∙ c.if-contains.false in
    reported m w c.in-Some.engine r t.both t.engine t.formed free _ c.take.ensures ∙ ap₂ (λ (n : ℕ) (s : List ℕ). on_both (track_report n s) m w) c.in-Some.ensures.same c.in-Some-parse.ensures.same
