use Rattle.std.proofs.Common.{sym, ap, ◌∙◌}
use mathlib.Core.Path.{subst}
use Rattle.octets.specs.Bytes.{Bytes}
use Rattle.octets.proofs.Numbers.{all-bytes}
use Rattle.models.specs.Answers.{summary_places}
use Rattle.track_transmission.specs.Bytes.{transmission_in}
use Rattle.track_transmission.specs.Parts.{Steady}
use Rattle.track_recheck.specs.Recheck.{has_stale, standing}
use Rattle.track_recheck.proofs.Alone.{one-stays, one-goes}
use Rattle.track_recheck.proofs.Settled.{left-alone}
use Rattle.track_recheck.proofs.rechecks.renew.Goals as goal

pub returns-then-not-has_stale : goal.returns-then-not-has_stale
returns-then-not-has_stale c =
    let ss = summary_places c.args.summaries in
    let same = (rw c.unwrap-b.ensures at c.as_mut_array.ensures.cases).same in
    let none = sym (c.has_stale.ensures ∙ ap (has_stale ss) (c.of-block.ensures ∙ ap transmission_in same)) ∙ c.if-not-has_stale.true in
    record { steady = subst Steady (sym same) c.requires.steady; held = ap transmission_in same ∙ left-alone ss (transmission_in c.args.b.now) (c.requires.settled c.if-settled.true) none }

pub returns-then-stands : goal.returns-then-stands
returns-then-stands c =
    let ss = summary_places c.args.summaries in
    let same = (rw c.unwrap-b.ensures at c.as_mut_array.ensures.cases).same in
    let y : Bytes c.args.b.now = all-bytes c.args.b.now (λ i. (c.slice_known-1.given i).fits) in
    let alone = sym (c.of-block.ensures ∙ ap transmission_in same) ∙ c.in-Some.ensures in
    record {
      steady = subst Steady (sym same) c.requires.steady;
      held = ap transmission_in same ∙ one-stays c.args.b.now y c.requires.steady c.in-Some.fix alone ss (sym c.stands.ensures ∙ c.if-stands.true);
    }

pub clear_only-requires-clause-steady : goal.clear_only-requires-clause-steady
clear_only-requires-clause-steady c =
    let same = (rw c.unwrap-b.ensures at c.as_mut_array.ensures.cases).same in
    subst Steady (sym same) c.requires.steady

pub clear_only-requires-clause-only : goal.clear_only-requires-clause-only
clear_only-requires-clause-only c = (c.in-Some.fix, sym c.of-block.ensures ∙ c.in-Some.ensures)

pub returns-in-Some : goal.returns-in-Some
returns-in-Some c =
    let ss = summary_places c.args.summaries in
    let same = (rw c.unwrap-b.ensures at c.as_mut_array.ensures.cases).same in
    let y : Bytes c.args.b.now = all-bytes c.args.b.now (λ i. (c.slice_known-1.given i).fits) in
    let alone = sym (c.of-block.ensures ∙ ap transmission_in same) ∙ c.in-Some.ensures in
    let d = one-goes c.args.b.now y c.requires.steady c.in-Some.fix alone ss (sym c.stands.ensures ∙ c.if-stands.false) c.clear_only.new.b c.clear_only.ensures in
    record { steady = d.steady; held = d.held }

pub returns-clause-held : goal.returns-clause-held
returns-clause-held c =
    let same = (rw c.unwrap-b.ensures at c.as_mut_array.ensures.cases).same in
    c.decide_standing.ensures.held ∙ ap (λ b. standing (summary_places c.args.summaries) (transmission_in b)) same
