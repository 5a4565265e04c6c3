use Rattle.std.proofs.Common.{◌≡◌, ℕ, false, List, refl, sym, ap, ◌∙◌, rules, Some}
use Rattle.octets.proofs.Numbers.{all-bytes}
use Rattle.models.specs.Models.{counts}
use Rattle.models.specs.Missing.{first_missing}
use Rattle.models.specs.Identity.{cited_inputs}
use Rattle.models.specs.Answers.{summary_places}
use Rattle.models.proofs.Cited.{cites, cites-none}
use Rattle.track_memory.specs.Track.{Track}
use Rattle.track_memory.specs.Memory.{decode, encode}
use Rattle.track_memory.proofs.Opened as O
use Rattle.track_merge.specs.Merged.{merged_number}
use Rattle.track_shelf.proofs.Boths.{is-track, shelf-sound}
use Rattle.track.proofs.Taking.{taken-merged, taken-waiting, taken-never}
use Rattle.track.proofs.reports.take.Goals as goal
use Rattle.track.proofs.reports.take.Goals.{After-cited_inputs}

-- the summaries that are looked at are the track's
seen : (c : After-cited_inputs) → summary_places c.summaries-all.result ≡ (decode c.args.memory.now).summaries
seen c = c.summaries-all.ensures ∙ ap (λ (s : Track). s.summaries) c.of.ensures

pub merge_record-requires : goal.merge_record-requires
merge_record-requires c =
    let m = c.args.memory.now in
    let r = c.args.r.bytes.now in
    let k = cites (summary_places c.summaries-all.result) r _ c.cited_inputs.ensures c.in-Some.inputs c.in-Some.is in
    let e = seen (goal.at.merge_record-requires c).After-cited_inputs in
    record {
      track = is-track m c.args.shelf.now c.requires;
      counts = ap (λ (ss : List (List ℕ)). counts ss r) (sym e) ∙ k.0;
      inputs = k.1 ∙ ap (λ (ss : List (List ℕ)). cited_inputs ss r) e;
    }

pub returns-in-Some : goal.returns-in-Some
returns-in-Some c =
    let m = c.args.memory.now in
    let r = c.args.r.bytes.now in
    let k = cites (summary_places c.summaries-all.result) r _ c.cited_inputs.ensures c.in-Some.inputs c.in-Some.is in
    let e = seen (goal.at.returns-in-Some c).After-cited_inputs in
    taken-merged m c.args.shelf.now c.args.engine r (shelf-sound m c.args.shelf.now c.requires) (ap (λ (ss : List (List ℕ)). counts ss r) (sym e) ∙ k.0) (merged_number c.merge_record.result) c.merge_record.new.memory c.merge_record.ensures

pub wait-requires : goal.wait-requires
wait-requires c = shelf-sound c.args.memory.now c.args.shelf.now c.requires

pub returns-in-Some-first_missing : goal.returns-in-Some-first_missing
returns-in-Some-first_missing c =
    let m = c.args.memory.now in
    let r = c.args.r.bytes.now in
    let e = seen (goal.at.returns-in-Some-first_missing c).After-cited_inputs in
    let model = c.in-Some-first_missing.model in
    let first : first_missing (decode m).summaries r ≡ Some model = ap (λ (ss : List (List ℕ)). first_missing ss r) (sym e) ∙ sym c.first_missing.ensures ∙ c.in-Some-first_missing.is in
    let back : encode (decode m) ≡ m = O.encode-decode m (O.opened m (is-track m c.args.shelf.now c.requires)) (all-bytes m (search rules)) in
    taken-waiting m c.args.shelf.now c.args.engine r back model first _ refl c.wait.result c.wait.new.shelf c.wait.ensures.answer c.wait.ensures.left

pub returns-in-None-first_missing : goal.returns-in-None-first_missing
returns-in-None-first_missing c =
    let m = c.args.memory.now in
    let r = c.args.r.bytes.now in
    let e = seen (goal.at.returns-in-None-first_missing c).After-cited_inputs in
    let never : counts (decode m).summaries r ≡ false = ap (λ (ss : List (List ℕ)). counts ss r) (sym e) ∙ cites-none (summary_places c.summaries-all.result) r _ c.cited_inputs.ensures c.in-None.is in
    taken-never m c.args.shelf.now c.args.engine r never (ap (λ (ss : List (List ℕ)). first_missing ss r) (sym e) ∙ sym c.first_missing.ensures ∙ c.in-None-first_missing.is)
