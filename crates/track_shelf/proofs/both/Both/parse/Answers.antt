use Rattle.std.proofs.Common.{◌≡◌, sym, ap₂, ◌∙◌, rules, refl, List, Ok, Err}
use Rattle.errors.specs.declared.Error.{Error}
use Rattle.errors.proofs.Parsed.{parsed, unparsed}
use Rattle.models.specs.Answers.{summary_places}
use Rattle.track_memory.specs.Track.{Track}
use Rattle.track_memory.specs.Memory.{well_formed, decode}
use Rattle.track_shelf.specs.Memory.{shelf_formed, decode_shelf}
use Rattle.track_shelf.specs.Waiting.{Waiting}
use Rattle.track_shelf.proofs.Boths.{formed-beside}
use Rattle.track_shelf.proofs.both.Both.parse.Goals as goal

pub returns-in_err-shelf : goal.returns-in_err-shelf
returns-in_err-shelf c =
    let m = c.args.memory.now in
    let w = c.args.shelf.now in
    let x : Error = c.in_err-shelf.field-0.0 in
    let back : c.from_residual-in_err-shelf.result ≡ Err x = search rules in
    let k = parsed (well_formed m) (decode m) _ c.parse.ensures _ c.in_ok-track.was in
    let r = unparsed (shelf_formed c.convicted.result (summary_places c.summaries.result) w) (decode_shelf w) _ c.parse-2.ensures x c.in_err-shelf.was in
    let formed = formed-beside m w _ c.convicted.result (summary_places c.summaries.result) k.0 k.1 c.convicted.ensures c.summaries.ensures ∙ r.0 in
    back ∙ rw (formed, r.1) refl

pub returns : goal.returns
returns c =
    let m = c.args.memory.now in
    let w = c.args.shelf.now in
    let k = parsed (well_formed m) (decode m) _ c.parse.ensures _ c.in_ok-track.was in
    let r = parsed (shelf_formed c.convicted.result (summary_places c.summaries.result) w) (decode_shelf w) _ c.parse-2.ensures _ c.in_ok-shelf.was in
    let formed = formed-beside m w _ c.convicted.result (summary_places c.summaries.result) k.0 k.1 c.convicted.ensures c.summaries.ensures ∙ r.0 in
    rw formed (ap₂ (λ (t : Track) (s : List Waiting). Ok (record { track = t; shelf = s })) (sym k.1) (sym r.1))
