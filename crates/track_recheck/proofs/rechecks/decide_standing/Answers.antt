use Rattle.std.proofs.Common.{rules, ap, ◌∙◌}
use Rattle.std.specs.List.{filter}
use Rattle.octets.proofs.Numbers.{all-bytes}
use Rattle.models.specs.Answers.{summary_places}
use Rattle.track_transmission.specs.Held.{HeldTransmission, held_in}
use Rattle.track_transmission.specs.Bytes.{transmission_in, transmission_bytes}
use Rattle.track_normalize.specs.Normal.{distinct}
use Rattle.track_normalize.specs.Deciding.{normalized_distinct}
use Rattle.track_normalize.proofs.Gathered.{kept_distinct}
use Rattle.track_recheck.specs.Recheck.{stands}
use Rattle.track_recheck.proofs.Decided.{standing-decided}
use Rattle.track_recheck.proofs.rechecks.decide_standing.Goals as goal

pub returns : goal.returns
returns c =
    let left = λ (t : HeldTransmission). filter (stands (summary_places c.args.summaries)) (held_in t) in
    let gathered = c.gather_standing.ensures ∙ ap (λ t. distinct (left t)) c.of.ensures in
    let d = standing-decided c.args.b.now (all-bytes c.args.b.now (search rules)) c.requires (summary_places c.args.summaries) c.write_left.new.b
    (c.write_left.ensures.left ∙ ap transmission_bytes (ap normalized_distinct gathered ∙ kept_distinct (left (transmission_in c.args.b.now)))) in
    record { steady = d.steady; held = d.held }
