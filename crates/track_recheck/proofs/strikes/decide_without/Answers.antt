use Rattle.std.proofs.Common.{◌+◌, length, refl, rules, sym, ap, ◌∙◌}
use mathlib.Core.Path.{subst}
use mathlib.Core.List.{map}
use Rattle.std.specs.List.{filter}
use Rattle.octets.proofs.Numbers.{all-bytes}
use Rattle.track_transmission.specs.Held.{HeldTransmission, held_in}
use Rattle.track_transmission.specs.Bytes.{transmission_in, transmission_bytes}
use Rattle.track_normalize.specs.Normal.{distinct, normalized}
use Rattle.track_normalize.specs.Deciding.{normalized_distinct}
use Rattle.track_normalize.specs.Taking.{Settled}
use Rattle.track_normalize.specs.Signed.{is_signed}
use Rattle.track_normalize.proofs.Gathered.{kept_distinct}
use Rattle.track_normalize.proofs.Settled.{settled-all}
use Rattle.track_recheck.specs.Recheck.{unsigned}
use Rattle.track_recheck.proofs.Decided.{without-decided}
use Rattle.track_recheck.proofs.strikes.decide_without.Goals as goal

pub returns : goal.returns
returns c =
    let left = λ (t : HeldTransmission). filter is_signed (map (unsigned c.args.engine) (held_in t)) in
    let gathered = c.gather_without.ensures ∙ ap (λ t. distinct (left t)) c.of.ensures in
    let again = ap normalized_distinct gathered ∙ kept_distinct (left (transmission_in c.args.b.now)) in
    let d = without-decided c.args.b.now (all-bytes c.args.b.now (search rules)) c.requires c.args.engine c.write_left.new.b (c.write_left.ensures.left ∙ ap transmission_bytes again) in
    record {
      steady = d.steady;
      held = d.held;
      settled = λ h. subst Settled (sym d.held)
          (settled-all (normalized (left (transmission_in c.args.b.now))) (left (transmission_in c.args.b.now)) refl
          (ap (λ (t : HeldTransmission). length t.fixes + length t.refused) (sym again) ∙ c.write_left.ensures.all h ∙ ap length gathered));
    }
