use Rattle.std.proofs.Common.{◌≡◌, ℕ, List, Bool, true, false, ◌&&◌, refl, ap, ◌∙◌}
use Rattle.octets.specs.Order.{same}
use Rattle.models.specs.Models.{counts}
use Rattle.models.specs.Identity.{cited_inputs}
use Rattle.models.specs.Answers.{summary_places}
use Rattle.models.proofs.Cited.{cites, cites-none}
use Rattle.track_recheck.specs.Recheck.{stands}
use Rattle.track_recheck.proofs.rechecks.stands.Goals as goal

counted : (b x y : Bool) → b ≡ true → x ≡ y → x ≡ (b && y)
counted b x y p q = rw p q

uncounted : (b y : Bool) → b ≡ false → false ≡ (b && y)
uncounted b y p = rw p refl

pub returns-in-Some : goal.returns-in-Some
returns-in-Some c =
    let ss = summary_places c.args.summaries in
    let r = c.fix.inside.report.bytes.now in
    let k = cites ss r _ c.cited_inputs.ensures c.in-Some.inputs c.in-Some.is in
    let alike : c.eq.result ≡ same (cited_inputs ss r) c.fix.inside.inputs = c.eq.ensures ∙ ap (λ (l : List ℕ). same l c.fix.inside.inputs) k.1 in
    counted (counts ss r) c.eq.result (same (cited_inputs ss r) c.fix.inside.inputs) k.0 alike ∙ ap (stands ss) c.fix.view_is

pub returns-in-None : goal.returns-in-None
returns-in-None c =
    let ss = summary_places c.args.summaries in
    let r = c.fix.inside.report.bytes.now in
    uncounted (counts ss r) (same (cited_inputs ss r) c.fix.inside.inputs) (cites-none ss r _ c.cited_inputs.ensures c.in-None.is) ∙ ap (stands ss) c.fix.view_is
