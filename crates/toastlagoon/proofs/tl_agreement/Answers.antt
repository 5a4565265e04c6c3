use Rattle.std.proofs.Common.{◌≡◌, rules}
use Rattle.arithmetic.specs.Agree.{agreement_of}
use Rattle.toastlagoon.proofs.tl_agreement.Goals as goal

pub returns : goal.returns
returns c =
    let a : c.agreement-a.result ≡ agreement_of c.claim-smaller.result c.claim-larger.result = c.agreement-a.ensures in
    search rules
