use mathlib.Core.Path.{◌≡◌}
use Rattle.record.specs.Relations.{shares_tag, tied}
use Rattle.record.proofs.Record.is_tied_to.Goals as goal

pub returns-then-has_message_of : goal.returns-then-has_message_of
unfolding tied
returns-then-has_message_of c =
    let e : c.shares_tag.result ≡ shares_tag c.args.self.bytes.now c.args.other.bytes.now = c.shares_tag.ensures in
    rw (← c.if-has_message_of.ensures) e
