use mathlib.Core.Path.{◌≡◌, ap, ◌∙◌}
use Rattle.octets.specs.Order.{same}
use Rattle.record.specs.Fields.{message}
use Rattle.record.proofs.Record.has_message_of.Goals as goal

pub returns : goal.returns
returns c =
    let mine : c.message.result.now ≡ message c.args.self.bytes.now = c.message.ensures.value in
    let theirs : c.message-2.result.now ≡ message c.args.other.bytes.now = c.message-2.ensures.value in
    c.equal.ensures ∙ ap (λ m. same m c.message-2.result.now) mine ∙ ap (same (message c.args.self.bytes.now)) theirs
