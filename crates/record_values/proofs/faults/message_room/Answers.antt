use Rattle.std.proofs.Common.{◌≡◌, ◌+◌, ◌-◌, ◌∙◌, ap, ℕ, take, drop, arith}
use Rattle.octets.specs.Runs.{all_zero}
use Rattle.record.specs.Layout.{long_message, message_at, tag_count_at}
use Rattle.record.specs.Fields.{message_length}
use Rattle.record_values.proofs.faults.message_room.Goals as goal

pub returns : goal.returns
returns c =
    let r = c.args.r.now in
    let behind : tag_count_at - (message_at + message_length r) ≡ long_message - message_length r = omega arith in
    c.is_zero.ensures ∙ ap (λ (n : ℕ). all_zero (take n (drop (message_at + message_length r) r))) behind
