use Rattle.std.proofs.Common.{sym, ap, ◌∙◌}
use Rattle.octets.specs.Words.{word_bytes}
use Rattle.text.specs.Texts.{append}
use Rattle.text.proofs.Appending.{append-nil, append_more}
use Rattle.octets.proofs.Numbers.{bytes-of-u64}
use Rattle.record.proofs.fields.push_words.Goals as goal

pub loop-value-init : goal.loop-value-init
loop-value-init c = sym (append-nil c.args.out.now)

pub loop-value-preserved : goal.loop-value-preserved
loop-value-preserved c =
    append_more (word_bytes 8) c.args.values.now c.loop-value.value-index 0 _ _ _ c.loop-value-test.true c.loop-value.invariant
    (c.push_bytes.ensures ∙ ap (append c.loop-value.out) (c.to_le_bytes.ensures ∙ bytes-of-u64 _))
