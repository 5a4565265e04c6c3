use mathlib.Core.Path.{ap, ◌∙◌}
use lib.Dec.{ltb}
use Rattle.record.specs.Fields.{tag_count}
use Rattle.record.proofs.Record.has_fewer_tags_than.Goals as goal

pub returns : goal.returns
returns c = ap (λ n. ltb n c.tag_count-2.result) c.tag_count.ensures.value ∙ ap (ltb (tag_count c.args.self.bytes.now)) c.tag_count-2.ensures.value
