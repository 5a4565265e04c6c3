use Rattle.std.proofs.Common.{ap, ap₂, ◌∙◌, le_trans, take, drop}
use Rattle.tables.proofs.Keeping.{kept-length}
use Rattle.models.specs.Limits.{summaries_size}
use Rattle.models.specs.Summary.{summary_size}
use Rattle.models.specs.Summaries.{no_value}
use Rattle.register.specs.Layout.{summaries_at, records_size}
use Rattle.register.specs.Memory.{decode}
use Rattle.register_join.specs.Join.{without_bits}
use Rattle.register_join.specs.Lacks.{is_lacking}
use Rattle.register_join.proofs.Encoded.{zero-front, zero-back, zeros}
use Rattle.register_join.proofs.LackTurns.{fewer-records, put-lacking}
use Rattle.register_join.proofs.lack.write.Goals as goal

pub write_summaries-n-requires-clause-zero : goal.write_summaries-n-requires-clause-zero
write_summaries-n-requires-clause-zero c =
    c.split_at_mut-places.ensures.front
    ∙ ap (take summaries_size) (c.split_at_mut-header.ensures.back ∙ ap (drop summaries_at) (c.clear.ensures ∙ ap zeros c.requires.size))
    ∙ zero-front summaries_at summaries_size records_size

pub write_records-k-requires-clause-zero : goal.write_records-k-requires-clause-zero
write_records-k-requires-clause-zero c =
    c.split_at_mut-places.ensures.back
    ∙ ap (drop summaries_size) (c.split_at_mut-header.ensures.back ∙ ap (drop summaries_at) (c.clear.ensures ∙ ap zeros c.requires.size))
    ∙ zero-back summaries_at summaries_size records_size

pub put_header-requires-clause-summaries : goal.put_header-requires-clause-summaries
put_header-requires-clause-summaries c =
    rw c.write_summaries-n.ensures.count
    (le_trans (kept-length summary_size (is_lacking c.convicted-convicted.result c.summaries-2.result.now) no_value c.summaries.result.now) c.summaries.ensures.few)

pub put_header-requires-clause-records : goal.put_header-requires-clause-records
put_header-requires-clause-records c =
    rw c.write_records-k.ensures.count (le_trans (fewer-records c.convicted-convicted.result c.records-2.result.now c.records.result.now) c.records.ensures.few)

pub returns : goal.returns
returns c =
    put-lacking (decode c.args.theirs.now) (decode c.args.mine.now) c.without.result c.write_summaries-n.result c.write_records-k.result
    c.put_header.new.header c.write_summaries-n.new.out c.write_records-k.new.out c.convicted-convicted.result c.convicted-convicted.ensures
    c.summaries-2.result.now c.summaries-2.ensures.places c.summaries.result.now c.summaries.ensures.places c.records-2.result.now c.records-2.ensures.places c.records.result.now c.records.ensures.places
    (c.without.ensures.set ∙ ap₂ without_bits c.convicted.ensures c.convicted-convicted.ensures) c.write_summaries-n.ensures.count c.write_records-k.ensures.count c.put_header.ensures
    c.write_summaries-n.ensures.bytes c.write_records-k.ensures.bytes
