use Rattle.std.proofs.Common.{arith, ap, ◌∙◌, ℕ}
use Rattle.octets.specs.Masks.{with_bit}
use Rattle.octets.specs.Writes.{put_word}
use Rattle.octets.proofs.Numbers.{all-bytes}
use Rattle.tables.specs.Places.{places}
use Rattle.tables.proofs.Tables.{length-places}
use Rattle.tables.proofs.Keeping.{kept-length}
use Rattle.tables.proofs.Puts.{used}
use Rattle.models.specs.Summary.{summary_size}
use Rattle.record.specs.Layout.{record_size}
use Rattle.signed_records.specs.Signed.{place_size, has_another_signer, drop_signer}
use Rattle.models.specs.Summaries.{is_of_another, no_value}
use Rattle.register.specs.Layout.{convicted_at, summary_count_at, record_count_at}
use Rattle.register.proofs.Opened.{opened}
use Rattle.register.proofs.Parts.{summaries-sorted, records-sorted}
use Rattle.register.proofs.Written.{struck}
use Rattle.register.proofs.convictions.strike.Goals as goal

pub strike_summaries-first-requires : goal.strike_summaries-first-requires
strike_summaries-first-requires c =
    used (summaries-sorted c.args.memory.now _ c.split_at_mut-header.ensures.back c.split_at_mut-summaries.result.0.now _ c.split_at_mut-header.ensures.front (opened c.args.memory.now c.requires) c.u16_at.result c.u16_at.ensures c.split_at_mut-summaries.ensures.front)

pub strike_records-second-requires : goal.strike_records-second-requires
strike_records-second-requires c =
    used (records-sorted c.args.memory.now _ c.split_at_mut-header.ensures.back c.split_at_mut-summaries.result.1.now _ c.split_at_mut-header.ensures.front (opened c.args.memory.now c.requires) c.u16_at-2.result c.u16_at-2.ensures c.split_at_mut-summaries.ensures.back)

pub overflow_cast-first : goal.overflow_cast-first
overflow_cast-first c =
    let t = summaries-sorted c.args.memory.now _ c.split_at_mut-header.ensures.back c.split_at_mut-summaries.result.0.now _ c.split_at_mut-header.ensures.front (opened c.args.memory.now c.requires) c.u16_at.result c.u16_at.ensures c.split_at_mut-summaries.ensures.front in
    omega (arith, t.few, c.strike_summaries-first.ensures.count, kept-length summary_size (is_of_another c.args.engine) no_value (places summary_size c.u16_at.result c.split_at_mut-summaries.result.0.now), length-places summary_size c.u16_at.result c.split_at_mut-summaries.result.0.now)

pub overflow_cast-second : goal.overflow_cast-second
overflow_cast-second c =
    let t = records-sorted c.args.memory.now _ c.split_at_mut-header.ensures.back c.split_at_mut-summaries.result.1.now _ c.split_at_mut-header.ensures.front (opened c.args.memory.now c.requires) c.u16_at-2.result c.u16_at-2.ensures c.split_at_mut-summaries.ensures.back in
    omega (arith, t.few, c.strike_records-second.ensures.count, kept-length record_size (has_another_signer c.args.engine) (drop_signer c.args.engine) (places place_size c.u16_at-2.result c.split_at_mut-summaries.result.1.now), length-places place_size c.u16_at-2.result c.split_at_mut-summaries.result.1.now)

pub returns : goal.returns
returns c =
    let m = c.args.memory.now in
    let d = struck m c.requires (all-bytes m (λ i. (c.slice_known-1.given i).fits)) c.args.engine (omega (arith, c.with-struck.ensures.small)) _ _ c.split_at_mut-header.ensures.front c.split_at_mut-header.ensures.back
    c.u16_at.result c.u16_at-2.result _ _ c.u16_at.ensures c.u16_at-2.ensures c.split_at_mut-summaries.ensures.front c.split_at_mut-summaries.ensures.back
    c.strike_summaries-first.result c.strike_records-second.result _ _ c.strike_summaries-first.ensures c.strike_records-second.ensures c.with-struck.result _
    (c.with-struck.ensures.set ∙ ap (λ (b : ℕ). with_bit b c.args.engine) (c.from_mask.ensures ∙ c.u32_at.ensures))
    (c.put_u16-2.ensures ∙ ap (put_word 2 record_count_at c.strike_records-second.result) (c.put_u16.ensures ∙ ap (put_word 2 summary_count_at c.strike_summaries-first.result) (c.put_u32.ensures ∙ ap (λ (x : ℕ). put_word 4 convicted_at x c.split_at_mut-header.result.0.now) c.mask.ensures))) in
    record { struck = d.decoded; formed = d.formed }
