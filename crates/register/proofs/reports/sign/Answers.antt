use Rattle.std.proofs.Common.{rules, arith, ◌≡◌, sym, ap, ◌∙◌, List, ℕ, ◌++◌, take, take_at}
use Rattle.octets.specs.Masks.{with_bit}
use Rattle.octets.specs.Words.{word_bytes}
use Rattle.octets.proofs.Numbers.{all-bytes}
use Rattle.tables.specs.Places.{places}
use Rattle.tables.specs.Tables.{sought}
use Rattle.tables.proofs.Puts.{found-in-range, in-order}
use Rattle.signed_records.specs.Signed.{place_size}
use Rattle.record.specs.Layout.{record_size}
use Rattle.register.specs.Signers.{signers_found}
use Rattle.register.proofs.Opened.{opened}
use Rattle.register.proofs.Parts.{records-sorted}
use Rattle.register.proofs.Written.{refused-record, signed}
use Rattle.register.proofs.reports.sign.Goals as goal

pub of-records-requires : goal.of-records-requires
of-records-requires c =
    (omega arith, records-sorted c.args.memory.now _ c.split_at_mut-header.ensures.back c.split_at_mut-summaries.result.1.now _ c.split_at_mut-header.ensures.front (opened c.args.memory.now c.requires.register) c.u16_at.result c.u16_at.ensures c.split_at_mut-summaries.ensures.back)

pub signers_with-signers-requires : goal.signers_with-signers-requires
signers_with-signers-requires c =
    let q = c.of-records.result in
    rw c.places.ensures (found-in-range record_size c.args.r.bytes.now (places place_size q.count q.places.now) (in-order q.sorted) c.search-found.result c.search-found.ensures)

pub put-requires : goal.put-requires
put-requires c =
    let k : take record_size c.signed.result ≡ c.args.r.bytes.now = ap (take record_size) c.signed.ensures ∙ take_at c.args.r.bytes.now (word_bytes 4 c.signers_with-signers.result) record_size c.args.r.size in
    (omega arith, (omega arith, (c.search-found.ensures ∙ ap (λ (y : List ℕ). sought record_size y (places place_size c.of-records.result.count c.of-records.result.places.now)) (sym k), sym c.is_full.ensures ∙ c.if-is_full.false)))

pub returns-then-is_full-clause-signed : goal.returns-then-is_full-clause-signed
returns-then-is_full-clause-signed c =
    let q = c.of-records.result in
    refused-record c.args.memory.now c.requires.register c.args.engine c.args.r.bytes.now _ _ c.split_at_mut-header.ensures.front c.split_at_mut-header.ensures.back q.count (c.of-records.ensures.count ∙ c.u16_at.ensures) q.places.now
    (c.of-records.ensures.places ∙ c.split_at_mut-summaries.ensures.back) c.search-found.result c.search-found.ensures (sym c.is_full.ensures ∙ c.if-is_full.true) _ (search rules)

pub returns : goal.returns
returns c =
    let m = c.args.memory.now in
    let q = c.of-records.result in
    let f = c.search-found.result in
    let d = λ (t : List ℕ). λ (k : t ≡ c.put.new.self.places.now). signed m c.requires.register c.args.engine c.args.r.bytes.now _ _ c.split_at_mut-header.ensures.front c.split_at_mut-header.ensures.back q.count (c.of-records.ensures.count ∙ c.u16_at.ensures) q.places.now
    (c.of-records.ensures.places ∙ c.split_at_mut-summaries.ensures.back) f c.search-found.ensures c.args.r.size (sym c.is_full.ensures ∙ c.if-is_full.false) (all-bytes m (λ i. (c.slice_known-1.given i).fits)) (omega (arith, c.signers_with-signers.ensures.small))
    c.args.r.formed c.requires.free _ (c.signed.ensures ∙ ap (λ (x : ℕ). c.args.r.bytes.now ++ word_bytes 4 x) (c.signers_with-signers.ensures.signers ∙ ap (λ (ps : List (List ℕ)). with_bit (signers_found ps f) c.args.engine) c.places.ensures))
    _ _ t c.count.result c.split_at_mut-summaries.ensures.front (c.count.ensures ∙ c.put.ensures.count) c.put_u16.ensures (k ∙ c.put.ensures.places) in
    record { signed = (d _ (search rules)).0; formed = (d _ (search rules)).1 }
