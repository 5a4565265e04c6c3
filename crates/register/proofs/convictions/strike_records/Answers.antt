-- Each turn takes the engine's signature off one record, and keeps the record below if another is left.
use Rattle.std.proofs.Common.{◌*◌, sym, ◌∙◌}
use Rattle.signed_records.specs.Signed.{place_size}
use Rattle.tables.proofs.Striking.{left-none, left-inside, left-gone, left-stays, left-cleared}
use Rattle.register.proofs.Striking.{unsigned, still-signed, changed-there}
use Rattle.register.proofs.convictions.strike_records.Goals as goal

pub loop-i-init : goal.loop-i-init
loop-i-init c = left-none c.requires

pub loop-i-preserved-then-is_empty : goal.loop-i-preserved-then-is_empty
loop-i-preserved-then-is_empty c =
    left-gone c.loop-i.invariant c.loop-i-test.true
    (unsigned c.args.engine c.loop-i.t (c.loop-i.i * place_size) (left-inside c.loop-i.invariant c.loop-i-test.true) c.without-signers.result c.from_mask.result
    (c.from_mask.ensures ∙ c.u32_at.ensures) c.without-signers.ensures (sym c.is_empty.ensures ∙ c.if-is_empty.true))

pub loop-i-preserved : goal.loop-i-preserved
loop-i-preserved c =
    let e = c.args.engine in
    let i = c.loop-i.i * place_size in
    let within = left-inside c.loop-i.invariant c.loop-i-test.true in
    let t' = c.keep_place.new.t in
    left-stays c.loop-i.invariant c.loop-i-test.true t'
    (still-signed e c.loop-i.t i within c.without-signers.result c.from_mask.result (c.from_mask.ensures ∙ c.u32_at.ensures) c.without-signers.ensures (sym c.is_empty.ensures ∙ c.if-is_empty.false))
    (changed-there e c.loop-i.t i within c.without-signers.result c.from_mask.result (c.from_mask.ensures ∙ c.u32_at.ensures) c.without-signers.ensures t' (c.loop-i.j * place_size) c.keep_place.ensures)

pub returns : goal.returns
returns c =
    left-cleared c.loop-i.invariant c.loop-i-test.false c.clear_rest.new.t c.clear_rest.ensures
