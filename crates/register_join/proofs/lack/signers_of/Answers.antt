use Rattle.std.proofs.Common.{arith, sym, ◌∙◌}
use Rattle.record.specs.Layout.{record_size}
use Rattle.tables.proofs.Puts.{told_found}
use Rattle.tables.proofs.Putting.{held_at}
use Rattle.signed_records.proofs.Signatures.{signers-at}
use Rattle.register_join.proofs.LackTurns.{found-signers, no-signers}
use Rattle.register_join.proofs.lack.signers_of.Goals as goal

pub offset_bounds-mine-i : goal.offset_bounds-mine-i
offset_bounds-mine-i c =
    let ps = c.args.mine.now in
    let t = told_found record_size c.args.key.now ps c.in-Ok.i (sym c.in-Ok.is ∙ c.search.ensures) in
    let h = held_at record_size c.args.key.now ps c.requires.sorted t.0 in
    omega (arith, t.1, h.0, c.requires.few)

pub bounds-mine-i : goal.bounds-mine-i
bounds-mine-i c =
    let ps = c.args.mine.now in
    let t = told_found record_size c.args.key.now ps c.in-Ok.i (sym c.in-Ok.is ∙ c.search.ensures) in
    let h = held_at record_size c.args.key.now ps c.requires.sorted t.0 in
    omega (arith, t.1, h.0)

pub returns-in-Ok : goal.returns-in-Ok
returns-in-Ok c =
    let ps = c.args.mine.now in
    let t = told_found record_size c.args.key.now ps c.in-Ok.i (sym c.in-Ok.is ∙ c.search.ensures) in
    let h = held_at record_size c.args.key.now ps c.requires.sorted t.0 in
    let l = c.told-mine c.in-Ok.i (omega (arith, t.1, h.0)) in
    c.from_mask.ensures ∙ c.u32_at.ensures ∙ signers-at _ l ∙ found-signers c.args.key.now ps c.requires.sorted c.in-Ok.i (sym c.in-Ok.is ∙ c.search.ensures)

pub returns-in-Err : goal.returns-in-Err
returns-in-Err c = c.from_mask-in-Err.ensures ∙ no-signers c.args.key.now c.args.mine.now c.requires.sorted c.in-Err.field-0 (sym c.in-Err.is ∙ c.search.ensures)
