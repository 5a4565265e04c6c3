use Rattle.std.proofs.Common.{◌≡◌, ℕ, ◌-◌, List, ◌++◌, length, take, drop, sym, refl, ap, ap₂, ◌∙◌, arith, rules}
use borrow.Rule.Slice.PartMut.{same_len_mid}
use Rattle.octets.specs.Masks.{with_bit}
use Rattle.octets.proofs.Numbers.{all-bytes}
use Rattle.models.specs.Models.{counts}
use Rattle.track_merge.specs.Merged.{merged_number}
use Rattle.track_memory.specs.Layout.{transmissions_at}
use Rattle.track_memory.proofs.Opened.{opened}
use Rattle.track.proofs.Reported.{lent-filled, step-few, stepped-is, decoded-summaries}
use Rattle.fixes.specs.Made.{fix_from}
use Rattle.track_memory.specs.Memory.{decode}
use Rattle.track.specs.Track.{reported_fix}
use Rattle.track.proofs.reports.merge_record.Goals as goal

pub bounds-memory-6 : goal.bounds-memory-6
bounds-memory-6 c = omega (arith, (opened c.args.memory.now c.requires.track).size)

pub slice_bounds-merge-count : goal.slice_bounds-merge-count
slice_bounds-merge-count c = omega (arith, (opened c.args.memory.now c.requires.track).size)

pub slice_bounds-merge-start : goal.slice_bounds-merge-start
slice_bounds-merge-start c = omega (arith, (opened c.args.memory.now c.requires.track).size)

pub merge-x-requires : goal.merge-x-requires
merge-x-requires c =
    let m : List ℕ = c.args.memory.now in
    lent-filled m (opened m c.requires.track) (all-bytes m (search rules))

pub overflow_cast-left : goal.overflow_cast-left
overflow_cast-left c =
    let m : List ℕ = c.args.memory.now in
    let made : fix_from c.args.r.bytes.now c.args.inputs c.with.result ≡ reported_fix c.args.engine c.args.r.bytes.now (decode m) = ap₂ (fix_from c.args.r.bytes.now) c.requires.inputs (c.with.ensures.set ∙ ap (λ (x : ℕ). with_bit x c.args.engine) c.from_mask.ensures) in
    let few = step-few m (opened m c.requires.track) (all-bytes m (search rules)) c.args.engine c.args.r.bytes.now (fix_from c.args.r.bytes.now c.args.inputs c.with.result) made in
    omega (arith, c.merge-x.ensures.count, few)

pub put_step-requires : goal.put_step-requires
put_step-requires c =
    let m : List ℕ = c.args.memory.now in
    let size₁ = same_len_mid transmissions_at (length m - transmissions_at) m c.merge-x.new.t c.merge-x.auto.t ∙ (opened m c.requires.track).size in
    omega (arith, size₁)

pub returns : goal.returns
returns c =
    let m : List ℕ = c.args.memory.now in
    let r : List ℕ = c.args.r.bytes.now in
    let made : fix_from r c.args.inputs c.with.result ≡ reported_fix c.args.engine r (decode m) = ap₂ (fix_from r) c.requires.inputs (c.with.ensures.set ∙ ap (λ (x : ℕ). with_bit x c.args.engine) c.from_mask.ensures) in
    let m₁ : List ℕ = take transmissions_at m ++ (c.merge-x.new.t ++ drop (length m - transmissions_at) (drop transmissions_at m)) in
    stepped-is m (opened m c.requires.track) (all-bytes m (search rules)) c.args.engine r (fix_from r c.args.inputs c.with.result) made c.merge-x.new.t m₁ c.merge-x.ensures.bytes refl
    (ap (λ (ss : List (List ℕ)). counts ss r) (sym (decoded-summaries m)) ∙ c.requires.counts)
    (merged_number c.merge-x.result.answer) (ap merged_number c.merge-x.ensures.answer) c.merge-x.result.count c.merge-x.result.entered c.merge-x.ensures.count c.merge-x.ensures.entered _ c.put_step.ensures
