use Rattle.std.proofs.Common.{ℕ, List, ◌++◌, refl, rules, arith, ap, ◌∙◌}
use mathlib.Core.Path.{subst}
use mathlib.Core.List.{map}
use Rattle.octets.specs.Bytes.{Bytes}
use Rattle.octets.specs.Masks.{with_bit}
use Rattle.octets.proofs.Numbers.{all-bytes}
use Rattle.track_arrange.specs.Arranged.{arranged}
use Rattle.track_memory.specs.Memory.{contested_in}
use Rattle.track_memory.proofs.Opened.{opened, summary-bytes-length, filled}
use Rattle.track_recheck.specs.Recheck.{without_engine}
use Rattle.track_recheck.specs.Steps.{AllSettled}
use Rattle.track_recheck.proofs.Heads.{convicted-read, summaries-read, count-read, table-read, head-rewritten, with-table}
use Rattle.track_recheck.proofs.Rechecked.{transmissions-there}
use Rattle.track_recheck.proofs.Settled.{settled-left}
use Rattle.track_recheck.proofs.Stricken.{summaries-left, summaries-behind, struck}
use Rattle.track_recheck.proofs.strikes.strike.Goals as goal

pub split_at_mut-head-requires : goal.split_at_mut-head-requires
split_at_mut-head-requires c = omega (arith, (opened c.args.memory.now c.requires).size)

pub strike_all-settled-requires : goal.strike_all-settled-requires
strike_all-settled-requires c =
    let m = c.args.memory.now in
    let y : Bytes m = all-bytes m (search rules) in
    rw (c.split_at_mut-head.ensures.back, count-read m c.split_at_mut-head.result.0.now c.split_at_mut-head.ensures.front) (filled m (opened m c.requires) y)

pub strike_table-summaries-requires-clause-fits : goal.strike_table-summaries-requires-clause-fits
strike_table-summaries-requires-clause-fits c =
    let m = c.args.memory.now in
    let o = opened m c.requires in
    let h = c.split_at_mut-head.result.0.now in
    let e = c.split_at_mut-head.ensures.front in
    let n = c.u16_at-n.ensures ∙ summaries-read m h e in
    rw (table-read m h e, summary-bytes-length m o) (omega (arith, o.few_summaries, n))

pub strike_table-summaries-requires-clause-zeros : goal.strike_table-summaries-requires-clause-zeros
strike_table-summaries-requires-clause-zeros c =
    let m = c.args.memory.now in
    let h = c.split_at_mut-head.result.0.now in
    let e = c.split_at_mut-head.ensures.front in
    rw (table-read m h e, c.u16_at-n.ensures ∙ summaries-read m h e) (summaries-behind m (opened m c.requires))

pub overflow_cast-summaries : goal.overflow_cast-summaries
overflow_cast-summaries c =
    let m = c.args.memory.now in
    let h = c.split_at_mut-head.result.0.now in
    let e = c.split_at_mut-head.ensures.front in
    let z = c.strike_table-summaries in
    let l = summaries-left m (opened m c.requires) c.args.engine _ (c.u16_at-n.ensures ∙ summaries-read m h e) _ (table-read m h e) z.result z.new.t z.ensures in
    omega (arith, l)

pub overflow_cast-left : goal.overflow_cast-left
overflow_cast-left c = omega (arith, c.arrange-left.ensures.filled.few)

pub returns-clause-left : goal.returns-clause-left
returns-clause-left c =
    let m = c.args.memory.now in
    let o = opened m c.requires in
    let y : Bytes m = all-bytes m (search rules) in
    let i = c.args.engine in
    let h = c.split_at_mut-head.result.0.now in
    let e = c.split_at_mut-head.ensures.front in
    let z = c.strike_table-summaries in
    let u = c.arrange-left in
    let ts = transmissions-there m _ _ (count-read m h e) c.split_at_mut-head.ensures.back in
    let n = c.u16_at-n.ensures ∙ summaries-read m h e in
    let a = c.with.ensures.set ∙ ap (λ (j : ℕ). with_bit j i) (c.from_mask-convicted.ensures ∙ c.u32_at.ensures ∙ convicted-read m h e) in
    ap (λ (p : List ℕ). p ++ u.new.t) (c.put_header.ensures ∙ head-rewritten m h e o y c.with.result z.result u.result z.new.t _ refl)
    ∙ with-table c.with.result z.result u.result (contested_in m) z.new.t u.new.t
    ∙ struck m o i _ n _ (table-read m h e) z.result z.new.t z.ensures c.with.result u.result u.new.t a u.ensures.filled
    (u.ensures.held ∙ ap arranged (c.strike_all-settled.ensures.held ∙ ap (map (without_engine i)) ts))

pub returns-clause-settled : goal.returns-clause-settled
returns-clause-settled c h =
    let m = c.args.memory.now in
    let i = c.args.engine in
    let ts = transmissions-there m _ _ (count-read m c.split_at_mut-head.result.0.now c.split_at_mut-head.ensures.front) c.split_at_mut-head.ensures.back in
    settled-left m i (subst AllSettled (c.strike_all-settled.ensures.held ∙ ap (map (without_engine i)) ts) (c.strike_all-settled.ensures.settled h))
