use Rattle.std.proofs.Common.{List, rules, arith, sym, ap, ap₂, ◌∙◌}
use mathlib.Core.Path.{subst}
use mathlib.Core.List.{map}
use Rattle.octets.specs.Bytes.{Bytes}
use Rattle.octets.proofs.Numbers.{all-bytes}
use Rattle.track_transmission.specs.Held.{HeldTransmission}
use Rattle.track_arrange.specs.Arranged.{arranged}
use Rattle.track_memory.specs.Memory.{decode, encode}
use Rattle.track_memory.proofs.Opened.{opened, summary-bytes-length, filled, encode-decode}
use Rattle.track_recheck.specs.Recheck.{standing}
use Rattle.track_recheck.specs.Steps.{AllSettled}
use Rattle.track_recheck.proofs.Heads.{summaries-read, count-read, table-read}
use Rattle.track_recheck.proofs.Rechecked.{summaries-there, transmissions-there, encoded, all-stand, some-stale}
use Rattle.track_recheck.proofs.rechecks.recheck_settled.Goals as goal

pub returns-then-not-any_stale : goal.returns-then-not-any_stale
returns-then-not-any_stale c =
    let m = c.args.memory.now in
    let y : Bytes m = all-bytes m (search rules) in
    sym (encode-decode m (opened m c.requires.track) y) ∙ ap encode (all-stand (decode m) (rw c.of.ensures at (sym c.any_stale.ensures ∙ c.if-not-any_stale.true)))

pub split_at_mut-head-requires : goal.split_at_mut-head-requires
split_at_mut-head-requires c = omega (arith, (opened c.args.memory.now c.requires.track).size)

pub invariant_of-summaries : goal.invariant_of-summaries
invariant_of-summaries c =
    let m = c.args.memory.now in
    let o = opened m c.requires.track in
    let h = c.split_at_mut-head.result.0.now in
    let e = c.split_at_mut-head.ensures.front in
    let n = c.u16_at-n.ensures ∙ summaries-read m h e in
    record { within = rw (table-read m h e, summary-bytes-length m o) (omega (arith, o.few_summaries, n)) }

pub renew_all-requires-clause-filled : goal.renew_all-requires-clause-filled
renew_all-requires-clause-filled c =
    let m = c.args.memory.now in
    let y : Bytes m = all-bytes m (search rules) in
    rw (c.split_at_mut-head.ensures.back, count-read m c.split_at_mut-head.result.0.now c.split_at_mut-head.ensures.front) (filled m (opened m c.requires.track) y)

pub renew_all-requires-clause-settled : goal.renew_all-requires-clause-settled
renew_all-requires-clause-settled c h =
    let m = c.args.memory.now in
    let k = count-read m c.split_at_mut-head.result.0.now c.split_at_mut-head.ensures.front in
    subst AllSettled (sym (transmissions-there m _ _ k c.split_at_mut-head.ensures.back)) (c.requires.settled h)

pub overflow_cast-head : goal.overflow_cast-head
overflow_cast-head c = omega (arith, c.arrange-left.ensures.filled.few)

pub returns : goal.returns
returns c =
    let m = c.args.memory.now in
    let h = c.split_at_mut-head.result.0.now in
    let e = c.split_at_mut-head.ensures.front in
    let y : Bytes m = all-bytes m (search rules) in
    let ss = summaries-there m _ _ (c.u16_at-n.ensures ∙ summaries-read m h e) (table-read m h e) in
    let ts = transmissions-there m _ _ (count-read m h e) c.split_at_mut-head.ensures.back in
    let left = c.arrange-left.ensures.held ∙ ap arranged (c.renew_all.ensures.held ∙ ap₂ (λ (s : List (List _)) (t : List HeldTransmission). map (standing s) t) ss ts) in
    encoded m (opened m c.requires.track) y h c.arrange-left.new.t c.arrange-left.result _ e c.arrange-left.ensures.filled left
    ∙ ap encode (some-stale (decode m) (rw c.of.ensures at (sym c.any_stale.ensures ∙ c.if-not-any_stale.false)))
