use Prim.Native.Nat.{ℕ}
use mathlib.Core.Path.{sym, ap, ◌∙◌, subst}
use mathlib.Core.List.{List}
use native.Mathlib.Omega.{arith}
use borrow.Author.Rules.{rules}
use Rattle.octets.specs.Bytes.{Bytes}
use Rattle.octets.proofs.Numbers.{all-bytes}
use Rattle.track_memory.specs.Track.{Track}
use Rattle.track_memory.specs.Memory.{decode, encode}
use Rattle.track_memory.proofs.Opened.{opened}
use Rattle.track_memory.proofs.Valid.{Valid, decode-valid, formed-encode, decode-encode}
use Rattle.track_recheck.specs.Recheck.{recheck, strike_engine}
use Rattle.track_recheck.specs.Steps.{AllSettled}
use Rattle.track_recheck.proofs.Renewing.{strike-valid}
use Rattle.track_recheck.proofs.strikes.convict.Goals as goal

pub recheck_settled-requires-clause-track : goal.recheck_settled-requires-clause-track
recheck_settled-requires-clause-track c =
    let m : List ℕ = c.args.memory.now in
    let bytes : Bytes m = all-bytes m (search rules) in
    let struck : Track = strike_engine c.args.engine (decode m) in
    let valid : Valid struck = strike-valid (decode m) (decode-valid m (opened m c.requires) bytes) c.args.engine (omega (arith, c.strike-settled.ensures.small)) in
    rw c.strike-settled.ensures.left (formed-encode struck valid)

pub recheck_settled-requires-clause-settled : goal.recheck_settled-requires-clause-settled
recheck_settled-requires-clause-settled c h =
    let m : List ℕ = c.args.memory.now in
    let bytes : Bytes m = all-bytes m (search rules) in
    let struck : Track = strike_engine c.args.engine (decode m) in
    let valid : Valid struck = strike-valid (decode m) (decode-valid m (opened m c.requires) bytes) c.args.engine (omega (arith, c.strike-settled.ensures.small)) in
    subst (λ (x : Track). AllSettled x.transmissions) (sym (ap decode c.strike-settled.ensures.left ∙ decode-encode struck valid)) (c.strike-settled.ensures.settled h)

pub returns : goal.returns
returns c =
    let m : List ℕ = c.args.memory.now in
    let bytes : Bytes m = all-bytes m (search rules) in
    let struck : Track = strike_engine c.args.engine (decode m) in
    let valid : Valid struck = strike-valid (decode m) (decode-valid m (opened m c.requires) bytes) c.args.engine (omega (arith, c.strike-settled.ensures.small)) in
    c.recheck_settled.ensures ∙ ap (λ (l : List ℕ). encode (recheck (decode l))) c.strike-settled.ensures.left ∙ ap (λ (x : Track). encode (recheck x)) (decode-encode struck valid)
