use Rattle.std.proofs.Common.{◌≡◌, ◌<◌, ℕ, true, not, List, sym, ap, ◌∙◌, arith, le-ltb}
use borrow.Author.Tests.{ltb-true}
use Rattle.std.specs.List.{filter}
use Rattle.engines.specs.Limits.{max_engine}
use Rattle.errors.specs.After.{after}
use Rattle.errors.proofs.Parsed.{parsed}
use Rattle.track_memory.specs.Memory.{decode, encode}
use Rattle.track_recheck.specs.Recheck.{recheck, strike_engine}
use Rattle.track_shelf.specs.Waiting.{Waiting, is_reported_by}
use Rattle.track_shelf.specs.Memory.{decode_shelf, encode_shelf}
use Rattle.track_shelf.specs.Both.{both_formed, decode_both, on_both}
use Rattle.track_shelf.proofs.Boths.{is-track, shelf-sound}
use Rattle.track.specs.Track.{track_conviction}
use Rattle.track.proofs.convictions.conviction.Goals as goal

convicted-0 : (m w x y : List ℕ) (e : ℕ) → both_formed m w ≡ true → e < 32 → x ≡ encode (recheck (strike_engine e (decode m))) → y ≡ encode_shelf (filter (λ f. not (is_reported_by e f)) (decode_shelf w))
    → after 0 (x, y) ≡ on_both (track_conviction e) m w
unfolding on_both
convicted-0 m w x y e t h p q = rw (t, le-ltb max_engine e (omega arith)) (λ i. after 0 (p i, q i))

pub throw_out-requires : goal.throw_out-requires
throw_out-requires c =
    let m = c.args.memory.now in
    let w = c.args.shelf.now in
    shelf-sound m w (parsed (both_formed m w) (decode_both m w) _ c.parse.ensures _ c.in_ok-parse.was).0

pub convict-requires : goal.convict-requires
convict-requires c =
    let m = c.args.memory.now in
    let w = c.args.shelf.now in
    is-track m w (parsed (both_formed m w) (decode_both m w) _ c.parse.ensures _ c.in_ok-parse.was).0

pub returns : goal.returns
returns c =
    let m = c.args.memory.now in
    let w = c.args.shelf.now in
    let k = parsed (both_formed m w) (decode_both m w) _ c.parse.ensures _ c.in_ok-parse.was in
    convicted-0 m w _ _ c.args.engine k.0 (ltb-true c.args.engine 32 (sym c.in-Some.ensures.small))
    (c.convict.ensures ∙ ap (λ (e : ℕ). encode (recheck (strike_engine e (decode m)))) c.in-Some.ensures.same)
    (c.throw_out.ensures ∙ ap (λ (e : ℕ). encode_shelf (filter (λ (f : Waiting). not (is_reported_by e f)) (decode_shelf w))) c.in-Some.ensures.same)
