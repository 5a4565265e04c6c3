use Rattle.std.proofs.Common.{◌≡◌, ◌≤◌, ℕ, true, List, arith, rules, refl, length, lt-ltb, le-ltb}
use Rattle.errors.specs.Errors.{error_number, value_or_number}
use Rattle.errors.proofs.Parsed.{parsed, unparsed}
use Rattle.errors.proofs.Writing.{put_written}
use Rattle.track_memory.specs.Track.{Track}
use Rattle.track_memory.specs.Memory.{well_formed, decode}
use Rattle.track_listing.specs.Listing.{listing_of, list_track}
use Rattle.track_listing.proofs.Lengths.{listing-length, length-numbers}
use Rattle.track_listing.proofs.listing.Goals as goal

fits : (m : List ℕ) (s : Track) → (well_formed m ≡ true) × (decode m ≡ s) → length (listing_of s) ≤ 9271
fits m s k = rw (← k.1) (let l = (listing-length m k.0).1 in omega (arith, l, length-numbers.1))

pub returns-in_err-track-clause-listing : goal.returns-in_err-track-clause-listing
unfolding list_track
returns-in_err-track-clause-listing c =
    let k = unparsed (well_formed c.args.memory.now) (decode c.args.memory.now) _ c.parse.ensures _ c.in_err-track.was in
    let e : value_or_number c.from_residual.result ≡ error_number c.in_err-track.field-0.0 = search rules in
    rw (e, k.1, k.0) refl

pub returns-then-out-lt-LISTING_SIZE-clause-listing : goal.returns-then-out-lt-LISTING_SIZE-clause-listing
unfolding list_track
returns-then-out-lt-LISTING_SIZE-clause-listing c =
    let k = parsed (well_formed c.args.memory.now) (decode c.args.memory.now) _ c.parse.ensures _ c.in_ok-track.was in
    rw (k.0, lt-ltb _ _ c.if-out-lt-LISTING_SIZE.true) refl

pub write-requires : goal.write-requires
write-requires c =
    let small = fits c.args.memory.now c.in_ok-track.track (parsed (well_formed c.args.memory.now) (decode c.args.memory.now) _ c.parse.ensures _ c.in_ok-track.was) in
    omega (arith, small, c.if-out-lt-LISTING_SIZE.false)

pub overflow_cast-result : goal.overflow_cast-result
overflow_cast-result c =
    let small = fits c.args.memory.now c.in_ok-track.track (parsed (well_formed c.args.memory.now) (decode c.args.memory.now) _ c.parse.ensures _ c.in_ok-track.was) in
    omega (arith, small, c.write.ensures.next)

pub returns-clause-listing : goal.returns-clause-listing
unfolding list_track
returns-clause-listing c =
    let k = parsed (well_formed c.args.memory.now) (decode c.args.memory.now) _ c.parse.ensures _ c.in_ok-track.was in
    let small = fits c.args.memory.now c.in_ok-track.track k in
    let s = c.if-out-lt-LISTING_SIZE.false in
    rw (k.0, k.1, le-ltb _ _ s) (put_written _ _ _ _ c.write.ensures (omega (arith, small, s)))
