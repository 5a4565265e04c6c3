use Rattle.std.proofs.Common.{◌≤◌, List, ap, arith, length, le-leb, refl}
use Rattle.track_shelf.specs.Layout.{max_waiting}
use Rattle.track_shelf.specs.Waiting.{Waiting}
use Rattle.track_shelf.specs.Memory.{decode_shelf}
use Rattle.track_shelf.proofs.Shelves.{decode-length}
use Rattle.track.proofs.reports.wait.Goals as goal

pub push-requires-clause-room : goal.push-requires-clause-room
push-requires-clause-room c =
    let n = decode-length c.args.shelf.now in
    let k = ap (λ (l : List Waiting). length l) c.of.ensures in
    omega (arith, n, k, c.len.ensures.count, c.if-len-ge-MAX_WAITING.false)

pub returns-then-len-ge-MAX_WAITING-clause-answer : goal.returns-then-len-ge-MAX_WAITING-clause-answer
returns-then-len-ge-MAX_WAITING-clause-answer c =
    let k = ap (λ (l : List Waiting). length l) c.of.ensures in
    let full : max_waiting ≤ length (decode_shelf c.args.shelf.now) = omega (arith, k, c.len.ensures.count, c.if-len-ge-MAX_WAITING.true) in
    rw (le-leb max_waiting (length (decode_shelf c.args.shelf.now)) full) refl

pub returns-then-len-ge-MAX_WAITING-clause-left : goal.returns-then-len-ge-MAX_WAITING-clause-left
returns-then-len-ge-MAX_WAITING-clause-left c =
    let k = ap (λ (l : List Waiting). length l) c.of.ensures in
    let full : max_waiting ≤ length (decode_shelf c.args.shelf.now) = omega (arith, k, c.len.ensures.count, c.if-len-ge-MAX_WAITING.true) in
    rw (le-leb max_waiting (length (decode_shelf c.args.shelf.now)) full) refl
