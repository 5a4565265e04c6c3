use Rattle.std.proofs.Common.{subst, arith}
use Rattle.board_transmissions.specs.Links.{members_of}
use Rattle.fixes.proofs.Showing.{get_or-default}
use Rattle.board_picture.specs.Lines.{Appends}
use Rattle.board_picture.proofs.Listing.{decided-all, decided-counts, decided-lines, members-length, both, room-then}
use Rattle.board_picture.proofs.deciding.push_decided.Goals as goal

pub push_named-requires-clause-room : goal.push_named-requires-clause-room
push_named-requires-clause-room g c =
    let e = decided-all (members_of c.args.transmission.now) _ c.requires.decided in
    let n = members-length c.args.transmission.now in
    let r = c.requires.room in
    rw c.deref.ensures.0 (omega (arith, e, n, r))

pub push_named-requires-clause-below : goal.push_named-requires-clause-below
push_named-requires-clause-below g c =
    let n = members-length c.args.transmission.now in
    λ k d h. let i = rw c.deref.ensures.0 at h in let b = c.requires.decided.within.ranked k i in rw (c.deref.ensures.0, get_or-default c.args.decision.now.ranked.items k d 0 i) (omega (arith, b, n))

pub push_named-requires-2-clause-room : goal.push_named-requires-2-clause-room
push_named-requires-2-clause-room g c =
    let e = decided-all (members_of c.args.transmission.now) _ c.requires.decided in
    let n = members-length c.args.transmission.now in
    let r = c.requires.room in
    let l = room-then c.args.transmission.now.fixes _ _ c.deref.ensures.0 c.push_named.ensures in
    rw c.deref-2.ensures.0 (omega (arith, e, n, r, l))

pub push_named-requires-2-clause-below : goal.push_named-requires-2-clause-below
push_named-requires-2-clause-below g c =
    let n = members-length c.args.transmission.now in
    λ k d h. let i = rw c.deref-2.ensures.0 at h in let b = c.requires.decided.within.dominated k i in rw (c.deref-2.ensures.0, get_or-default c.args.decision.now.dominated.items k d 0 i) (omega (arith, b, n))

pub push_refused-requires-clause-room : goal.push_refused-requires-clause-room
push_refused-requires-clause-room g c =
    let e = decided-all (members_of c.args.transmission.now) _ c.requires.decided in
    let n = members-length c.args.transmission.now in
    let r = c.requires.room in
    let l = room-then c.args.transmission.now.fixes _ _ c.deref.ensures.0 c.push_named.ensures in
    let m = room-then c.args.transmission.now.fixes _ _ c.deref-2.ensures.0 c.push_named-2.ensures in
    rw c.deref-3.ensures.0 (omega (arith, e, n, r, l, m))

pub returns : goal.returns
returns g c =
    let fs = c.args.transmission.now.fixes in
    record {
      lines = subst (Appends fs c.args.lines.now.items c.push_refused.new.lines.items) (decided-lines (members_of c.args.transmission.now) _ c.requires.decided)
          (both fs (rw c.deref.ensures.0 at c.push_named.ensures) (both fs (rw c.deref-2.ensures.0 at c.push_named-2.ensures) (rw c.deref-3.ensures.0 at c.push_refused.ensures)));
      counts = decided-counts (members_of c.args.transmission.now) _ c.requires.decided _ _ _ c.len.ensures.value c.len-2.ensures.value c.len-3.ensures.value;
    }

pub overflow_cast-result : goal.overflow_cast-result
overflow_cast-result g c =
    let e = decided-all (members_of c.args.transmission.now) _ c.requires.decided in
    let n = members-length c.args.transmission.now in
    omega (arith, e, n, c.requires.room, c.len.ensures.value)

pub overflow_cast-result-2 : goal.overflow_cast-result-2
overflow_cast-result-2 g c =
    let e = decided-all (members_of c.args.transmission.now) _ c.requires.decided in
    let n = members-length c.args.transmission.now in
    omega (arith, e, n, c.requires.room, c.len-2.ensures.value)

pub overflow_cast-result-3 : goal.overflow_cast-result-3
overflow_cast-result-3 g c =
    let e = decided-all (members_of c.args.transmission.now) _ c.requires.decided in
    let n = members-length c.args.transmission.now in
    omega (arith, e, n, c.requires.room, c.len-3.ensures.value)
