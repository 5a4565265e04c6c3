use Rattle.std.proofs.Common.{arith, ◌≡◌, ◌*◌, ◌+◌, ◌-◌, List, ℕ, take, drop, ◌++◌, ap, ◌∙◌, length-take-le}
use borrow.Rule.Slice.PartMut.{put_mid}
use Rattle.tables.proofs.Puts.{found-room, replaced, replaced-count, new-room, next-room, inserted, inserted-count}
use Rattle.tables.proofs.table.put_place.Goals as goal

pub overflow_mul-at : goal.overflow_mul-at
overflow_mul-at g c = omega (arith, found-room c.requires.table c.args.place.now c.told-place c.in-Ok.is c.requires.found)

pub overflow_add-at : goal.overflow_add-at
overflow_add-at g c = omega (arith, found-room c.requires.table c.args.place.now c.told-place c.in-Ok.is c.requires.found)

pub slice_bounds-copy_from_slice-end : goal.slice_bounds-copy_from_slice-end
slice_bounds-copy_from_slice-end g c = found-room c.requires.table c.args.place.now c.told-place c.in-Ok.is c.requires.found

pub overflow_mul-i : goal.overflow_mul-i
overflow_mul-i g c =
    omega (arith, new-room c.requires.table c.args.place.now c.told-place c.in-Err.is c.requires.found c.requires.room, next-room c.requires.table c.args.place.now c.told-place c.in-Err.is c.requires.found c.requires.room)

pub insert-requires : goal.insert-requires
insert-requires g c =
    let n = next-room c.requires.table c.args.place.now c.told-place c.in-Err.is c.requires.found c.requires.room in
    omega (arith, length-take-le ((c.args.count + 1) * g.row.WIDTH) c.args.t.now n, new-room c.requires.table c.args.place.now c.told-place c.in-Err.is c.requires.found c.requires.room)

pub returns-in-Ok-clause-places : goal.returns-in-Ok-clause-places
returns-in-Ok-clause-places g c =
    let at = c.in-Ok.i * g.row.WIDTH in
    let e : at + g.row.WIDTH - at ≡ g.row.WIDTH = omega arith in
    ap (λ (y : List ℕ). put_mid at (at + g.row.WIDTH - at) c.args.t.now y) c.copy_from_slice.ensures.after
    ∙ ap (λ (j : ℕ). take at c.args.t.now ++ (c.args.place.now ++ drop j (drop at c.args.t.now))) e
    ∙ replaced c.requires.table c.args.place.now c.told-place c.in-Ok.is c.requires.found

pub returns-in-Ok-clause-count : goal.returns-in-Ok-clause-count
returns-in-Ok-clause-count g c = replaced-count c.requires.table c.args.place.now c.told-place c.in-Ok.is c.requires.found

pub returns-in-Err-clause-places : goal.returns-in-Err-clause-places
returns-in-Err-clause-places g c =
    ap (λ (y : List ℕ). y ++ drop ((c.args.count + 1) * g.row.WIDTH) c.args.t.now) c.insert.ensures
    ∙ inserted c.requires.table c.args.place.now c.told-place c.in-Err.is c.requires.found c.requires.room

pub returns-in-Err-clause-count : goal.returns-in-Err-clause-count
returns-in-Err-clause-count g c = inserted-count c.requires.table c.args.place.now c.told-place c.in-Err.is c.requires.found c.requires.room
