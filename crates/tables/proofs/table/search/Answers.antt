use Rattle.std.proofs.Common.{rules, ◌≡◌, arith}
use Rattle.std.proofs.lemmas.Grind.{common_steps}
use Rattle.std.proofs.lemmas.List.Sorted.{IsPartitionPoint-from_clause}
use Rattle.tables.specs.Positions.{rank}
use Rattle.tables.proofs.Searches.{before, parted, position}
use Rattle.tables.proofs.Keys.{holds-at-rank}
use Rattle.tables.proofs.table.search.Goals.{else-i-places-via-then-i-places+else-equal, else-i-places-via-else-i-places}
use Rattle.tables.proofs.table.search.Goals as goal

pub returns-then-equal : goal.returns-then-equal
returns-then-equal g c =
    let k = g.row.KEY in
    let key = c.args.key.now in
    let ps = c.args.places.now in
    let a = c.requires.sorted in
    let i = c.partition_point-i.result in
    let e : rank k key ps ≡ i = position k key ps a i c.partition_point-i.ensures.bound (IsPartitionPoint-from_clause (before k key ps a) ps i c.partition_point-i.ensures.partitioned (parted k key ps a) (λ a r q k. search rules)) in
    grind (arith, common_steps, holds-at-rank k key ps)

pub returns : goal.returns
returns g c =
    let k = g.row.KEY in
    let key = c.args.key.now in
    let ps = c.args.places.now in
    let a = c.requires.sorted in
    let i = c.partition_point-i.result in
    let e : rank k key ps ≡ i = position k key ps a i c.partition_point-i.ensures.bound (IsPartitionPoint-from_clause (before k key ps a) ps i c.partition_point-i.ensures.partitioned (parted k key ps a) (λ a r q k. search rules)) in
    elim c.else-i-places.branch [
      | else-i-places-via-then-i-places+else-equal w ↦ grind (arith, common_steps, holds-at-rank k key ps)
      | else-i-places-via-else-i-places w ↦ grind (arith, common_steps, holds-at-rank k key ps)
    ]
