use Rattle.std.proofs.Common.{rules, arith, ◌≡◌, sym, ◌∙◌, List, ℕ}
use Rattle.octets.specs.Bytes.{Bytes}
use Rattle.octets.proofs.Numbers.{all-bytes}
use Rattle.track_memory.proofs.Opened.{opened}
use Rattle.track_memory.proofs.Pairs.{Split, count-is, table-is, sorted, left, done}
use Rattle.track_memory.proofs.summaries.put_pair.Goals as goal

pub split_at_mut-head-requires : goal.split_at_mut-head-requires
split_at_mut-head-requires c = omega (arith, (opened c.args.memory.now c.requires).size)

pub split_at_mut-places-requires : goal.split_at_mut-places-requires
split_at_mut-places-requires c = omega (arith, (opened c.args.memory.now c.requires).size, c.split_at_mut-head.ensures.back_len)

pub of-pairs-requires : goal.of-pairs-requires
of-pairs-requires c =
    let m = c.args.memory.now in
    let a = c.split_at_mut-head.ensures in
    let b = c.split_at_mut-places.ensures in
    let q : Split m _ _ _ _ = record { head = a.front; rest = a.back; summaries = b.front; behind = b.back } in
    (omega arith, sorted m (opened m c.requires) _ _ (c.u16_at.ensures ∙ count-is q) (table-is q))

pub put-requires : goal.put-requires
put-requires c = (omega arith, (omega arith, (c.search-found.ensures, sym c.is_full.ensures ∙ c.if-is_full.false)))

pub returns-then-is_full : goal.returns-then-is_full
returns-then-is_full c =
    let m = c.args.memory.now in
    let y : Bytes m = all-bytes m (search rules) in
    let a = c.split_at_mut-head.ensures in
    let b = c.split_at_mut-places.ensures in
    let q : Split m _ _ _ _ = record { head = a.front; rest = a.back; summaries = b.front; behind = b.back } in
    let x = c.of-pairs in
    let as-it-was = left c.args.p.now c.told-p m (opened m c.requires) y q x.result.count (x.ensures.count ∙ c.u16_at.ensures ∙ count-is q) x.result.places.now (x.ensures.places ∙ table-is q)
    c.search-found.result c.search-found.ensures (sym c.is_full.ensures ∙ c.if-is_full.true) in
    let same = λ (s : List ℕ). λ (e : s ≡ x.result.places.now). as-it-was s (e ∙ x.ensures.places) in
    same _ (search rules)

pub returns : goal.returns
returns c =
    let m = c.args.memory.now in
    let y : Bytes m = all-bytes m (search rules) in
    let a = c.split_at_mut-head.ensures in
    let b = c.split_at_mut-places.ensures in
    let q : Split m _ _ _ _ = record { head = a.front; rest = a.back; summaries = b.front; behind = b.back } in
    let x = c.of-pairs in
    let with-it = done c.args.p.now c.told-p m (opened m c.requires) y q x.result.count (x.ensures.count ∙ c.u16_at.ensures ∙ count-is q) x.result.places.now (x.ensures.places ∙ table-is q)
    c.search-found.result c.search-found.ensures (sym c.is_full.ensures ∙ c.if-is_full.false) in
    let new = λ (s : List ℕ). λ (e : s ≡ c.put.new.self.places.now). with-it _ _ s (c.count.ensures ∙ c.put.ensures.count) c.put_u16.ensures (e ∙ c.put.ensures.places) in
    new _ (search rules)
