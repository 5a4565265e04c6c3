use Rattle.tables.proofs.Puts.{stays, few-after}
use Rattle.tables.proofs.table.Table.put.Goals as goal

pub invariant_of-self : goal.invariant_of-self
invariant_of-self g c =
    let s = c.args.self.now.sorted in
    record {
      sorted = rw (c.put_place-self.ensures.count, c.put_place-self.ensures.places)
          (stays s c.args.place.now c.told-place (few-after s c.args.place.now c.told-place c.args.found c.requires.found c.requires.room));
    }
