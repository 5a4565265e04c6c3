use Rattle.std.proofs.Common.{◌≡◌, ap₂, ◌∙◌, arith}
use Rattle.tables.specs.Places.{places}
use Rattle.tables.proofs.Tables.{wide_at}
use Rattle.signed_records.specs.Signed.{place_size}
use Rattle.register.specs.Memory.{decode, records_in}
use Rattle.register.proofs.Opened.{opened, records-ascend, records-length, records-wide}
use Rattle.register.proofs.Lent.{records-lie}
use Rattle.register_join.proofs.parts.records.Goals as goal
use Rattle.register_join.proofs.parts.records.Goals.{After-places_of}

told : (c : After-places_of) → c.places_of.result.now ≡ records_in c.args.m.now
told c = c.places_of.ensures ∙ ap₂ (places place_size) c.u16_at.ensures c.split_at.ensures.back

pub places_of-requires : goal.places_of-requires
places_of-requires c = (omega arith, (omega arith, rw (c.u16_at.ensures, c.split_at.ensures.back) (records-lie c.args.m.now c.requires)))

pub returns-clause-places : goal.returns-clause-places
unfolding decode
returns-clause-places c = told (goal.at.returns-clause-places c).After-places_of

pub returns-clause-ascend : goal.returns-clause-ascend
returns-clause-ascend c = rw (told (goal.at.returns-clause-ascend c).After-places_of) (records-ascend c.args.m.now (opened c.args.m.now c.requires))

pub returns-clause-few : goal.returns-clause-few
returns-clause-few c = let o = opened c.args.m.now c.requires in rw (told (goal.at.returns-clause-few c).After-places_of, records-length c.args.m.now o) o.few_records

pub returns-clause-wide : goal.returns-clause-wide
returns-clause-wide c =
    let m = c.args.m.now in
    rw (told (goal.at.returns-clause-wide c).After-places_of) (λ i h. wide_at place_size i (records_in m) (records-wide m (opened m c.requires)) h)
