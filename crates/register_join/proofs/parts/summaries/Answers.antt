use Rattle.std.proofs.Common.{ℕ, ◌≡◌, ap, ◌∙◌, arith}
use Rattle.tables.specs.Places.{places}
use Rattle.tables.proofs.Tables.{wide_at}
use Rattle.models.specs.Summary.{summary_size}
use Rattle.register.specs.Memory.{decode, summaries_in, summary_table}
use Rattle.register.proofs.Opened.{opened, summaries-ascend, summaries-length, summaries-wide}
use Rattle.register.proofs.Lent.{summaries-lie}
use Rattle.register_join.proofs.parts.summaries.Goals as goal
use Rattle.register_join.proofs.parts.summaries.Goals.{After-places_of}

told : (c : After-places_of) → c.places_of.result.now ≡ summaries_in c.args.m.now
told c = c.places_of.ensures ∙ ap (λ (n : ℕ). places summary_size n (summary_table c.args.m.now)) c.u16_at.ensures

pub places_of-requires : goal.places_of-requires
places_of-requires c = (omega arith, (omega arith, rw c.u16_at.ensures (summaries-lie c.args.m.now c.requires)))

pub returns-clause-places : goal.returns-clause-places
unfolding decode
returns-clause-places c = told (goal.at.returns-clause-places c).After-places_of

pub returns-clause-ascend : goal.returns-clause-ascend
returns-clause-ascend c = rw (told (goal.at.returns-clause-ascend c).After-places_of) (summaries-ascend c.args.m.now (opened c.args.m.now c.requires))

pub returns-clause-few : goal.returns-clause-few
returns-clause-few c = let o = opened c.args.m.now c.requires in rw (told (goal.at.returns-clause-few c).After-places_of, summaries-length c.args.m.now o) o.few_summaries

pub returns-clause-wide : goal.returns-clause-wide
returns-clause-wide c =
    let m = c.args.m.now in
    rw (told (goal.at.returns-clause-wide c).After-places_of) (λ i h. wide_at summary_size i (summaries_in m) (summaries-wide m (opened m c.requires)) h)
