use Rattle.std.proofs.Common.{◌≡◌, ℕ, true, false, ◌&&◌, List, get_or, drop, refl, sym, ap, ◌∙◌, arith}
use lib.Dec.{leb, eqb}
use borrow.Author.Tests.{ltb-true, le-leb, eqb-true, eq-eqb}
use Rattle.std.specs.List.{list_any}
use Rattle.lists.proofs.Bools.{same_test}
use Rattle.lists.proofs.Lists.{any_same}
use Rattle.octets.specs.Masks.{bit}
use Rattle.engines.specs.Limits.{max_engine}
use Rattle.record.specs.Fields.{models}
use Rattle.record.specs.Formed as R
use Rattle.record.specs.Relations.{member}
use Rattle.models.specs.Models.{state_of}
use Rattle.models.specs.Missing.{is_missing}
use Rattle.track_shelf.specs.Layout.{model_at, engine_at, record_at}
use Rattle.track_shelf.specs.Memory.{waiting_in}
use Rattle.track_shelf.specs.Waiting.{may_wait}
use Rattle.track_shelf.proofs.formed.may_wait.Goals as goal
use Rattle.track_shelf.proofs.formed.may_wait.Goals.{After-contains-2}

-- where the record, its engine and that it is free are seen, the models are left
record Seen (c : ℕ) (p : List ℕ) : Type 0 where
  formed : R.well_formed (drop record_at p) ≡ true
  engine : leb (get_or p engine_at 0) max_engine ≡ true
  free : bit c (get_or p engine_at 0) ≡ false

by-models : (c : ℕ) (ss : List (List ℕ)) (p : List ℕ) → Seen c p → may_wait c ss (waiting_in p) ≡ (member (get_or p model_at 0) (models (drop record_at p)) && is_missing (state_of (get_or p model_at 0) ss))
by-models c ss p s = rw (s.formed, s.engine, s.free) refl

seen : (c : After-contains-2) → Seen c.args.convicted c.args.place.now
seen c = record {
  formed = ap R.well_formed (sym (c.in-Some.ensures.same ∙ c.split_at.ensures.back)) ∙ c.in-Some.record.formed;
  engine = let small = ltb-true (get_or c.args.place.now engine_at 0) 32 (sym c.in-Some-new.ensures.small) in le-leb (get_or c.args.place.now engine_at 0) max_engine (omega (arith, small));
  free = ap (bit c.args.convicted) (sym c.in-Some-new.ensures.same) ∙ sym c.contains.ensures ∙ c.if-contains.false;
}

flipped : (a b : ℕ) → eqb a b ≡ eqb b a
flipped a b = same_test (eqb a b) (eqb b a) (λ h. eq-eqb b a (sym (eqb-true a b h))) (λ h. eq-eqb a b (sym (eqb-true b a h)))

is-member : (x : ℕ) (l : List ℕ) → list_any (λ y. eqb y x) l ≡ member x l
unfolding member
is-member x l = any_same (λ y. eqb y x) (eqb x) l (λ y m. flipped y x)

cited : (c : After-contains-2) → c.contains-2.result ≡ member (get_or c.args.place.now model_at 0) (models (drop record_at c.args.place.now))
cited c =
    c.contains-2.ensures.value
    ∙ is-member (get_or c.args.place.now model_at 0) c.models.result.now
    ∙ ap (member (get_or c.args.place.now model_at 0)) (c.models.ensures.value ∙ ap models (c.in-Some.ensures.same ∙ c.split_at.ensures.back))

pub returns-then-contains-2 : goal.returns-then-contains-2
returns-then-contains-2 c = c.lacks.ensures ∙ sym (by-models c.args.convicted c.args.stated.now c.args.place.now (seen (goal.at.returns-then-contains-2 c).After-contains-2) ∙ rw (sym (cited (goal.at.returns-then-contains-2 c).After-contains-2) ∙ c.if-contains-2.true) refl)

pub returns-else-contains-2 : goal.returns-else-contains-2
returns-else-contains-2 c = c.if-contains-2.false ∙ sym (by-models c.args.convicted c.args.stated.now c.args.place.now (seen (goal.at.returns-else-contains-2 c).After-contains-2) ∙ rw (sym (cited (goal.at.returns-else-contains-2 c).After-contains-2) ∙ c.if-contains-2.false) refl)
