use Rattle.std.proofs.Common.{◌≡◌, ◌+◌, ◌<◌, ◌≤◌, ℕ, suc, Bool, true, ◌&&◌, List, [], ◌∷◌, length, get_or, take, drop, refl, sym, ◌∙◌, arith, add-one, drop-cons, drop_of_length-le}
use Rattle.lists.proofs.Bools.{and_left, and_right}
use Rattle.std.specs.List.{list_all}
use Rattle.octets.specs.Order.{is_before}
use Rattle.tables.specs.Places.{ascending, ascending_from}
use Rattle.record.specs.Layout.{record_size}
use Rattle.signed_records.specs.Signed.{place_formed}
use Rattle.signed_records.proofs.formed.ascending_formed.Goals as goal

none : (c : ℕ) (ps : List (List ℕ)) → length ps ≡ 0 → true ≡ (ascending record_size ps && list_all (place_formed c) ps)
unfolding ascending
none c [] e = refl
none c (p ∷ ps) e = absurd (omega arith)

pub returns-in_default : goal.returns-in_default
returns-in_default c = none c.args.convicted c.args.places.now c.in_default.ensures.cases

-- the first place, and one turn: what is left to be tested
begin : (c : ℕ) (p : List ℕ) (ps all : List (List ℕ)) (b : Bool) → all ≡ p ∷ ps → b ≡ place_formed c p
    → (ascending record_size all && list_all (place_formed c) all) ≡ (b && (ascending_from record_size (take record_size p) ps && list_all (place_formed c) ps))
unfolding ascending
begin c p ps all b e f = rw (e, f) (mixed (ascending_from record_size (take record_size p) ps) (place_formed c p) (list_all (place_formed c) ps))
  where
    mixed : (x y z : Bool) → (x && (y && z)) ≡ (y && (x && z))
    mixed x y z = grind arith

turn : (c : ℕ) (p : List ℕ) (ps : List (List ℕ)) (i : ℕ) (b : Bool) → i < length ps → b ≡ (is_before (take record_size p) (take record_size (get_or ps i [])) && place_formed c (get_or ps i []))
    → (ascending_from record_size (take record_size p) (drop i ps) && list_all (place_formed c) (drop i ps))
    ≡ (b && (ascending_from record_size (take record_size (get_or ps i [])) (drop (i + 1) ps) && list_all (place_formed c) (drop (i + 1) ps)))
unfolding ascending_from
turn c p ps i b h f =
    rw (f, add-one i, drop-cons ps i [] h) (mixed _ (ascending_from record_size (take record_size (get_or ps i [])) (drop (suc i) ps)) _ (list_all (place_formed c) (drop (suc i) ps)))
  where
    mixed : (x y z w : Bool) → ((x && y) && (z && w)) ≡ ((x && z) && (y && w))
    mixed x y z w = grind arith

past : (c : ℕ) (p : List ℕ) (ps : List (List ℕ)) (i : ℕ) → length ps ≤ i → (ascending_from record_size (take record_size p) (drop i ps) && list_all (place_formed c) (drop i ps)) ≡ true
unfolding ascending_from
past c p ps i h = rw (drop_of_length-le ps h) refl

pub returns-then-not-place_formed : goal.returns-then-not-place_formed
returns-then-not-place_formed c =
    let e = begin c.args.convicted c.in-Some.first.now c.in-Some.rest.now c.args.places.now c.place_formed.result c.in-Some.ensures.cases.0 c.place_formed.ensures in
    sym (rw c.if-not-place_formed.true at e)

pub loop-place-init : goal.loop-place-init
loop-place-init c =
    let e = begin c.args.convicted c.in-Some.first.now c.in-Some.rest.now c.args.places.now c.place_formed.result c.in-Some.ensures.cases.0 c.place_formed.ensures in
    (rw c.if-not-place_formed.false at e, and_left _ _ (sym c.place_formed.ensures ∙ c.if-not-place_formed.false))

pub returns-then-not-place_follows : goal.returns-then-not-place_follows
returns-then-not-place_follows c =
    let l = c.loop-place in
    let e = l.invariant.0 ∙ turn c.args.convicted l.last.now c.in-Some.rest.now l.place-index c.place_follows.result c.loop-place-test.true c.place_follows.ensures in
    sym (rw c.if-not-place_follows.true at e)

pub loop-place-preserved : goal.loop-place-preserved
loop-place-preserved c =
    let l = c.loop-place in
    let e = l.invariant.0 ∙ turn c.args.convicted l.last.now c.in-Some.rest.now l.place-index c.place_follows.result c.loop-place-test.true c.place_follows.ensures in
    (rw c.if-not-place_follows.false at e, and_left _ _ (and_right _ _ (sym c.place_follows.ensures ∙ c.if-not-place_follows.false)))

pub returns : goal.returns
returns c = let l = c.loop-place in sym (l.invariant.0 ∙ past c.args.convicted l.last.now c.in-Some.rest.now l.place-index c.loop-place-test.false)
