use Rattle.std.proofs.Common.{◌≡◌, ◌*◌, ◌≤◌, refl, sym, ap, ◌∙◌, arith, false, length}
use Rattle.std.specs.Prelude.{List, ℕ, not}
use Rattle.errors.specs.After.{after}
use Rattle.decision.specs.Answer.{is_bad, outcome, decided_arrays, arrays_of, refused_decision}
use Rattle.decision.proofs.Alone.{alone, alone-sorted}
use Rattle.decision.specs.Sorted.{sorted_outcome, sorted_arrays}
use Rattle.decision_items.specs.Layout.{item_size}
use Rattle.decision_bytes.specs.declared.Order.{Order}
use Rattle.decision_bytes.specs.declared.Order.TheVariants.{Given, Identity}
use Rattle.decision_bytes.specs.Orders.{outcome_in, arrays_in}
use Rattle.decision.proofs.Answering.{none-bad}
use Rattle.decision_bytes.specs.Answer.{answer_bytes, hand_out}
use Rattle.decision_bytes.proofs.Parts.{answer-alone}
use Rattle.decision_bytes.proofs.decide_in.Goals as goal

-- what is handed out of bad items, and of others
refused-out : (o : Order) (s found : List ℕ) → false ≡ not (is_bad s) → after 8 found ≡ hand_out (arrays_in o s) found
unfolding hand_out decided_arrays sorted_arrays refused_decision
refused-out Given s found e = rw (none-bad s e) refl
refused-out Identity s found e = rw (none-bad s e) refl

decided-out : (o : Order) (s b found l : List ℕ) → b ≡ s → is_bad b ≡ false → l ≡ answer_bytes (arrays_of (outcome_in o b)) → after 0 l ≡ hand_out (arrays_in o s) found
unfolding hand_out decided_arrays sorted_arrays arrays_of
decided-out Given s b found l same e q = rw (sym same, e, q) refl
decided-out Identity s b found l same e q = rw (sym same, e, q) refl

alone-in : (o : Order) (s : List ℕ) (n : ℕ) → length s ≡ n * item_size → n ≤ 1 → outcome s ≡ outcome_in o s
alone-in Given s n long few = refl
alone-in Identity s n long few = alone-sorted s n long few

pub returns-in_default : goal.returns-in_default
returns-in_default c = refused-out c.args.order _ _ c.in_default.ensures.good

pub returns-then-n-le1 : goal.returns-then-n-le1
returns-then-n-le1 c =
    let items = c.in-Some.items in
    let long : length items.bytes.now ≡ c.len-n.result * item_size = omega (arith, items.whole, c.len-n.ensures) in
    let one : c.len-n.result ≤ 1 = c.if-n-le1.true in
    decided-out c.args.order _ _ _ _ c.in-Some.ensures.same items.good
    (answer-alone _ ∙ ap answer_bytes (alone _ _ long one items.good ∙ ap arrays_of (alone-in c.args.order _ _ long one)))

pub returns-else-n-le1 : goal.returns-else-n-le1
returns-else-n-le1 c = decided-out c.args.order _ _ _ _ c.in-Some.ensures.same c.in-Some.items.good c.put_decided.ensures
