-- What the code answers is the whole answer, and its lists are those of what is decided.
use Rattle.std.proofs.Common.{◌≡◌, ℕ, ◌*◌, ◌≤◌, false, refl, sym, ap, ◌∙◌, length}
use Rattle.std.specs.Prelude.{Some, not, true}
use mathlib.Core.List.{List, [], map}
use Rattle.lists.specs.Ordered.{up_to}
use Rattle.lists.proofs.Bools.{not-false-t}
use Rattle.decision_items.specs.Layout.{item_size}
use Rattle.decision.specs.declared.Decision.{Decision}
use Rattle.decision.specs.Answer.{is_bad, outcome, decided_arrays, arrays_of, refusal}
use Rattle.decision.specs.Answered.{Says, answered}
use Rattle.decision.proofs.Alone.{ranked-alone}

pub answers : {N : ℕ} (s : List ℕ) (d : Decision N) → is_bad s ≡ false → Says d (outcome s) → answered (Some d) ≡ decided_arrays s
unfolding decided_arrays arrays_of
answers s d e w = rw (e, w.ranked, w.dominated, w.refusals) refl

pub says-alone : {N : ℕ} (s : List ℕ) (n : ℕ) (d : Decision N) → length s ≡ n * item_size → n ≤ 1 → is_bad s ≡ false
    → d.ranked.items ≡ up_to n → d.dominated.items ≡ [] → d.refusals.items ≡ [] → Says d (outcome s)
says-alone s n d long few e p q r =
    let a = ranked-alone s n long few e in
    record { ranked = p ∙ sym a.0; dominated = q ∙ sym a.1; refusals = r ∙ sym (ap (map refusal) a.2) }

-- bytes of which `Items::parse` makes nothing
pub none-bad : (s : List ℕ) → false ≡ not (is_bad s) → is_bad s ≡ true
none-bad s e = not-false-t (is_bad s) (sym e)
