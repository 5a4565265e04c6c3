use mathlib.Core.Path.{◌≡◌, refl, ◌∙◌}
use mathlib.Core.Bool.{true}
use mathlib.Core.List.{List}
use Prim.Native.Nat.{ℕ, ◌*◌, ◌/◌, ◌%◌, ◌<◌, ◌≤◌}
use lib.ListN.{length}
use borrow.Author.Tests.{eq-eqb, ne_eqb, lt-ltb, le-ltb}
use Rattle.std.specs.List.{list_any}
use Rattle.lists.specs.Ordered.{up_to}
use Rattle.decision_items.specs.Layout.{max_items, item_size}
use Rattle.decision.specs.Answer.{bad_at, is_bad}
use Rattle.decision.proofs.parsed.is_bad.Goals as goal

module _ (s : List ℕ) where
  too_many : max_items * item_size < length s → true ≡ is_bad s
  unfolding is_bad
  too_many h = rw (lt-ltb _ _ h) refl

  not_whole : length s ≤ max_items * item_size → (length s % item_size ≡ 0 → ⊥) → true ≡ is_bad s
  unfolding is_bad
  not_whole h e = rw (le-ltb _ _ h, ne_eqb _ _ e) refl

  each_tested : length s ≤ max_items * item_size → length s % item_size ≡ 0 → list_any (bad_at s) (up_to (length s / item_size)) ≡ is_bad s
  unfolding is_bad
  each_tested h e = rw (le-ltb _ _ h, eq-eqb _ _ e) refl

pub returns-then-s : goal.returns-then-s
returns-then-s c = too_many c.args.s.now c.if-s.true

pub returns-then-s-ne0 : goal.returns-then-s-ne0
returns-then-s-ne0 c = not_whole c.args.s.now c.if-s.false c.if-s-ne0.true

pub returns : goal.returns
returns c = c.any_bad.ensures ∙ each_tested c.args.s.now c.if-s.false c.if-s-ne0.false
