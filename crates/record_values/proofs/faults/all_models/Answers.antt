use Rattle.std.proofs.Common.{◌≡◌, ℕ, List, [], ◌∷◌, ◌&&◌, refl, ap, ◌∙◌, nat_le, rules, tests}
use Rattle.std.proofs.lemmas.Iterator.{YieldsList-from_slice}
use Rattle.std.proofs.lemmas.Iterator.Search.{all_from_yields_List}
use Rattle.std.specs.List.{list_all}
use Rattle.record.specs.Layout.{max_model}
use Rattle.record.specs.Formed.{all_up_to}
use Rattle.record_values.proofs.faults.all_models.Goals as goal

as_all : (s : List ℕ) → list_all (λ m. nat_le m max_model) s ≡ all_up_to max_model s
unfolding all_up_to
as_all [] = refl
as_all (x ∷ s) = ap (λ b. nat_le x max_model && b) (as_all s)

pub returns : goal.returns
returns c =
    let xs = c.args.s.now in
    all_from_yields_List (λ m. nat_le m max_model) _ _ _ c.all.ensures.ran (YieldsList-from_slice xs cc) (λ x b q k. search (rules, tests)) ∙ as_all xs
