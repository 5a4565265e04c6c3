use Rattle.std.proofs.Common.{rules, ◌≡◌, ◌∙◌, ap, List, ℕ, [], ◌∷◌, ◌++◌}
use Rattle.std.specs.Prelude.{OnOk, map}
use Rattle.std.proofs.lemmas.Result.{on_ok_weaker}
use mathlib.Core.List.{map-map}
use Rattle.octets.specs.Ascii.{ascii}
use Rattle.text.specs.Numbers.{decimal}
use Rattle.decision.specs.Answer.{refusal}
use Rattle.decision.specs.declared.Refusal.{Refusal}
use Rattle.pictures_text.specs.Lines.{line_of, numbers}
use Rattle.pictures_text.proofs.Lines.{then-text, list-behind}
use Rattle.pictures_text.proofs.push_decided.Goals as goal

pub returns : goal.returns
unfolding line_of ascii
returns c o w =
    let place : Refusal → ℕ = λ x. x.refused in
    let refused = c.in_ok-refused.ensures ∙ ap (map place) (c.deref-3.ensures.0 ∙ w.refusals) ∙ map-map place refusal o.refused in
    let end : OnOk c.extend_from_slice-2.result (c.extend_from_slice-2.new.self.items ≡ c.push_field-3.new.out.items ++ (10 ∷ [])) = search rules in
    let f : List ℕ = ascii " refused=" ++ numbers (map (λ x. x.item) o.refused) in
    let d : List ℕ = ascii " dominated=" ++ numbers o.dominated in
    let r : List ℕ = ascii " ranked=" ++ numbers o.ranked in
    let n : List ℕ = ascii "case=" ++ decimal c.args.number in
    let l : List ℕ = ascii "\n" in
    on_ok_weaker c.extend_from_slice-2.result
    (λ q.
    then-text _ _ _ n (r ++ (d ++ (f ++ l))) (then-text _ _ _ (ascii "case=") (decimal c.args.number) c.in_ok-extend_from_slice.ensures.items c.in_ok-push_number.ensures)
    (then-text _ _ _ r (d ++ (f ++ l)) (list-behind _ _ (ascii " ranked=") _ _ c.in_ok-push_field.ensures (c.deref.ensures.0 ∙ w.ranked))
    (then-text _ _ _ d (f ++ l) (list-behind _ _ (ascii " dominated=") _ _ c.in_ok-push_field-2.ensures (c.deref-2.ensures.0 ∙ w.dominated))
    (then-text _ _ _ f l (list-behind _ _ (ascii " refused=") _ _ c.in_ok-push_field-3.ensures (c.deref-4.ensures.0 ∙ refused)) q))))
    end
