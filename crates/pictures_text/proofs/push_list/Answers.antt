use Rattle.std.proofs.Common.{rules, sym, ap, ◌∙◌, ◌++◌, arith, append-nil}
use Rattle.std.proofs.lemmas.List.{take_all}
use Rattle.std.specs.Prelude.{flat_map}
use Rattle.octets.specs.Ascii.{ascii}
use Rattle.pictures_text.specs.Lines.{another}
use Rattle.pictures_text.proofs.Lines.{no-numbers, some-numbers, turn, then-text}
use Rattle.pictures_text.proofs.push_list.Goals as goal

pub returns-in_default : goal.returns-in_default
unfolding ascii
returns-in_default c = rw (no-numbers c.args.places.now c.in_default.len_below) (search rules)

pub loop-place-init : goal.loop-place-init
loop-place-init c = sym (append-nil _)

pub loop-place-preserved : goal.loop-place-preserved
loop-place-preserved c = turn another _ c.loop-place.place-index 0 _ _ _ c.loop-place-test.true c.loop-place.invariant c.in_ok-push_another.ensures

pub returns : goal.returns
returns c =
    let end = c.loop-place-test.false in
    then-text _ _ _ _ _ c.in_ok-push_place.ensures
    (c.loop-place.invariant ∙ ap (λ l. c.push_place.new.out.items ++ flat_map another l) (take_all c.loop-place.place-index _ (omega (arith, end))))
    ∙ ap (λ t. c.args.out.now.items ++ t) (sym (some-numbers c.args.places.now c.in-len1-up.len_at_least))
