use Rattle.std.proofs.Common.{rules, ◌≡◌, ◌≤◌, subst, sym, length}
use Rattle.pictures_text.specs.Items.{tags_of}
use Rattle.pictures_text.proofs.Items.{tags-few}
use Rattle.pictures_text.proofs.tags_of.Goals as goal

pub returns-clause-few : goal.returns-clause-few
unfolding tags_of
returns-clause-few c =
    let e : c.add_tag-3.new.tags.items ≡ tags_of c.args.mask = search rules in
    subst (λ l. length l ≤ 3) (sym e) (tags-few c.args.mask)
