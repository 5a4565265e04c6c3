use Rattle.std.proofs.Common.{◌≡◌, ◌+◌, ◌-◌, sym, ◌∙◌, refl, arith, length, take, drop, append_assoc}
use Rattle.std.proofs.lemmas.List.{drop-drop}
use Rattle.std.proofs.lemmas.List.Edits.{sets-eq}
use Rattle.octets.proofs.runs.put_bytes.Goals as goal

pub returns : goal.returns
returns c =
    let same : c.args.at + length c.args.from.now - c.args.at ≡ length c.args.from.now = omega arith in
    let l = c.args.to.now in
    let t = c.args.from.now in
    record {
      next = refl;
      bytes = rw (c.copy_from_slice.ensures.after, same, drop-drop) (sym (append_assoc (take c.args.at l) t (drop (c.args.at + length t) l)) ∙ sym (sets-eq t l c.args.at c.requires));
    }
