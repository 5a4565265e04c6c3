use Rattle.std.proofs.Common.{◌≡◌, ◌+◌, ◌≤◌, ◌<◌, length, ◌-◌, arith, ap, sym, add-one}
use Rattle.std.proofs.lemmas.List.{drop-drop}
use Rattle.std.proofs.Math.Seq.{take-suc}
use Rattle.text.specs.Texts.{append}
use Rattle.text.proofs.Appending.{append-append, append_copy}
use Rattle.text.proofs.Text.push_bytes.Goals as goal

pub loop-byte-preserved : goal.loop-byte-preserved
loop-byte-preserved c =
    let h : c.loop-byte.byte-index < length c.args.word.now = c.loop-byte-test.true in
    rw (c.push_byte.ensures, c.loop-byte.invariant, append-append)
    (ap (append c.args.self.now) (sym (rw add-one (take-suc c.args.word.now c.loop-byte.byte-index 0 h))))

pub returns-then-word-saturating_sub : goal.returns-then-word-saturating_sub
returns-then-word-saturating_sub c =
    let copied = c.copy_from_slice.ensures.after in
    let same : c.args.self.now.len + length c.args.word.now - c.args.self.now.len ≡ length c.args.word.now = omega arith in
    let fits : c.args.self.now.len + length c.args.word.now ≤ length c.args.self.now.out.now = omega arith in
    rw (copied, same, drop-drop) (append_copy c.args.self.now c.args.word.now fits)
