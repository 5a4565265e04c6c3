use Rattle.std.proofs.Common.{◌∙◌, sym}
use Rattle.octets.specs.Ascii.{ascii}
use Rattle.text.proofs.Appending.{append-nil}
use Rattle.session_text.proofs.found.push_return.Goals as goal

pub returns-then-ends_in_return : goal.returns-then-ends_in_return
unfolding ascii
returns-then-ends_in_return c = let e = sym c.ends_in_return.ensures ∙ c.if-ends_in_return.true in rw e c.push_str.ensures

pub returns-else-ends_in_return : goal.returns-else-ends_in_return
returns-else-ends_in_return c = let e = sym c.ends_in_return.ensures ∙ c.if-ends_in_return.false in rw e (sym (append-nil c.args.out.now))
