use Rattle.std.proofs.Common.{◌≡◌, ◌∙◌, sym, refl, Err}
use Rattle.console.specs.declared.arguments.Word.TheVariants as word
use Rattle.rooms_arguments.specs.declared.Instead.TheVariants as instead
use Rattle.rooms_arguments.specs.Words.{word_of}
use Rattle.rooms_arguments.specs.Calling as C
use Rattle.rooms_arguments.proofs.take.Goals as goal

pub returns-in-Version : goal.returns-in-Version
returns-in-Version c =
    let is : word_of c.args.word.now ≡ word.Version = sym c.word_of.ensures ∙ c.in-Version.is in
    let asked : C.take c.args.taken c.args.index c.args.word.now ≡ Err instead.Version = rw (c.if-taken.false, is) refl in
    sym asked
