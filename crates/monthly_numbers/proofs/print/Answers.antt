use Rattle.std.proofs.Common.{ℕ, ◌≡◌, true, false, not, sym, ◌∙◌, cond, refl, List, Result, Ok, Err}
use Rattle.lists.proofs.Bools.{by}
use Rattle.octets.specs.Ascii.{ascii}
use Rattle.octets.proofs.Puts.{put_as}
use Rattle.errors.specs.declared.Error.{Error}
use Rattle.errors.specs.declared.Error.TheVariants.{Malformed}
use Rattle.register.specs.Register.{Register}
use Rattle.register.specs.Memory.{well_formed, decode}
use Rattle.monthly_numbers.specs.Text.{printed, refusal}
use Rattle.monthly_numbers.proofs.print.Goals as goal

module _ (m : List ℕ) (x : Error) (answer : Result Register Error) (is : answer ≡ cond (well_formed m) (Ok (decode m)) (Err Malformed)) (e : answer ≡ Err x) where
  none : well_formed m ≡ false
  none = by (well_formed m) (λ t. let z = rw t at (sym is ∙ e) in cc) (λ f. f)

pub returns-in-Err-clause-text : goal.returns-in-Err-clause-text
unfolding ascii
returns-in-Err-clause-text c =
    let m = c.args.memory.now in
    let said : refusal ≡ printed m = rw (none m _ _ c.parse.ensures c.in-Err.is) refl in
    put_as said c.put_bytes.ensures

pub returns-in-Err-clause-refused : goal.returns-in-Err-clause-refused
returns-in-Err-clause-refused c =
    let refused : true ≡ not (well_formed c.args.memory.now) = rw (none c.args.memory.now _ _ c.parse.ensures c.in-Err.is) refl in
    refused
