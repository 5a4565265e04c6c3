use Rattle.std.proofs.Common.{◌≡◌, sym, arith, length, ◌==◌, true, false, None}
use Rattle.octets.specs.Ascii.{ascii}
use Rattle.session_lines.specs.Numbers.{split_once}
use Rattle.session_text.specs.Found.{found_text}
use Rattle.session_text.proofs.found.push_found.Goals as goal

pub returns-then-is_empty : goal.returns-then-is_empty
unfolding found_text ascii
returns-then-is_empty c = let e : (length c.args.bytes.now == 0) ≡ true = grind arith in rw e c.push_str.ensures

pub returns-in-None : goal.returns-in-None
unfolding found_text
returns-in-None c =
    let e : (length c.args.bytes.now == 0) ≡ false = grind arith in
    let p : split_once 10 c.args.bytes.now ≡ None = sym c.in-None.ensures.value in
    rw (e, p) c.push_without_feed.ensures

pub returns-in-Some : goal.returns-in-Some
unfolding found_text
returns-in-Some c =
    let e : (length c.args.bytes.now == 0) ≡ false = grind arith in
    rw (e, ← c.in-Some.ensures.value) c.push_line.ensures
