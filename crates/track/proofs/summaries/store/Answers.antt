use Rattle.std.proofs.Common.{◌≡◌, List, length, sym, ap, ◌∙◌, rules}
use Rattle.octets.proofs.Numbers.{all-bytes}
use Rattle.models.specs.Summary.{summary_size}
use Rattle.errors.specs.Errors.{error_number, answer_number}
use Rattle.errors.proofs.Numbered.{never-zero}
use Rattle.track_shelf.specs.Waiting.{Waiting}
use Rattle.track_shelf.specs.Memory.{decode_shelf}
use Rattle.track_shelf.proofs.Boths.{is-track, shelf-sound}
use Rattle.track.proofs.Trying.{store-refused, stored, arriving, arrived, empty-arrives}
use Rattle.track.proofs.summaries.store.Goals as goal

pub hold-requires-clause-track : goal.hold-requires-clause-track
hold-requires-clause-track c = is-track c.args.memory.now c.args.shelf.now c.requires.both

pub returns-in_err-hold : goal.returns-in_err-hold
returns-in_err-hold c =
    let m = c.args.memory.now in
    let x = c.in_err-hold.field-0.0 in
    let f : answer_number c.from_residual.result ≡ error_number x = search rules in
    rw f (store-refused m c.args.shelf.now (all-bytes m (search rules)) c.requires.both c.args.model c.args.p.now (error_number x) c.hold.new.memory (never-zero x) c.in_err-hold.ensures)

pub arrive-requires : goal.arrive-requires
arrive-requires c =
    let m = c.args.memory.now in
    let w = c.args.shelf.now in
    let y = all-bytes m (search rules) in
    let wide : length c.args.p.now ≡ summary_size = search rules in
    arriving m w y c.requires.both c.args.model c.args.p.now wide c.requires.formed c.requires.model c.hold.new.memory
    (stored m w y c.requires.both c.args.model c.args.p.now wide c.requires.formed c.requires.model c.hold.new.memory c.in_ok-hold.ensures)

pub returns : goal.returns
returns c =
    let m = c.args.memory.now in
    let w = c.args.shelf.now in
    let y = all-bytes m (search rules) in
    let wide : length c.args.p.now ≡ summary_size = search rules in
    arrived m w y c.requires.both c.args.model c.args.p.now wide c.requires.formed c.requires.model c.hold.new.memory
    (stored m w y c.requires.both c.args.model c.args.p.now wide c.requires.formed c.requires.model c.hold.new.memory c.in_ok-hold.ensures) _ c.arrive.ensures

pub of-requires : goal.of-requires
of-requires c = shelf-sound c.args.memory.now c.args.shelf.now c.requires.both

pub returns-then-len-eq0 : goal.returns-then-len-eq0
returns-then-len-eq0 c =
    let m = c.args.memory.now in
    let w = c.args.shelf.now in
    let x = c.hold.new.memory in
    let y = all-bytes m (search rules) in
    let wide : length c.args.p.now ≡ summary_size = search rules in
    let k = stored m w y c.requires.both c.args.model c.args.p.now wide c.requires.formed c.requires.model x c.in_ok-hold.ensures in
    let a = arriving m w y c.requires.both c.args.model c.args.p.now wide c.requires.formed c.requires.model x k in
    let none : length (decode_shelf w) ≡ 0 = sym (c.len.ensures.count ∙ ap (λ (l : List Waiting). length l) c.of.ensures) ∙ c.if-len-eq0.true in
    arrived m w y c.requires.both c.args.model c.args.p.now wide c.requires.formed c.requires.model x k _ (empty-arrives c.args.model x w a (all-bytes x (search rules)) none)
