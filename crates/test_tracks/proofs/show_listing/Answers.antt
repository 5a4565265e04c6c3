-- `show_listing` is safe: a listing fits the output.
use Rattle.std.proofs.Common.{◌≡◌, ℕ, rules, arith, length, sym, ap, ◌∙◌, length-take-le}
use Rattle.errors.specs.After.{after}
use Rattle.fix_lines.specs.Text.{board_size}
use Rattle.test_tracks.proofs.Listed.{listed-fits}
use Rattle.test_tracks.proofs.show_listing.Goals as goal

pub slice_bounds-out-end : goal.slice_bounds-out-end
slice_bounds-out-end g c =
    let o = c.output_buffer-out.result in
    let l : board_size ≡ length o = search rules in
    let k = c.listing.auto.out in
    let f = listed-fits o c.listing.new.out c.value_or_number-answer.result (omega (arith, l)) k _ (ap (λ (n : ℕ). after n c.listing.new.out) c.value_or_number-answer.ensures ∙ c.listing.ensures.listing) in
    omega (arith, f, k)

pub slice_bounds-write_all-end : goal.slice_bounds-write_all-end
slice_bounds-write_all-end g c =
    let o = c.output_buffer-out.result in
    let l : board_size ≡ length o = search rules in
    let k = c.listing.auto.out in
    let f = listed-fits o c.listing.new.out c.value_or_number-answer.result (omega (arith, l)) k _ (ap (λ (n : ℕ). after n c.listing.new.out) c.value_or_number-answer.ensures ∙ c.listing.ensures.listing) in
    sym (length-take-le c.value_or_number-answer.result c.listing.new.out (omega (arith, f, k)))
