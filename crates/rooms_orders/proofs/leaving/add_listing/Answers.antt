use Rattle.std.proofs.Common.{◌≡◌, ◌∙◌, ◌≤◌, ap, subst, List, ℕ, map, length, OnOk, arith}
use Rattle.fix_lines.specs.Text.{board_size}
use Rattle.track_memory.specs.Memory.{decode}
use Rattle.track_listing.specs.Listing.{listing_of}
use Rattle.session_lines.specs.Gives.{call_of}
use Rattle.rooms_orders.specs.Tried.{texts_of, with_text}
use Rattle.rooms_orders.proofs.Written.{listed, formed}
use Rattle.rooms_orders.proofs.leaving.add_listing.Goals as goal

pub slice_bounds-out-end : goal.slice_bounds-out-end
slice_bounds-out-end c =
    let f = formed _ _ (map call_of c.args.calls.now) c.perform_all_on_track.ensures in
    let e = rw (← c.value_or_number-n.ensures) at c.listing.ensures.listing in
    let h : board_size ≤ length c.text_buffer-out.result = omega (arith, c.text_buffer-out.ensures) in
    (listed _ _ _ _ f h e).room

pub slice_bounds-add-end : goal.slice_bounds-add-end
slice_bounds-add-end c =
    let f = formed _ _ (map call_of c.args.calls.now) c.perform_all_on_track.ensures in
    let e = rw (← c.value_or_number-n.ensures) at c.listing.ensures.listing in
    let h : board_size ≤ length c.text_buffer-out.result = omega (arith, c.text_buffer-out.ensures) in
    (listed _ _ _ _ f h e).size

pub returns : goal.returns
returns c =
    let f = formed _ _ (map call_of c.args.calls.now) c.perform_all_on_track.ensures in
    let e = rw (← c.value_or_number-n.ensures) at c.listing.ensures.listing in
    let h : board_size ≤ length c.text_buffer-out.result = omega (arith, c.text_buffer-out.ensures) in
    let text = (listed _ _ _ _ f h e).text ∙ ap (λ (p : List ℕ × List ℕ). listing_of (decode p.0)) c.perform_all_on_track.ensures in
    subst (λ (t : List ℕ). OnOk c.add.result (texts_of c.add.new.texts ≡ with_text t (texts_of c.args.listings.now))) text c.add.ensures
