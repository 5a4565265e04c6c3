use Rattle.std.proofs.Common.{◌≡◌, ◌∙◌, ◌+◌, ap, sym, refl, length, Bool, map, if◌then◌else◌, List, arith}
use Rattle.std.proofs.lemmas.List.{length-map}
use mathlib.Core.List.Permᴰ
use Rattle.rand_core.specs.Stream.{Stream}
use Rattle.rand.specs.Shuffle.{shuffled}
use Rattle.session_lines.specs.declared.lines.Call.{Call}
use Rattle.session_lines.specs.Gives.{call_of}
use Rattle.rooms_orders.specs.Tried.{text_of, texts_of, drawn_from}
use Rattle.rooms_orders.proofs.Rearranged.{rearranged, shuffled-map}
use Rattle.rooms_orders.proofs.Turns.{start, turn, one, tried}
use Rattle.rooms_orders.proofs.trying.try_orders.Goals as goal

pub loop-order-init : goal.loop-order-init
loop-order-init c =
    rw c.seed_from_u64-random.ensures.same
    (start (map call_of c.args.calls.now) (drawn_from c.args.seed) _ _ (ap (map text_of) c.new-boards.ensures.items) (ap (map text_of) c.new-listings.ensures.items))

pub loop-order-preserved : goal.loop-order-preserved
loop-order-preserved c =
    let full = c.loop-order.full in
    let stream = drawn_from c.loop-order.random in
    let drawn : (map call_of c.shuffle.new.self, drawn_from c.shuffle.new.rng) ≡ shuffled (map call_of c.loop-order.calls) 0 stream =
    ap (λ (p : List Call × Stream). (map call_of p.0, p.1)) c.shuffle.ensures.drawn ∙ sym (shuffled-map call_of c.loop-order.calls 0 stream) in
    turn _ _ _ _ _ _ full c.loop-order.invariant (map call_of c.shuffle.new.self) _ drawn (Permᴰ.map call_of (rearranged c.shuffle.ensures.permutation))
    _ _ c.in_ok-none_full.ensures.added c.in_ok-add_listing.ensures c.with_order-full.result
    (c.with_order-full.ensures ∙ ap (λ (b : Bool). full + (if b then 0 else 1)) c.in_ok-none_full.ensures.none_full)

pub returns-clause-tried : goal.returns-clause-tried
returns-clause-tried c =
    let boards : length (texts_of c.loop-order.boards) ≡ length c.loop-order.boards.items = simp length-map refl in
    let listings : length (texts_of c.loop-order.listings) ≡ length c.loop-order.listings.items = simp length-map refl in
    let all : c.loop-order._order ≡ c.args.count = omega (arith, c.loop-order-test.false) in
    tried _ _ _ _ _ _ _ _ c.loop-order.invariant all _ (c.len.ensures ∙ c.loop-order.boards.ok.0 ∙ sym boards)
    (c.len-2.ensures ∙ c.loop-order.listings.ok.0 ∙ sym listings) refl

pub returns-clause-one_board : goal.returns-clause-one_board
returns-clause-one_board c = λ h f.
    let long : length (texts_of c.loop-order.boards) ≡ length c.loop-order.boards.items = simp length-map refl in
    c.len.ensures ∙ c.loop-order.boards.ok.0 ∙ sym long ∙ one _ _ _ _ _ _ _ c.loop-order.invariant f (omega (arith, h, c.loop-order-test.false))
