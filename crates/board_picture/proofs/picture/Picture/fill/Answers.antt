use Rattle.std.proofs.Common.{map, ap, ap₂, sym, ◌∙◌, arith, List}
use Rattle.lists.specs.Lists.{insert}
use Rattle.board_transmissions.specs.Links.{members_of}
use Rattle.fixes.specs.Fix.{Fix}
use Rattle.board_picture.specs.Lines.{ShownPart, with_fixes}
use Rattle.board_picture.specs.Parts.{Shows, earlier, part_in}
use Rattle.board_picture.proofs.Listing.{members-length}
use Rattle.board_picture.proofs.Filling.{part_over, from-none, from-more, from-few, from-room, from-all}
use Rattle.board_picture.proofs.picture.Picture.fill.Goals as goal

pub loop-k-init : goal.loop-k-init
loop-k-init c = record {
  most = omega (arith, c.len-k.ensures);
  shows =
      ap₂ (λ (fs : List Fix) (l : List ShownPart). record { fixes = fs; parts = l }) c.fixes-self-inside.ensures.fixes
      (ap (map (part_in (with_fixes c.fixes-self-inside.result.now c.clear.new.self.items))) c.clear-2.ensures ∙ from-none c.args.transmissions.now.parts _ c.len-k.ensures);
}

pub add-requires-clause-same : goal.add-requires-clause-same
add-requires-clause-same c = c.nth.ensures.fixes ∙ sym (ap (λ (s : Shows). s.fixes) c.loop-k.invariant.shows)

pub add-requires-clause-few : goal.add-requires-clause-few
add-requires-clause-few c =
    let n = from-few c.args.transmissions.now.parts c.loop-k.k in
    let w = c.fixes-self-inside.ensures.parts in
    let s = ap (λ (z : Shows). z.parts) c.loop-k.invariant.shows in
    rw s (omega (arith, n, w.most, w.few, c.loop-k-test.true, c.loop-k.invariant.most))

pub add-requires-clause-room : goal.add-requires-clause-room
add-requires-clause-room c =
    let r = from-room c.args.transmissions.now.parts c.loop-k.k _ c.loop-k-test.true c.loop-k.invariant.most c.nth.ensures.members in
    let w = c.fixes-self-inside.ensures.parts in
    let s = ap (λ (z : Shows). z.parts) c.loop-k.invariant.shows in
    let n = members-length c.nth.result in
    rw s (omega (arith, r, w.all, w.few, n))

pub loop-k-preserved : goal.loop-k-preserved
loop-k-preserved c = record {
  most = omega (arith, c.loop-k.invariant.most);
  shows =
      c.add.ensures
      ∙ ap (λ (s : Shows). record { fixes = s.fixes; parts = insert earlier (part_over (members_of c.nth.result)) s.parts }) c.loop-k.invariant.shows
      ∙ ap (λ (l : List ShownPart). record { fixes = c.args.transmissions.now.fixes; parts = l }) (from-more c.args.transmissions.now.parts c.loop-k.k _ c.loop-k-test.true c.loop-k.invariant.most c.nth.ensures.members);
}

pub returns : goal.returns
returns c =
    c.loop-k.invariant.shows
    ∙ ap (λ (l : List ShownPart). record { fixes = c.args.transmissions.now.fixes; parts = l }) (from-all c.args.transmissions.now.parts c.fixes-self-inside.ensures.parts.some c.loop-k.k (omega (arith, c.loop-k-test.false)))
