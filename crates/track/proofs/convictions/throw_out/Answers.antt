use Rattle.std.proofs.Common.{◌≡◌, ℕ, Bool, not, List, [], ◌∷◌, refl, sym, ap, ◌∙◌, arith, length}
use Rattle.std.specs.List.{filter}
use Rattle.track_shelf.specs.Waiting.{Waiting, is_reported_by}
use Rattle.track_shelf.specs.Memory.{decode_shelf, encode_shelf}
use Rattle.track_shelf.specs.Steps.{Sound}
use Rattle.track_shelf.proofs.Shelves.{encode-decode}
use Rattle.track.proofs.convictions.throw_out.Goals as goal

none-left : (f : Waiting → Bool) (w : List ℕ) → Sound w → length (decode_shelf w) ≡ 0 → w ≡ encode_shelf (filter f (decode_shelf w))
none-left f w s z = sym (encode-decode w s) ∙ ap encode_shelf (same (decode_shelf w) z)
  where
    same : (l : List Waiting) → length l ≡ 0 → l ≡ filter f l
    same [] e = refl
    same (x ∷ l) e = absurd (omega (arith, e))

pub returns-then-len-eq0 : goal.returns-then-len-eq0
returns-then-len-eq0 c =
    let none : length (decode_shelf c.args.shelf.now) ≡ 0 = sym (c.len.ensures.count ∙ ap (λ (l : List Waiting). length l) c.of.ensures) ∙ c.if-len-eq0.true in
    none-left (λ x. not (is_reported_by c.args.engine x)) c.args.shelf.now c.requires none
