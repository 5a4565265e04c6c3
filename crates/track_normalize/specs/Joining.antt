-- A further fix among those of a transmission (docs/REFERENCE.md, 'Track and listing'; the Rust's `merge`, where a fix is tied to one transmission).
use Rattle.std.specs.Prelude.{ℕ, Bool, true, false, not, cond, List, [], ◌∷◌, ◌++◌, map, length}
use Rattle.std.specs.List.{filter, list_any}
use Rattle.fixes.specs.Fix.{Fix}
use Rattle.track_transmission.specs.Held.{RefusedFix, HeldTransmission, fix_of, is_of}
use Rattle.track_normalize.specs.Normal.{signed_by, sign_first, normalized}

-- t with f among its fixes, all decided again
abbrev pub with_fix : Fix → HeldTransmission → HeldTransmission
with_fix f t = normalized (t.fixes ++ (f ∷ map fix_of t.refused))

-- some refused fix has the identity of f
abbrev pub refuses : HeldTransmission → Fix → Bool
refuses t f = list_any (is_of f) (map fix_of t.refused)

-- some fix that stands has it
abbrev pub upholds : HeldTransmission → Fix → Bool
upholds t f = list_any (is_of f) t.fixes

-- how many of the refused of u were not refused in t
abbrev pub entered : HeldTransmission → HeldTransmission → ℕ
entered t u = length (filter (λ g. not (refuses t g)) (map fix_of u.refused))

-- the first of a list has the identity of f
abbrev pub leads : Fix → List Fix → Bool
leads f [] = false
leads f (g ∷ gs) = is_of f g

-- the fix kept is another one: the first of two lists, the one before and the one after
abbrev pub moved : List Fix → List Fix → Bool
moved [] gs = true
moved (f ∷ fs) gs = not (leads f gs)

-- ---- a fix whose identity is held

-- the first refused that has the identity of f gains its signers
unfoldable pub sign_refused : Fix → List RefusedFix → List RefusedFix
sign_refused f [] = []
sign_refused f (x ∷ xs) =
    let rest = sign_refused f xs in
    cond (is_of f x.fix) (record { fix = signed_by f x.fix; against = x.against; chi2 = x.chi2 } ∷ xs) (x ∷ rest)

-- its identity is held: the first that has it gains the signer, those that stand before the refused
abbrev pub sign_in : Fix → HeldTransmission → HeldTransmission
sign_in f t =
    cond (upholds t f)
    (record { fixes = sign_first f t.fixes; refused = t.refused })
    (record { fixes = t.fixes; refused = sign_refused f t.refused })
