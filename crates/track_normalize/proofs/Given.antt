-- The claims of specs/Claims about what becomes of each fix that is given.
use mathlib.Core.Path.{◌≡◌, refl, sym, ap, ◌∙◌, subst}
use mathlib.Core.Bool.{false≢true}
use mathlib.Core.List.Memᴰ
use mathlib.Core.List.Permᴰ
use mathlib.Core.List.{List, [], ◌∷◌, ◌++◌, map, map-append, append_assoc, Memᴰ, Permᴰ}
use lib.ListN.{take, drop, take-append-drop}
use Rattle.lists.specs.Lists.{sort}
use Rattle.lists.proofs.Lists.{sort-perm}
use Rattle.lists.proofs.Orders.{perm-map}
use Rattle.decision_rule.specs.Outcome.{Refused}
use Rattle.decision.proofs.Laws as D
use Rattle.fixes.specs.Fix.{Fix, with_signers}
use Rattle.fixes.specs.Shown.{agreement, disagrees}
use Rattle.fixes.specs.Claims.{fix_relations}
use Rattle.track_transmission.specs.Layout.{max_standing, max_refused}
use Rattle.track_normalize.specs.Normal.{signed_by, distinct, refused_fix, lower_refused, normalized}
use Rattle.track_normalize.specs.Claims.{OneOfEach, NoneLost, KeptAsGiven, Against, RefusedAgainst}
use Rattle.track_normalize.proofs.Claimed.{item_of, once, gathered, o, lows, kept-are, low-in, kept_in}
use Rattle.track_normalize.proofs.Validity.{all-distinct, named}
use Rattle.arithmetic.specs.Agree.{chi_square_in}
use Rattle.arithmetic.specs.Bits.{stored_bits}
use Rattle.arithmetic.specs.declared.standing.ChiSquare.{ChiSquare}

pub one-of-each : OneOfEach
one-of-each fs = ((gathered fs).differ, (gathered fs).covered)

-- ---- kept or forgotten

-- lists may change places
turned : {A : Type 0} (p q r : List A) → Permᴰ (p ++ (q ++ r)) (q ++ (p ++ r))
turned [] q r = Permᴰ.refl (q ++ r)
turned (x ∷ p) q r = Permᴰ.trans (Permᴰ.cons refl (turned p q r)) (Permᴰ.symm (Permᴰ.middle x q (p ++ r)))

module _ (fs : List Fix) where
  abbrev sorted : List (Refused Fix ChiSquare)
  sorted = sort lower_refused (o fs).refused

  abbrev best : List Fix
  best = take max_standing (o fs).ranked

  abbrev behind : List Fix
  behind = drop max_standing (o fs).ranked

  abbrev low : List Fix
  low = map item_of (lows fs)

  abbrev high : List Fix
  high = map item_of (drop max_refused sorted)

  all-refused : Permᴰ (low ++ high) (map item_of (o fs).refused)
  all-refused =
      subst (λ (l : List Fix). Permᴰ l (map item_of (o fs).refused))
      (ap (map item_of) (sym (take-append-drop max_refused sorted)) ∙ map-append item_of (lows fs) (drop max_refused sorted))
      (perm-map item_of (sort-perm lower_refused (o fs).refused))

  -- the refused that are kept go behind the dominated
  parts : Permᴰ ((best ++ low) ++ (behind ++ ((o fs).dominated ++ high))) (best ++ (behind ++ ((o fs).dominated ++ (low ++ high))))
  parts =
      rw (append_assoc best low (behind ++ ((o fs).dominated ++ high)))
      (Permᴰ.append_left best
      (Permᴰ.trans (turned low behind ((o fs).dominated ++ high)) (Permᴰ.append_left behind (turned low (o fs).dominated high))))

  listed : Permᴰ (best ++ (behind ++ ((o fs).dominated ++ (low ++ high)))) (distinct fs)
  listed =
      rw (← append_assoc best behind ((o fs).dominated ++ (low ++ high)), take-append-drop max_standing (o fs).ranked)
      (Permᴰ.trans (Permᴰ.append_left (o fs).ranked (Permᴰ.append_left (o fs).dominated all-refused)) (once (distinct fs)))

pub none-lost : NoneLost
none-lost fs = rw (kept-are fs) (Permᴰ.trans (parts fs) (listed fs))

-- ---- as they were given

module _ (fs : List Fix) where
  abbrev AsGiven : Fix → Type 0
  AsGiven g = (f : Fix) × Memᴰ f fs × (with_signers g.signers f ≡ g)

  given : (g : Fix) → Memᴰ g (distinct fs) → AsGiven g
  given =
      all-distinct AsGiven (λ f g p q. (q.0, q.1, ap (with_signers (signed_by f g).signers) q.2)) fs (λ f m. (f, m, refl))

  against : (y : Refused Fix ChiSquare) → D.Named fix_relations (distinct fs) y → Against fs (refused_fix y)
  against y (D.opponent p c k d v) =
      let g = given y.against k in
      record {
        other = g.0;
        given = g.1;
        named = ap (λ (f : Fix). f.identity) (sym g.2);
        disagreeing = ap (disagrees y.item) g.2 ∙ d;
        chi_square = ap stored_bits c ∙ ap (λ (f : Fix). stored_bits (chi_square_in (agreement y.item f))) (sym g.2);
      }
  against y (D.successor p c k d v q) = absurd (false≢true v)

pub kept-as-given : KeptAsGiven
kept-as-given fs g m = given fs g (kept_in fs g m)

pub refused-against : RefusedAgainst
unfolding normalized
refused-against fs x m = let r = Memᴰ.of_map refused_fix _ m in subst (Against fs) r.2 (against fs r.0 (named fs r.0 (low-in fs r.0 r.1)))
