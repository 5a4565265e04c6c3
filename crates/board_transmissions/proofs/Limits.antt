-- The limit in time of a link: when two records link, which fixes are one transmission by computation, and that two fixes further apart rank alone.
use Rattle.fixes.proofs.Showing.{alone-shown}
use Rattle.std.proofs.Common.{◌<◌, ◌≡◌, refl, ap, ap₂, ◌∙◌, true, false, List, [], ◌∷◌, map, arith}
use Rattle.octets.specs.Words.{word, word_bytes}
use Rattle.octets.specs.Order.{same, is_before}
use Rattle.octets.proofs.Comparison.{same_refl}
use Rattle.record.specs.Fields.{tags_from}
use Rattle.record.specs.Relations.{shares_tag, any_in, member, tied}
use Rattle.std.specs.List.{filter, list_any}
use Rattle.fixes.specs.Fix.{Fix}
use Rattle.fixes.specs.Ages.{time_of}
use Rattle.fixes.specs.Shown.{Transmission, shown}
use Rattle.board_transmissions.specs.Transmissions.{link_span, time_difference, records_link, linked, reach, transmission_of, leads, is_first, transmissions_of}
use Rattle.board_transmissions.specs.Bursts.{LinkExactlyWhen, Limit, ChainsJoin, ranks_alone, FarSubset}
use Rattle.board_transmissions.proofs.Symmetry.{linked-turned}
use Rattle.board_transmissions.proofs.Fitness.{self-linked}

-- ---- near in time

pub link-exactly-when : LinkExactlyWhen
unfolding records_link
link-exactly-when a b = (λ (h : records_link a b ≡ true). grind arith, λ p. grind arith)

-- ---- by computation

pub limit : Limit
unfolding records_link tied shares_tag any_in member same is_before tags_from word word_bytes
limit = record {
  under = record { forwards = refl; backwards = refl };
  exactly = record { forwards = refl; backwards = refl };
  over = record { forwards = refl; backwards = refl };
  ends = record { forwards = refl; backwards = refl };
}

pub chains-join : ChainsJoin
unfolding transmissions_of reach records_link tied shares_tag any_in member same is_before tags_from word word_bytes
chains-join = record { by_tags = record { all = refl; ends = refl }; by_times = record { all = refl; ends = refl } }

-- ---- further apart

far-unlinked : (f g : Fix) → link_span < time_difference (time_of f) (time_of g) → linked f g ≡ false
unfolding records_link
far-unlinked f g h = grind arith

alone : (f : Fix) → shown (f ∷ []) ≡ ranks_alone f
alone f = alone-shown f

module _ (f g : Fix) (ff : linked f f ≡ true) (gg : linked g g ≡ true) (fg : linked f g ≡ false) (gf : linked g f ≡ false) where
  abbrev both : List Fix
  both = f ∷ g ∷ []

  -- one link leads from each to itself
  abbrev links-of : Fix → List Fix
  links-of h = filter (λ x. list_any (linked x) (h ∷ [])) both

  first-link : links-of f ≡ f ∷ []
  first-link = rw (ff, gf) refl

  second-link : links-of g ≡ g ∷ []
  second-link = rw (fg, gg) refl

  -- and so do two
  two-links : (h : Fix) → links-of h ≡ h ∷ [] → transmission_of both h ≡ h ∷ []
  unfolding reach
  two-links h e = ap (λ (l : List Fix). filter (λ x. list_any (linked x) l) both) e ∙ e

  is-first : (h : Fix) → links-of h ≡ h ∷ [] → is_first both h ≡ true
  is-first h e = ap (leads h) (two-links h e) ∙ same_refl h.identity

  both_first : filter (is_first both) both ≡ both
  both_first = rw (is-first f first-link, is-first g second-link) refl

  two-alone : transmissions_of both ≡ (f ∷ []) ∷ (g ∷ []) ∷ []
  unfolding transmissions_of
  two-alone = ap (map (transmission_of both)) both_first ∙ ap₂ (λ (l m : List Fix). l ∷ m ∷ []) (two-links f first-link) (two-links g second-link)

pub far-subset : FarSubset
far-subset f g wf wg h =
    let n = far-unlinked f g h in
    let p = two-alone f g (self-linked f.record_bytes wf) (self-linked g.record_bytes wg) n (linked-turned g.record_bytes f.record_bytes ∙ n) in
    ap (map shown) p ∙ ap₂ (λ (t u : Transmission). t ∷ u ∷ []) (alone f) (alone g)
