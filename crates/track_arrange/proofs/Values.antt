-- What is arranged in bytes is what is arranged of the transmissions that they hold.
use Prim.Native.Nat.{ℕ, zero, suc, ◌-◌}
use mathlib.Core.Path.{◌≡◌, refl, sym, ap, ap₂, ◌∙◌}
use mathlib.Core.List.{List, [], ◌∷◌, map}
use lib.ListN.{length, drop, length-map}
use Rattle.std.specs.List.{filter}
use Rattle.lists.specs.Lists.{sort}
use Rattle.lists.proofs.Lists.{filter_map, sort-map}
use Rattle.track_transmission.specs.Held.{HeldTransmission}
use Rattle.track_transmission.specs.Bytes.{transmission_in}
use Rattle.track_arrange.specs.Arranged.{max_transmissions, has_fix, older_than, arranged}
use Rattle.track_arrange.specs.Blocks.{has_fix_in, older_block, arranged_blocks, latest_blocks}

pub map-drop : {A B : Type 0} (f : A → B) (n : ℕ) (l : List A) → map f (drop n l) ≡ drop n (map f l)
map-drop f zero l = refl
map-drop f (suc n) [] = refl
map-drop f (suc n) (x ∷ l) = map-drop f n l

sorted-values : (bs : List (List ℕ)) → map transmission_in (arranged_blocks bs) ≡ sort older_than (filter has_fix (map transmission_in bs))
unfolding arranged_blocks
sorted-values bs =
    sym (sort-map transmission_in older_block older_than (filter has_fix_in bs) (λ x y m n. refl))
    ∙ ap (sort older_than) (sym (filter_map transmission_in has_fix_in has_fix bs (λ x m. refl)))

pub latest-values : (bs : List (List ℕ)) → map transmission_in (latest_blocks bs) ≡ arranged (map transmission_in bs)
unfolding arranged
latest-values bs =
    map-drop transmission_in (length (arranged_blocks bs) - max_transmissions) (arranged_blocks bs)
    ∙ ap₂ (λ (n : ℕ) (l : List HeldTransmission). drop (n - max_transmissions) l) (sym (length-map (arranged_blocks bs) transmission_in) ∙ ap length (sorted-values bs)) (sorted-values bs)
