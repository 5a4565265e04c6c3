-- The places of a sound transmission are few and formed.
use mathlib.Core.Path.{◌≡◌, refl, ap, ◌∙◌}
use mathlib.Core.Bool.{true}
use mathlib.Core.List.{List, [], ◌∷◌, ◌++◌, map}
use Prim.Native.Nat.{ℕ, ◌≤◌}
use native.Mathlib.Omega.{arith}
use lib.ListN.{length, take}
use lib.Seq.{take-take}
use Rattle.lists.proofs.Bools.{and_both, and_left, and_right}
use Rattle.std.specs.List.{list_all}
use Rattle.tables.proofs.Tables.{length-places}
use Rattle.record.specs.Layout.{record_size}
use Rattle.track_transmission.specs.Layout.{max_standing, max_refused, fix_size, refused_size}
use Rattle.track_transmission.specs.Bytes.{fix_count, refused_count, fix_table, refused_table, fix_places, refused_places}
use Rattle.track_transmission.specs.Parts.{Sound, record_formed}

formed-first : (ps qs : List (List ℕ)) → list_all record_formed (ps ++ qs) ≡ true → list_all record_formed ps ≡ true
formed-first [] qs h = refl
formed-first (p ∷ ps) qs h =
    let rest = list_all record_formed (ps ++ qs) in
    and_both (record_formed p) (list_all record_formed ps) (and_left (record_formed p) rest h) (formed-first ps qs (and_right (record_formed p) rest h))

formed-second : (ps qs : List (List ℕ)) → list_all record_formed (ps ++ qs) ≡ true → list_all record_formed qs ≡ true
formed-second [] qs h = h
formed-second (p ∷ ps) qs h = formed-second ps qs (and_right (record_formed p) (list_all record_formed (ps ++ qs)) h)

-- of the refused the first bytes are a fix
formed-refused : (qs : List (List ℕ)) → list_all record_formed (map (take fix_size) qs) ≡ true → list_all record_formed qs ≡ true
formed-refused [] h = h
formed-refused (q ∷ qs) h =
    let a = and_left (record_formed (take fix_size q)) (list_all record_formed (map (take fix_size) qs)) h in
    and_both (record_formed q) (list_all record_formed qs)
    (rw (take-take record_size fix_size q (omega arith)) at a)
    (formed-refused qs (and_right (record_formed (take fix_size q)) (list_all record_formed (map (take fix_size) qs)) h))

-- ---- what is lent of a transmission

module _ (b : List ℕ) (s : Sound b) (ps : List (List ℕ)) where
  pub few-stand : ps ≡ fix_places b → length ps ≤ max_standing
  few-stand e = omega (arith, ap length e, length-places fix_size (fix_count b) (fix_table b), s.few)

  pub few-refused : ps ≡ refused_places b → length ps ≤ max_refused
  few-refused e = omega (arith, ap length e, length-places refused_size (refused_count b) (refused_table b), s.few_refused)

  pub standing-formed : ps ≡ fix_places b → list_all record_formed ps ≡ true
  standing-formed e = ap (list_all record_formed) e ∙ formed-first (fix_places b) (map (take fix_size) (refused_places b)) s.formed

  pub refused-formed : ps ≡ refused_places b → list_all record_formed ps ≡ true
  refused-formed e =
      ap (list_all record_formed) e ∙ formed-refused (refused_places b) (formed-second (fix_places b) (map (take fix_size) (refused_places b)) s.formed)
