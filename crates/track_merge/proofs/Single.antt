-- The bytes of a transmission of one fix.
use Prim.Native.Nat.{ℕ, ◌+◌, ◌*◌, ◌-◌}
use mathlib.Core.Path.{◌≡◌, sym, ap, ◌∙◌}
use mathlib.Core.List.{List, ◌∷◌, ◌++◌, append_assoc, append-nil}
use lib.ListN.{length, take, drop, replicate, length-replicate, replicate-append-replicate}
use lib.Seq.{drop_at, drop-drop}
use Rattle.tables.specs.Places.{flat}
use Rattle.fixes.specs.Fix.{Fix}
use Rattle.track_transmission.specs.Layout.{fix_size, refused_size, max_standing, max_refused}
use Rattle.track_transmission.specs.Bytes.{fix_bytes, transmission_bytes}
use Rattle.track_merge.specs.Searching.{single}

-- what is not used
abbrev pub spare : ℕ
spare = (max_standing - 1) * fix_size + max_refused * refused_size

single-bytes : (f : Fix) → transmission_bytes (single f) ≡ 1 ∷ (0 ∷ (fix_bytes f ++ replicate spare 0))
unfolding transmission_bytes flat
single-bytes f =
    let b = fix_bytes f in
    let a = (max_standing - 1) * fix_size in
    let c = max_refused * refused_size in
    ap (λ (x : List ℕ). 1 ∷ (0 ∷ ((x ++ replicate a 0) ++ replicate c 0))) (append-nil b)
    ∙ ap (λ (x : List ℕ). 1 ∷ (0 ∷ x)) (append_assoc b (replicate a 0) (replicate c 0) ∙ ap (λ (z : List ℕ). b ++ z) (replicate-append-replicate a c 0))

zeros-behind : (i j : ℕ) → drop i (replicate (i + j) 0) ≡ replicate {A = ℕ} j 0
zeros-behind i j = rw (← replicate-append-replicate {A = ℕ} i j 0) (drop_at (replicate i 0) (replicate j 0) i (length-replicate i 0))

-- the fix put into a buffer that counts one
pub single-put : (f : Fix) (b x : List ℕ) → length (fix_bytes f) ≡ fix_size → b ≡ 1 ∷ (0 ∷ replicate (fix_size + spare) 0) → x ≡ take 2 b ++ (fix_bytes f ++ drop (2 + length (fix_bytes f)) b)
    → x ≡ transmission_bytes (single f)
single-put f b x h e p =
    let y = fix_bytes f in
    let z : List ℕ = replicate (fix_size + spare) 0 in
    let d : drop (2 + length y) (1 ∷ (0 ∷ z)) ≡ replicate spare 0 = sym (drop-drop (length y) 2 (1 ∷ (0 ∷ z))) ∙ ap (λ (k : ℕ). drop k z) h ∙ zeros-behind fix_size spare in
    p ∙ ap (λ (c : List ℕ). take 2 c ++ (y ++ drop (2 + length y) c)) e
    ∙ ap (λ (u : List ℕ). 1 ∷ (0 ∷ (y ++ u))) d
    ∙ sym (single-bytes f)
