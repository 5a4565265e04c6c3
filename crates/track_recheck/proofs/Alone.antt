-- A transmission of one fix: the fix stays as it is but for its signers, or nothing is left.
use Prim.Native.Nat.{ℕ, ◌+◌, ◌*◌, ◌-◌}
use mathlib.Core.Path.{◌≡◌, refl, sym, ap, ap₂, ◌∙◌, subst}
use mathlib.Core.Bool.{true, false, not}
use mathlib.Core.List.Memᴰ
use mathlib.Core.List.{List, [], ◌∷◌, ◌++◌, flat_map, append_assoc, append-nil}
use native.Mathlib.Omega.{arith}
use lib.Dec.{eqb}
use lib.ListN.{length, take, drop, replicate, replicate-append-replicate}
use lib.Seq.{drop_at, length-take-le}
use Rattle.std.specs.Prelude.{Some, slice_get}
use Rattle.octets.specs.Bytes.{Bytes}
use Rattle.octets.specs.Masks.{without_bit}
use Rattle.octets.specs.Writes.{put_word}
use Rattle.tables.specs.Places.{flat}
use Rattle.lists.specs.Lists.{sort}
use Rattle.fixes.specs.Fix.{Fix}
use Rattle.fixes.specs.Shown.{shown}
use Rattle.track_transmission.specs.Layout as L
use Rattle.track_transmission.specs.Held.{HeldTransmission, RefusedFix}
use Rattle.track_transmission.specs.Bytes.{fix_bytes, transmission_in, transmission_bytes}
use Rattle.track_transmission.specs.Values.{nothing_held}
use Rattle.track_transmission.specs.Parts.{Steady}
use Rattle.track_transmission.proofs.Encoding.{Valid, valid-in, fix-length}
use Rattle.track_transmission.proofs.Signing.{sign-standing}
use Rattle.track_normalize.specs.Normal.{normalized, gather_all}
use Rattle.track_normalize.specs.Signed.{is_signed}
use Rattle.track_normalize.specs.Taking.{Settled}
use Rattle.track_normalize.proofs.Claimed.{alone-stands}
use Rattle.track_recheck.specs.Recheck.{stands, standing, unsigned, without_engine}
use Rattle.track_recheck.specs.Steps.{alone}
use Rattle.track_recheck.proofs.Decided.{Decided, standing-decided, without-decided}

-- ---- which one is

module _ (f : Fix) where
  one-fix : (l : List Fix) → length l ≡ 1 → slice_get l 0 ≡ Some f → l ≡ f ∷ []
  one-fix [] n e = absurd (omega (arith, n))
  one-fix (g ∷ []) n e = let same : g ≡ f = cc in ap (λ (x : Fix). x ∷ []) same
  one-fix (g ∷ (h ∷ l)) n e = absurd (omega (arith, n))

  none-refused : (l : List RefusedFix) → length l ≡ 0 → l ≡ []
  none-refused [] n = refl
  none-refused (x ∷ l) n = absurd (omega (arith, n))

  pub is-alone : (t : HeldTransmission) → length t.fixes ≡ 1 → length t.refused ≡ 0 → slice_get t.fixes 0 ≡ Some f → t ≡ alone f
  is-alone t n m e = λ i. record { fixes = one-fix t.fixes n e i; refused = none-refused t.refused m i }

-- ---- decided again

pub none-left : normalized [] ≡ nothing_held
unfolding normalized gather_all sort shown flat_map
none-left = refl

pub alone-settled : (f : Fix) → Settled (alone f)
alone-settled f = alone-stands f

pub none-settled : Settled nothing_held
none-settled = none-left

pub without-signed : (e : ℕ) (f : Fix) → is_signed (unsigned e f) ≡ true → without_engine e (alone f) ≡ alone (unsigned e f)
without-signed e f s = rw s (alone-stands (unsigned e f))

pub without-unsigned : (e : ℕ) (f : Fix) → is_signed (unsigned e f) ≡ false → without_engine e (alone f) ≡ nothing_held
without-unsigned e f s = rw s none-left

pub standing-stays : (ss : List (List ℕ)) (f : Fix) → stands ss f ≡ true → standing ss (alone f) ≡ alone f
standing-stays ss f s = rw s (alone-stands f)

pub standing-goes : (ss : List (List ℕ)) (f : Fix) → stands ss f ≡ false → standing ss (alone f) ≡ nothing_held
standing-goes ss f s = rw s none-left

-- ---- its bytes

-- a cleared place
pub cleared : replicate L.transmission_size 0 ≡ transmission_bytes nothing_held
unfolding transmission_bytes flat
cleared = sym (ap (λ (l : List ℕ). 0 ∷ (0 ∷ l)) (replicate-append-replicate L.fixes_size L.refused_table_size 0))

-- what is not used where one fix stands
abbrev spare : ℕ
spare = (L.max_standing - 1) * L.fix_size + L.refused_table_size

alone-bytes : (f : Fix) → transmission_bytes (alone f) ≡ (1 ∷ (0 ∷ fix_bytes f)) ++ replicate spare 0
unfolding transmission_bytes flat
alone-bytes f =
    let b = fix_bytes f in
    let a = (L.max_standing - 1) * L.fix_size in
    let c = L.refused_table_size in
    ap (λ (x : List ℕ). 1 ∷ (0 ∷ ((x ++ replicate a 0) ++ replicate c 0))) (append-nil b)
    ∙ ap (λ (x : List ℕ). 1 ∷ (0 ∷ x)) (append_assoc b (replicate a 0) (replicate c 0) ∙ ap (λ (z : List ℕ). b ++ z) (replicate-append-replicate a c 0))

-- with the used part cleared
pub only-cleared : (b : List ℕ) → Bytes b → Steady b → (f : Fix) → transmission_in b ≡ alone f → (p x r : List ℕ) → p ≡ take (L.fixes_at + L.fix_size) b → x ≡ replicate (length p) 0 → r ≡ drop (L.fixes_at + L.fix_size) b
    → x ++ r ≡ replicate L.transmission_size 0
only-cleared b y st f q p x r front e behind =
    let v = subst Valid q (valid-in b y st.sound.size st.sound.few st.sound.few_refused) in
    let is : b ≡ (1 ∷ (0 ∷ fix_bytes f)) ++ replicate spare 0 = sym st.same_bytes ∙ ap transmission_bytes q ∙ alone-bytes f in
    let l : length (1 ∷ (0 ∷ fix_bytes f)) ≡ L.fixes_at + L.fix_size = let n = fix-length f (v.fixes f (Memᴰ.head refl)) in omega (arith, n) in
    let z : r ≡ replicate spare 0 = behind ∙ ap (drop (L.fixes_at + L.fix_size)) is ∙ drop_at (1 ∷ (0 ∷ fix_bytes f)) (replicate spare 0) (L.fixes_at + L.fix_size) l in
    let n : length p ≡ L.fixes_at + L.fix_size = ap length front ∙ length-take-le (L.fixes_at + L.fix_size) b (omega (arith, st.sound.size)) in
    ap₂ (λ (u w : List ℕ). u ++ w) (e ∙ ap (λ (k : ℕ). replicate k 0) n) z ∙ replicate-append-replicate (L.fixes_at + L.fix_size) spare 0

-- other signers written where they lie
pub written-signers : (b : List ℕ) → Bytes b → Steady b → (f : Fix) → transmission_in b ≡ alone f → (e s : ℕ) → s ≡ without_bit f.signers e
    → put_word 4 (L.fixes_at + L.signers_at) s b ≡ transmission_bytes (alone (unsigned e f))
written-signers b y st f q e s z =
    let v = valid-in b y st.sound.size st.sound.few st.sound.few_refused in
    ap₂ (λ (x : ℕ) (c : List ℕ). put_word 4 (L.fixes_at + L.signers_at) x c) z (sym st.same_bytes ∙ ap transmission_bytes q)
    ∙ sign-standing (alone f) (subst Valid q v) 0 (without_bit f.signers e) (omega arith)

-- what is left in its bytes, without an engine
pub record Left (e : ℕ) (b x : List ℕ) : Type 0 where
  pub steady : Steady x
  pub held : transmission_in x ≡ without_engine e (transmission_in b)
  pub settled : Settled (transmission_in x)

module _ (b : List ℕ) (y : Bytes b) (st : Steady b) (f : Fix) (q : transmission_in b ≡ alone f) where
  left-as : (e : ℕ) (u : HeldTransmission) → without_engine e (alone f) ≡ u → Settled u → (x : List ℕ) → x ≡ transmission_bytes u → Left e b x
  left-as e u w s x p =
      let is : without_engine e (transmission_in b) ≡ u = ap (without_engine e) q ∙ w in
      let d = without-decided b y st.sound e x (p ∙ ap transmission_bytes (sym is)) in
      record { steady = d.steady; held = d.held; settled = subst Settled (sym (d.held ∙ is)) s }

  pub signed-left : (e s : ℕ) → s ≡ without_bit f.signers e → eqb s 0 ≡ false → (x : List ℕ) → x ≡ put_word 4 (L.fixes_at + L.signers_at) s b → Left e b x
  signed-left e s z n x p =
      left-as e (alone (unsigned e f)) (without-signed e f (ap not (ap (λ (k : ℕ). eqb k 0) (sym z) ∙ n))) (alone-settled (unsigned e f)) x (p ∙ written-signers b y st f q e s z)

  pub unsigned-left : (e s : ℕ) → s ≡ without_bit f.signers e → eqb s 0 ≡ true → (x : List ℕ) → x ≡ replicate L.transmission_size 0 → Left e b x
  unsigned-left e s z n x p =
      left-as e nothing_held (without-unsigned e f (ap not (ap (λ (k : ℕ). eqb k 0) (sym z) ∙ n))) none-settled x (p ∙ cleared)

  -- and without the fixes that do not stand
  module _ (ss : List (List ℕ)) where
    pub one-stays : stands ss f ≡ true → transmission_in b ≡ standing ss (transmission_in b)
    one-stays s = q ∙ sym (ap (standing ss) q ∙ standing-stays ss f s)

    pub one-goes : stands ss f ≡ false → (x : List ℕ) → x ≡ replicate L.transmission_size 0 → Decided (standing ss (transmission_in b)) x
    one-goes s x p =
        standing-decided b y st.sound ss x
        (p ∙ cleared ∙ ap transmission_bytes (sym (ap (standing ss) q ∙ standing-goes ss f s)))
