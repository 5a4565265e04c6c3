-- The first held fix of an identity, and its signature.
use Prim.Native.Nat.{ℕ, ◌+◌, ◌-◌, ◌≤◌, ◌<◌}
use mathlib.Core.Path.{◌≡◌, refl, sym, ap, ap₂, ◌∙◌}
use mathlib.Core.Bool.{Bool, true, false, cond, ◌||◌}
use mathlib.Core.List.{List, [], map}
use native.Mathlib.Omega.{arith}
use lib.Bits.{bit_or}
use lib.Dec.{ltb}
use lib.ListN.{length, get_or, take, set, length-map, get_or-append}
use lib.Seq.{take-append-le, take-append-add, get_or-append-add}
use borrow.Author.Tests.{ltb-true, ltb-false}
use Rattle.std.proofs.lemmas.List as S
use Rattle.std.proofs.lemmas.List.Folds.{list_any-append}
use Rattle.octets.specs.Bytes.{Bytes}
use Rattle.octets.specs.Words.{word, word_at}
use Rattle.octets.specs.Writes.{put_word}
use Rattle.std.specs.Prelude.{Some, position}
use Rattle.std.specs.List.{list_any}
use Rattle.lists.proofs.Bools.{by, neither_left, neither_right}
use Rattle.lists.proofs.Lists.{any-map, any-of}
use Rattle.tables.proofs.Tables.{length-places}
use Rattle.tables.proofs.Walks.{part_of}
use Rattle.fixes.specs.Fix.{Fix, with_signers}
use Rattle.fixes.specs.Items.{no_fix}
use Rattle.fixes.proofs.Indexed.{at_in}
use Rattle.track_transmission.specs.Layout as L
use Rattle.track_transmission.specs.Held.{RefusedFix, HeldTransmission, fix_of, held_in, is_of}
use Rattle.track_transmission.specs.Bytes.{signers_in, fix_in, refused_in, fix_count, refused_count, fix_table, refused_table, fix_places, refused_places, transmission_in, transmission_bytes}
use Rattle.track_transmission.specs.Parts.{held_places, held_count, held_place, fix_place, refused_place, Steady}
use Rattle.track_transmission.proofs.Holding.{held-length, held-number, held_at, held-are}
use Rattle.track_transmission.proofs.Encoding.{Valid, valid-in}
use Rattle.track_normalize.specs.Normal.{sign_first}
use Rattle.track_normalize.specs.Joining.{upholds, sign_refused, sign_in}
use Rattle.track_merge.proofs.Counting.{first-at}
use Rattle.track_transmission.proofs.Signing.{no_refused, resigned, sign-standing, sign-refused}
use Rattle.track_merge.proofs.Signing.{sign-first-at, sign-refused-at}

pub held-fix : (b : List ℕ) (k : ℕ) → k < held_count b → get_or (held_in (transmission_in b)) k no_fix ≡ fix_in (get_or (held_places b) k [])
held-fix b k h = ap (λ (l : List Fix). get_or l k no_fix) (sym (held-are b)) ∙ S.get_or-map fix_in (held_places b) k [] no_fix (rw (held-length b) h)

-- ---- the signature of the held fix k, the first of its identity

module _ (b : List ℕ) (y : Bytes b) (st : Steady b) (g : Fix) (k : ℕ) (first : position (is_of g) (held_in (transmission_in b)) ≡ Some k) where
  abbrev t : HeldTransmission
  t = transmission_in b

  h : k < held_count b
  h = rw (sym (held-number b)) (first-at (is_of g) (held_in t) k no_fix first).there

  v : Valid t
  v = valid-in b y st.sound.size st.sound.few st.sound.few_refused

  fixes-count : length t.fixes ≡ fix_count b
  unfolding transmission_in
  fixes-count = length-map (fix_places b) fix_in ∙ length-places L.fix_size (fix_count b) (fix_table b)

  refused-count : length t.refused ≡ refused_count b
  unfolding transmission_in
  refused-count = length-map (refused_places b) refused_in ∙ length-places L.refused_size (refused_count b) (refused_table b)

  -- its signers, read where they lie
  signers-there : word_at 4 (held_place b k + L.signers_at) b ≡ (get_or (held_in t) k no_fix).signers
  signers-there =
      ap word (sym (part_of 4 L.signers_at L.fix_size (held_place b k) b (omega arith)))
      ∙ ap (λ (p : List ℕ). signers_in p) (held_at b st.sound k h)
      ∙ sym (ap (λ (x : Fix). x.signers) (held-fix b k h))

  abbrev s : ℕ
  s = bit_or (get_or (held_in t) k no_fix).signers g.signers

  none : list_any (is_of g) (take k (held_in t)) ≡ false
  none = (first-at (is_of g) (held_in t) k no_fix first).before

  here : is_of g (get_or (held_in t) k no_fix) ≡ true
  here = (first-at (is_of g) (held_in t) k no_fix first).here

  -- one that stands
  stands : k < length t.fixes → put_word 4 (fix_place k + L.signers_at) s (transmission_bytes t) ≡ transmission_bytes (sign_in g t)
  stands l =
      let e : get_or (held_in t) k no_fix ≡ get_or t.fixes k no_fix = get_or-append t.fixes (map fix_of t.refused) no_fix k l in
      let n : list_any (is_of g) (take k t.fixes) ≡ false = ap (list_any (is_of g)) (sym (take-append-le k t.fixes (map fix_of t.refused) (omega (arith, l)))) ∙ none in
      let m : is_of g (get_or t.fixes k no_fix) ≡ true = ap (is_of g) (sym e) ∙ here in
      let u : upholds t g ≡ true = any-of (is_of g) t.fixes (get_or t.fixes k no_fix) (at_in no_fix t.fixes k l) m in
      sign-standing t v k s l
      ∙ sym (ap (λ (c : Bool). transmission_bytes (cond c (record { fixes = sign_first g t.fixes; refused = t.refused }) (record { fixes = t.fixes; refused = sign_refused g t.refused }))) u
      ∙ ap (λ (l : List Fix). transmission_bytes (record { fixes = l; refused = t.refused })) (sign-first-at g t.fixes k l n m
      ∙ ap (λ (x : ℕ). set t.fixes k (with_signers (bit_or x g.signers) (get_or t.fixes k no_fix))) (ap (λ (x : Fix). x.signers) (sym e))))

  -- a refused one
  is-refused : length t.fixes ≤ k → put_word 4 (refused_place (k - length t.fixes) + L.signers_at) s (transmission_bytes t) ≡ transmission_bytes (sign_in g t)
  is-refused l =
      let j = k - length t.fixes in
      let rs = t.refused in
      let z : length t.fixes + j ≡ k = omega (arith, l) in
      let q : j < length rs = omega (arith, l, h, fixes-count, refused-count) in
      let e : get_or (held_in t) k no_fix ≡ (get_or rs j no_refused).fix = ap (λ (i : ℕ). get_or (held_in t) i no_fix) (sym z) ∙ get_or-append-add t.fixes (map fix_of rs) j no_fix ∙ S.get_or-map fix_of rs j no_refused no_fix q in
      let p : (list_any (is_of g) t.fixes || list_any (is_of g) (take j (map fix_of rs))) ≡ false = sym (list_any-append (is_of g) t.fixes (take j (map fix_of rs))) ∙ ap (list_any (is_of g)) (sym (take-append-add t.fixes (map fix_of rs) j) ∙ ap (λ (i : ℕ). take i (held_in t)) z) ∙ none in
      let u : upholds t g ≡ false = neither_left (upholds t g) (list_any (is_of g) (take j (map fix_of rs))) p in
      let n : list_any (λ x. is_of g x.fix) (take j rs) ≡ false = sym (any-map fix_of (λ x. is_of g x.fix) (is_of g) (take j rs) (λ x i. refl)) ∙ ap (list_any (is_of g)) (sym (S.take-map fix_of j rs)) ∙ neither_right (upholds t g) (list_any (is_of g) (take j (map fix_of rs))) p in
      let m : is_of g (get_or rs j no_refused).fix ≡ true = ap (is_of g) (sym e) ∙ here in
      sign-refused t v j s q
      ∙ sym (ap (λ (c : Bool). transmission_bytes (cond c (record { fixes = sign_first g t.fixes; refused = rs }) (record { fixes = t.fixes; refused = sign_refused g rs }))) u
      ∙ ap (λ (l : List RefusedFix). transmission_bytes (record { fixes = t.fixes; refused = l })) (sign-refused-at g rs j q n m
      ∙ ap (λ (x : ℕ). set rs j (resigned (bit_or x g.signers) (get_or rs j no_refused))) (ap (λ (x : Fix). x.signers) (sym e))))

  pub signed-bytes : put_word 4 (held_place b k + L.signers_at) (bit_or (word_at 4 (held_place b k + L.signers_at) b) g.signers) b ≡ transmission_bytes (sign_in g t)
  signed-bytes =
      ap₂ (λ (x : ℕ) (c : List ℕ). put_word 4 (held_place b k + L.signers_at) (bit_or x g.signers) c) signers-there (sym st.same_bytes)
      ∙ by (ltb k (fix_count b))
      (λ w. let e : held_place b k ≡ fix_place k = rw w refl in ap (λ (x : ℕ). put_word 4 (x + L.signers_at) s (transmission_bytes t)) e ∙ stands (rw fixes-count (ltb-true k (fix_count b) w)))
      (λ w. let e : held_place b k ≡ refused_place (k - length t.fixes) = rw (w, fixes-count) refl in ap (λ (x : ℕ). put_word 4 (x + L.signers_at) s (transmission_bytes t)) e ∙ is-refused (rw fixes-count (ltb-false k (fix_count b) w)))

  pub some-held : list_any (is_of g) (held_in t) ≡ true
  some-held = any-of (is_of g) (held_in t) (get_or (held_in t) k no_fix) (at_in no_fix (held_in t) k (rw (held-number b) h)) here
