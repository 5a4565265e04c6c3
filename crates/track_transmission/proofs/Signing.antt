-- Other signers put into the bytes of a transmission.
use Prim.Native.Nat.{ℕ, ◌+◌, ◌*◌, ◌≤◌, ◌<◌}
use mathlib.Core.Path.{◌≡◌, sym, ap, ◌∙◌}
use mathlib.Core.List.{List, [], ◌∷◌, ◌++◌, map, append_assoc}
use native.Mathlib.Omega.{arith}
use lib.ListN.{length, get_or, set, length-set, length-map}
use Rattle.octets.specs.Words.{word_bytes}
use Rattle.octets.specs.Writes.{put_word}
use Rattle.std.proofs.lemmas.List as S
use Rattle.tables.specs.Places.{table_of}
use Rattle.fixes.specs.Fix.{Fix, with_signers}
use Rattle.fixes.specs.Items.{no_fix}
use Rattle.fixes.proofs.Indexed.{at_in}
use Rattle.track_transmission.specs.Layout as L
use Rattle.track_transmission.specs.Held.{RefusedFix, HeldTransmission}
use Rattle.track_transmission.specs.Bytes.{fix_bytes, refused_bytes, transmission_bytes}
use Rattle.track_transmission.specs.Parts.{fix_place, refused_place}
use Rattle.track_transmission.proofs.Encoding.{Valid, wide-fixes, wide-refused, fixes-length}
use Rattle.track_transmission.proofs.Putting.{put_second, put_first, put-place}

abbrev pub no_refused : RefusedFix
no_refused = record { fix = no_fix; against = []; chi2 = 0 }

-- with other signers
abbrev pub resigned : ℕ → RefusedFix → RefusedFix
resigned s x = record { fix = with_signers s x.fix; against = x.against; chi2 = x.chi2 }

-- ---- the signers of the fix k, or of the refused k, written anew

module _ (t : HeldTransmission) (v : Valid t) (k s : ℕ) where
  abbrev fs : List (List ℕ)
  fs = map fix_bytes t.fixes

  abbrev rs : List (List ℕ)
  rs = map refused_bytes t.refused

  abbrev counts : List ℕ
  counts = length t.fixes ∷ (length t.refused ∷ [])

  abbrev ft : List ℕ
  ft = table_of L.fix_size L.max_standing fs

  abbrev rt : List ℕ
  rt = table_of L.refused_size L.max_refused rs

  pub sign-standing : k < length t.fixes
      → put_word 4 (fix_place k + L.signers_at) s (transmission_bytes t) ≡ transmission_bytes (record { fixes = set t.fixes k (with_signers s (get_or t.fixes k no_fix)); refused = t.refused })
  unfolding transmission_bytes
  sign-standing h =
      let g = get_or t.fixes k no_fix in
      let r = (v.fixes g (at_in no_fix t.fixes k h)).record-size in
      let e : fix_place k + L.signers_at ≡ length counts + (k * L.fix_size + L.signers_at) = omega arith in
      let w = wide-fixes t v in
      let p = put-place L.fix_size L.max_standing fs w k (rw (length-map t.fixes fix_bytes) h) g.record_bytes g.inputs 4 g.signers s L.signers_at r (S.get_or-map fix_bytes t.fixes k no_fix [] h) in
      let room : k * L.fix_size + L.signers_at + 4 ≤ length ft = let f = v.few in omega (arith, fixes-length t v, h) in
      ap (λ (x : ℕ). put_word 4 x s (counts ++ (ft ++ rt))) e
      ∙ put_second 4 (k * L.fix_size + L.signers_at) s counts (ft ++ rt)
      ∙ ap (λ (l : List ℕ). counts ++ l) (put_first 4 (k * L.fix_size + L.signers_at) s ft rt room ∙ ap (λ (l : List ℕ). l ++ rt) (p ∙ ap (table_of L.fix_size L.max_standing) (sym (S.map-set fix_bytes t.fixes k (with_signers s g)))))
      ∙ ap (λ (n : ℕ). n ∷ (length t.refused ∷ (table_of L.fix_size L.max_standing (map fix_bytes (set t.fixes k (with_signers s g))) ++ rt))) (sym (length-set t.fixes k (with_signers s g)))

  pub sign-refused : k < length t.refused
      → put_word 4 (refused_place k + L.signers_at) s (transmission_bytes t) ≡ transmission_bytes (record { fixes = t.fixes; refused = set t.refused k (resigned s (get_or t.refused k no_refused)) })
  unfolding transmission_bytes
  sign-refused h =
      let x = get_or t.refused k no_refused in
      let g = x.fix in
      let tail = x.against ++ word_bytes 8 x.chi2 in
      let r = (v.refused x (at_in no_refused t.refused k h)).fix.record-size in
      let e : refused_place k + L.signers_at ≡ length counts + (length ft + (k * L.refused_size + L.signers_at)) = omega (arith, fixes-length t v) in
      let w = wide-refused t v in
      let parts : (i : ℕ) → refused_bytes (resigned i x) ≡ g.record_bytes ++ (word_bytes 4 i ++ (g.inputs ++ tail))
      = λ i. append_assoc g.record_bytes (word_bytes 4 i ++ g.inputs) tail ∙ ap (λ (l : List ℕ). g.record_bytes ++ l) (append_assoc (word_bytes 4 i) g.inputs tail) in
      let p = put-place L.refused_size L.max_refused rs w k (rw (length-map t.refused refused_bytes) h) g.record_bytes (g.inputs ++ tail) 4 g.signers s L.signers_at r (S.get_or-map refused_bytes t.refused k no_refused [] h ∙ parts g.signers) in
      ap (λ (y : ℕ). put_word 4 y s (counts ++ (ft ++ rt))) e
      ∙ put_second 4 (length ft + (k * L.refused_size + L.signers_at)) s counts (ft ++ rt)
      ∙ ap (λ (l : List ℕ). counts ++ l) (put_second 4 (k * L.refused_size + L.signers_at) s ft rt
      ∙ ap (λ (l : List ℕ). ft ++ l) (p ∙ ap (λ (y : List ℕ). table_of L.refused_size L.max_refused (set rs k y)) (sym (parts s)) ∙ ap (table_of L.refused_size L.max_refused) (sym (S.map-set refused_bytes t.refused k (resigned s x)))))
      ∙ ap (λ (n : ℕ). length t.fixes ∷ (n ∷ (ft ++ table_of L.refused_size L.max_refused (map refused_bytes (set t.refused k (resigned s x)))))) (sym (length-set t.refused k (resigned s x)))
