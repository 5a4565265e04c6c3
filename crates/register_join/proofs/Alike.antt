-- Rooms of which the same remains hold the same bytes but for the convicted engines, whoever convicted whom.
use Rattle.std.proofs.Common.{ℕ, ◌≡◌, sym, ap, ap₂, ◌∙◌, List, ◌++◌, length, drop, drop_at}
use Rattle.octets.specs.Masks.{bit}
use Rattle.octets.specs.Words.{word_bytes}
use Rattle.octets.proofs.Lookup.{bit-ext}
use Rattle.octets.proofs.Numbers.{length-word-bytes}
use Rattle.tables.specs.Places.{holds, table_of}
use Rattle.models.specs.Summary.{summary_size}
use Rattle.models.specs.Limits.{max_summaries}
use Rattle.signed_records.specs.Signed.{place_size}
use Rattle.register.specs.Layout.{max_records, summary_count_at}
use Rattle.register.specs.Register.{Register}
use Rattle.register.specs.Memory.{encode, decode}
use Rattle.register.specs.Calls.{Call}
use Rattle.register.specs.Claims.{HoldsExactly, SameRemains, signers_of}
use Rattle.register.proofs.Valid.{decode-encode}
use Rattle.register_join.specs.Claims.{rooms, known, ButConvicted}
use Rattle.register_join.proofs.Loose.{loose, valid-fits, summaries-same, records-same}
use Rattle.register_join.proofs.JoinLists.{of-sum, exactly}
use Rattle.register_join.proofs.Exchanging.{Stands, stands}

behind : (s : Register) → drop 4 (encode s) ≡ word_bytes 2 (length s.summaries) ++ (word_bytes 2 (length s.records) ++ (table_of summary_size max_summaries s.summaries ++ table_of place_size max_records s.records))
unfolding encode
behind s = drop_at (word_bytes 4 s.convicted) (word_bytes 2 (length s.summaries) ++ (word_bytes 2 (length s.records) ++ (table_of summary_size max_summaries s.summaries ++ table_of place_size max_records s.records))) 4 (length-word-bytes 4 s.convicted)

module _ (cs ds : List Call) (m n : List ℕ) (a : Stands cs m) (b : Stands ds n) (q : SameRemains cs ds) where
  abbrev s : Register
  s = a.register

  abbrev t : Register
  t = b.register

  of_s : HoldsExactly cs (encode s)
  of_s = exactly cs s (of-sum cs s a.sum) (valid-fits s a.sum.valid)

  of_t : HoldsExactly ds (encode t)
  of_t = exactly ds t (of-sum ds t b.sum) (valid-fits t b.sum.valid)

  back_s : decode (encode s) ≡ s
  back_s = decode-encode s a.sum.valid

  back_t : decode (encode t) ≡ t
  back_t = decode-encode t b.sum.valid

  pub summaries-alike : s.summaries ≡ t.summaries
  summaries-alike =
      summaries-same s t (loose s a.sum.valid) (loose t b.sum.valid)
      (λ p. ap (λ (r : Register). holds summary_size p r.summaries) (sym back_s) ∙ of_s.summaries p ∙ q.summaries p ∙ sym (of_t.summaries p) ∙ ap (λ (r : Register). holds summary_size p r.summaries) back_t)

  pub records-alike : s.records ≡ t.records
  records-alike =
      records-same s t (loose s a.sum.valid) (loose t b.sum.valid)
      (λ r. bit-ext (signers_of r s) (signers_of r t)
      (λ e. ap (λ (x : Register). bit (signers_of r x) e) (sym back_s) ∙ of_s.signers e r ∙ q.reported e r ∙ sym (of_t.signers e r) ∙ ap (λ (x : Register). bit (signers_of r x) e) back_t))

  pub rest-alike : drop summary_count_at m ≡ drop summary_count_at n
  rest-alike =
      ap (λ (x : List ℕ). drop 4 x) a.bytes
      ∙ behind s
      ∙ ap₂ (λ (x y : List (List ℕ)). word_bytes 2 (length x) ++ (word_bytes 2 (length y) ++ (table_of summary_size max_summaries x ++ table_of place_size max_records y))) summaries-alike records-alike
      ∙ sym (behind t)
      ∙ ap (λ (x : List ℕ). drop 4 x) (sym b.bytes)

pub but-convicted : ButConvicted
but-convicted es fs i j q = rest-alike (known es i) (known fs j) (rooms es i) (rooms fs j) (stands es 0 i) (stands fs 0 j) q
