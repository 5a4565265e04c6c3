-- When no record says a value: exactly where the bytes that say it are none.
use Rattle.std.proofs.Common.{◌≡◌, ◌∙◌, sym, ap, refl, ℕ, zero, suc, ◌*◌, ◌-◌, ◌^◌, ◌<◌, ◌≤◌, ◌++◌, Bool, true, false, Option, Some, None, List, [], ◌∷◌, length, replicate, cond, arith, ℤ}
use Rattle.lists.proofs.Bools.{by}
use Rattle.octets.specs.Bytes.{Bytes}
use Rattle.octets.specs.Words.{word_bytes}
use Rattle.octets.proofs.Numbers.{bytes-append, bytes-word-bytes}
use Rattle.errors.specs.After.{After, after}
use Rattle.record.specs.Layout.{long_message, max_tags, max_models}
use Rattle.record.specs.Formed.{well_formed}
use Rattle.record.specs.Value.{Value, value_of}
use Rattle.record.specs.Fits.{Fits}
use Rattle.record.specs.Encoded.{unsigned_of, pad, words, height_bytes, message_bytes, place_bytes, cited_bytes, bytes_of, record_of}
use Rattle.record.proofs.Written.{value-of-bytes}
use Rattle.record_values.specs.Written.{record_or_found, write_record}
use Rattle.record_values.specs.Claims.{RefusedExactlyWhere}
use Rattle.record_values.proofs.ReadBack.{records-are-written}
use Rattle.record_values.proofs.Room.{no-room}

-- ---- the bytes that say a value are bytes

zeros-bytes : (n : ℕ) → Bytes (replicate n 0)
zeros-bytes zero = tt
zeros-bytes (suc n) = (omega arith, zeros-bytes n)

words-bytes : (w : ℕ) (xs : List ℕ) → Bytes (words w xs)
words-bytes w [] = tt
words-bytes w (x ∷ xs) = bytes-append (word_bytes w x) (words w xs) (bytes-word-bytes w x) (words-bytes w xs)

height-bytes : (h : Option ℤ) → Bytes (height_bytes h)
height-bytes None = zeros-bytes 5
height-bytes (Some z) = (omega arith, bytes-word-bytes 4 _)

module _ (v : Value) (f : Fits v) (m : Bytes v.message) where
  of-bytes : Bytes (bytes_of v)
  unfolding bytes_of
  of-bytes =
      let few = f.message in
      let tags = f.tags in
      let models = f.models in
      let lat = unsigned_of v.latitude in
      let lon = unsigned_of v.longitude in
      let height = height_bytes v.height in
      let tag_words = words 8 (pad max_tags v.tags) in
      let model_words = words 1 (pad max_models v.models) in
      let covariance = words 8 v.covariance in
      let place = place_bytes v.time lat lon height in
      let tagged : List ℕ = length v.tags ∷ (word_bytes 4 v.used ++ tag_words) in
      let cited = cited_bytes (length v.models) (pad max_models v.models) v.spec covariance in
      let zeros = replicate (long_message - length v.message) 0 in
      let placed : Bytes place =
      bytes-append (word_bytes 8 v.time) (word_bytes 4 lat ++ (word_bytes 4 lon ++ height)) (bytes-word-bytes 8 v.time)
      (bytes-append (word_bytes 4 lat) (word_bytes 4 lon ++ height) (bytes-word-bytes 4 lat)
      (bytes-append (word_bytes 4 lon) height (bytes-word-bytes 4 lon) (height-bytes v.height))) in
      let said : Bytes (message_bytes v.message) = (omega arith, bytes-append v.message zeros m (zeros-bytes (long_message - length v.message))) in
      let masked : Bytes tagged = (omega arith, bytes-append (word_bytes 4 v.used) tag_words (bytes-word-bytes 4 v.used) (words-bytes 8 (pad max_tags v.tags))) in
      let ended : Bytes cited = (
        omega arith,
        bytes-append model_words (word_bytes 2 v.spec ++ covariance) (words-bytes 1 (pad max_models v.models))
            (bytes-append (word_bytes 2 v.spec) covariance (bytes-word-bytes 2 v.spec) (words-bytes 8 v.covariance)),
      ) in
      bytes-append place ((message_bytes v.message ++ tagged) ++ cited) placed
      (bytes-append (message_bytes v.message ++ tagged) cited (bytes-append (message_bytes v.message) tagged said masked) ended)

  module _ (found : List ℕ) where
    none-says : (write_record v found).answer ≡ 3 → (r : List ℕ) → Bytes r → well_formed r ≡ true → value_of r ≡ v → ⊥
    none-says e r b w s =
        let done : (write_record v found).answer ≡ 0 = sym (ap (λ (u : Value). (write_record u found).answer) s) ∙ ap (λ (a : After (List ℕ)). a.answer) (records-are-written r found b w) in
        omega arith

    refused : ((r : List ℕ) → Bytes r → well_formed r ≡ true → value_of r ≡ v → ⊥) → (write_record v found).answer ≡ 3
    refused n = by (well_formed (bytes_of v)) (λ h. absurd (n (bytes_of v) of-bytes h (value-of-bytes v f))) (λ h. rw h refl)

left : (o : Option (List ℕ)) (found : List ℕ) → (record_or_found o found).answer ≡ 3 → (record_or_found o found).left ≡ found
left (Some r) found e = absurd (omega arith)
left None found e = refl

pub refused-exactly-where : RefusedExactlyWhere
refused-exactly-where =
    record {
      exactly = λ v found f m. (none-says v f m found, refused v f m found);
      no_room = λ v found six h. ap (λ (o : Option (List ℕ)). record_or_found o found) (no-room v six h);
      stays = λ v found. left (record_of v) found;
    }
