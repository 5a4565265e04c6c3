-- What is said of more than a record has room for is said by no record: its bytes are more than those of a record.
use Rattle.std.proofs.lemmas.Grind.{common_steps}
use Rattle.std.proofs.Common.{◌≡◌, refl, ℕ, ◌+◌, ◌*◌, ◌≤◌, Bool, false, Some, None, length-append, List, [], ◌∷◌, length, eqb, cond, arith}
use Rattle.lists.proofs.Bools.{by}
use Rattle.octets.proofs.Numbers.{length-word-bytes}
use Rattle.record.specs.Layout.{record_size, long_message, max_tags, max_models}
use Rattle.record.specs.Value.{Value}
use Rattle.record.specs.Formed.{well_formed}
use Rattle.record.specs.Encoded.{pad, words, bytes_of, record_of}
use Rattle.record.proofs.Encoded.{height-length}
use Rattle.record_values.specs.Written.{has_room}

length-words : (w : ℕ) (xs : List ℕ) → length (words w xs) ≡ w * length xs
length-words w [] = omega arith
length-words w (x ∷ xs) = grind (arith, common_steps, length-words w xs, length-word-bytes w x)

-- padded, a list is as long as its room, and longer where it is longer
pad-fills : (n : ℕ) (l : List ℕ) → n ≤ length (pad n l)
pad-fills n l = grind (arith, common_steps)

pad-holds : (n : ℕ) (l : List ℕ) → length l ≤ length (pad n l)
pad-holds n l = grind (arith, common_steps)

module _ (v : Value) (six : length v.covariance ≡ 6) where
  size : length (bytes_of v) ≡ 21 + (1 + length (pad long_message v.message) + (5 + 8 * length (pad max_tags v.tags))) + (1 + length (pad max_models v.models) + 50)
  unfolding bytes_of
  size =
      simp (length-append, length-word-bytes, length-words, height-length v.height, six) (omega arith)

  too-long : has_room v ≡ false → eqb (length (bytes_of v)) record_size ≡ false
  too-long h =
      grind (arith, size, h, pad-holds long_message v.message, pad-holds max_tags v.tags, pad-holds max_models v.models, pad-fills long_message v.message, pad-fills max_tags v.tags, pad-fills max_models v.models)

  pub no-room : has_room v ≡ false → record_of v ≡ None
  unfolding well_formed
  no-room h = rw (too-long h) refl

-- what is not had is where a test failed
pub none-had : {A : Type 0} (b : Bool) (x : A) → cond b (Some x) None ≡ None → b ≡ false
none-had b x e = by b (λ h. absurd (grind (arith, e, h))) (λ h. h)
