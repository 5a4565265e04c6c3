-- What a room lacks of another is written as a register, and read as one.
use Rattle.std.proofs.Common.{◌≡◌, ◌∙◌, ap, refl, ℕ, true, false, List, [], ◌++◌, length, drop, ltb, arith}
use Rattle.std.proofs.Math.ListN.{drop_of_length-le}
use borrow.Author.Tests.{le-ltb}
use mathlib.Core.List.{append-nil}
use Rattle.octets.specs.Bytes.{Bytes}
use Rattle.errors.specs.After.{After, after}
use Rattle.register.specs.Layout.{register_size}
use Rattle.register.specs.Register.{Register}
use Rattle.register.specs.Memory.{well_formed, decode, encode}
use Rattle.register.proofs.Valid.{Valid, decode-encode, formed-encode}
use Rattle.register_join.specs.Lacks.{lacking, lacks_memory}
use Rattle.register_join.proofs.JoinBytes.{valid, loosely}
use Rattle.register_join.proofs.Lacked.{lacking-valid}

module _ (n m : List ℕ) (b : Bytes n) (a : Bytes m) (g : well_formed n ≡ true) (h : well_formed m ≡ true) where
  abbrev lacked : Register
  lacked = lacking (decode n) (decode m)

  lacked-valid : Valid lacked
  lacked-valid = lacking-valid (decode n) (decode m) (valid n b g) (loosely m a h)

  module _ (out : List ℕ) (e : length out ≡ register_size) (r : ℕ) (left : List ℕ) (p : after r left ≡ lacks_memory n m out) where
    written : left ≡ encode lacked
    unfolding lacks_memory
    written =
        let room : ltb (length out) register_size ≡ false = le-ltb (length out) register_size (omega arith) in
        let done : lacks_memory n m out ≡ after 0 (encode lacked ++ drop register_size out) = rw (h, g, room) refl in
        let end : drop register_size out ≡ [] = drop_of_length-le out {i = register_size} (omega arith) in
        ap (λ (z : After (List ℕ)). z.left) (p ∙ done) ∙ ap (λ (t : List ℕ). encode lacked ++ t) end ∙ append-nil (encode lacked)

    pub written-formed : well_formed left ≡ true
    written-formed = rw written (formed-encode lacked lacked-valid)

    pub written-is : decode left ≡ lacked
    written-is = ap decode written ∙ decode-encode lacked lacked-valid
