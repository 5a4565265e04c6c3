-- Laws of registers of any size: what is lacking may be joined late, it is the least that makes the join, and convictions make no room.
use Rattle.std.proofs.Common.{ℕ, ◌≡◌, refl, sym, ap, ◌∙◌, true, false, not, ◌&&◌, List, arith}
use Rattle.octets.specs.Masks.{bit}
use Rattle.octets.proofs.Lookup.{bit-zero}
use Rattle.tables.specs.Places.{holds, lookup}
use Rattle.octets.specs.Words.{word}
use Rattle.models.specs.Summary.{summary_size, engine_of}
use Rattle.register.specs.Register.{Register}
use Rattle.register.specs.Claims.{signers_of}
use Rattle.register.specs.Memory.{encode}
use Rattle.register_join.specs.Join.{joined, join_memory}
use Rattle.register_join.specs.Lacks.{lacking, only_convictions}
use Rattle.register_join.specs.Claims.{lacked}
use Rattle.register.proofs.Valid.{Valid, decode-encode}
use Rattle.register_join.proofs.JoinLists.{join-encoded}
use Rattle.register_join.proofs.Loose.{Loose, loose, registers-same, none-convicted, summary-passes}
use Rattle.register_join.proofs.Joined.{joined-loose, joined-convicted, joined-holds, joined-signers}
use Rattle.register_join.proofs.JoinLaws.{associative}
use Rattle.register_join.proofs.Lacked.{lacking-valid, lacking-loose, lacking-convicted, lacking-holds, lacking-signers, lacking-joined}

-- what s lacked of t, joined by an x that has all of s, is t joined by x: whatever has room
module _ (t s x : Register) (b : Loose t) (a : Loose s) (d : Loose x) (has : joined s x ≡ x) where
  pub late : joined (lacking t s) x ≡ joined t x
  late =
      let l : Loose (lacking t s) = lacking-loose s a t b in
      ap (λ (r : Register). joined (lacking t s) r) (sym has)
      ∙ associative (lacking t s) s x l a d
      ∙ ap (λ (r : Register). joined r x) (lacking-joined s a t b)
      ∙ sym (associative t s x b a d)
      ∙ ap (λ (r : Register). joined t r) has

-- the same of bytes
module _ (t s x : Register) (b : Valid t) (a : Valid s) (d : Valid x) (has : joined s x ≡ x) where
  pub late-encoded : join_memory (lacked (encode t) (encode s)) (encode x) ≡ join_memory (encode t) (encode x)
  late-encoded =
      let v = lacking-valid t s b (loose s a) in
      rw (decode-encode t b, decode-encode s a)
      (join-encoded (lacking t s) x v d ∙ rw (late t s x (loose t b) (loose s a) (loose x d) has) refl ∙ sym (join-encoded t x b d))

-- the convictions of t alone, taken first, leave the join of t as it is: they make no room for t
module _ (t s : Register) (b : Loose t) (a : Loose s) (o : Loose (only_convictions t)) where
  only-signs : (e : ℕ) (r : List ℕ) → bit (signers_of r (only_convictions t)) e ≡ false
  unfolding lookup word
  only-signs e r = bit-zero e

  only-holds : (p : List ℕ) → holds summary_size p (only_convictions t).summaries ≡ false
  unfolding holds
  only-holds p = refl

  taken-in : joined t (only_convictions t) ≡ t
  taken-in =
      registers-same (joined t (only_convictions t)) t (joined-loose t (only_convictions t) b o) b
      (λ e. grind (arith, joined-convicted t (only_convictions t) b o e))
      (λ p. grind (arith, joined-holds t (only_convictions t) b o p, only-holds p, λ (h : holds summary_size p t.summaries ≡ true). summary-passes t b p h))
      (λ e r. grind (arith, joined-signers t (only_convictions t) b o e r, only-signs e r, none-convicted t b r e))

  pub no-room : joined t (joined (only_convictions t) s) ≡ joined t s
  no-room = associative t (only_convictions t) s b o a ∙ ap (λ (r : Register). joined r s) taken-in

-- whatever k leaves the same join has all that is lacking
module _ (t s k : Register) (b : Loose t) (a : Loose s) (d : Loose k) (same : joined k s ≡ joined t s) where
  pub least : joined (lacking t s) k ≡ k
  least =
      let l : Loose (lacking t s) = lacking-loose s a t b in
      let has : (p : List ℕ) → holds summary_size p (lacking t s).summaries ≡ (holds summary_size p t.summaries && (not (holds summary_size p s.summaries) && not (bit s.convicted (engine_of p)))) =
      λ p. lacking-holds s a t b p in
      registers-same (joined (lacking t s) k) k (joined-loose (lacking t s) k l d) d
      (λ e. grind (arith, joined-convicted (lacking t s) k l d e, lacking-convicted s a t b e, joined-convicted k s d a e, joined-convicted t s b a e, ap (λ (r : Register). bit r.convicted e) same))
      (λ p. grind (
        arith,
        joined-holds (lacking t s) k l d p,
        has p,
        lacking-convicted s a t b (engine_of p),
        joined-holds k s d a p,
        joined-holds t s b a p,
        joined-convicted k s d a (engine_of p),
        joined-convicted t s b a (engine_of p),
        ap (λ (r : Register). holds summary_size p r.summaries) same,
        ap (λ (r : Register). bit r.convicted (engine_of p)) same,
        (λ (h : holds summary_size p t.summaries ≡ true). summary-passes t b p h),
        (λ (h : holds summary_size p k.summaries ≡ true). summary-passes k d p h),
      ))
      (λ e r. grind (arith, joined-signers (lacking t s) k l d e r, lacking-signers s a t b e r, lacking-convicted s a t b e, joined-signers k s d a e r, joined-signers t s b a e r, joined-convicted k s d a e, joined-convicted t s b a e, ap (λ (x : Register). bit (signers_of r x) e) same, ap (λ (x : Register). bit x.convicted e) same, none-convicted t b r e, none-convicted k d r e))
