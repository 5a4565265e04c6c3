-- What rooms may do with what they lack: join it late, and swap it. And every register is what its own calls leave.
use Rattle.std.proofs.Common.{ℕ, ◌≡◌, refl, sym, ap, ◌∙◌, true, List, zero, suc, replicate, arith}
use Rattle.octets.specs.Bytes.{Bytes}
use Rattle.octets.proofs.Lookup.{bit-zero}
use Rattle.errors.specs.After.{After}
use Rattle.register.specs.Layout.{register_size}
use Rattle.register.specs.Register.{Register}
use Rattle.register.specs.Memory.{well_formed, decode, fresh}
use Rattle.register.specs.Calls.{runs, none_full}
use Rattle.register.proofs.Valid.{decode-encode, formed-encode}
use Rattle.register.proofs.History.{start}
use Rattle.register_join.specs.Join.{joined}
use Rattle.register_join.specs.Lacks.{calls_of, lacking}
use Rattle.register_join.specs.Claims.{lacked, Swapped, LateAsWell, ItsCalls, RegisterIsItsCalls}
use Rattle.register_join.proofs.Loose.{with-room, registers-same}
use Rattle.register_join.proofs.Joined.{joined-loose}
use Rattle.register_join.proofs.JoinLaws.{empty, nothing-held, nothing-signed}
use Rattle.register_join.proofs.JoinBytes.{join-of, taken, valid, loosely, either-way, nothing-new, fresh-formed, fresh-decoded}
use Rattle.register_join.proofs.Lacked.{lacking-loose, lacking-convicted, lacking-holds, lacking-signers, lacking-valid}
use Rattle.register_join.proofs.Packets.{late}
use Rattle.register_join.proofs.Delivered.{lacks}

-- ---- late

pub late-as-well : LateAsWell
late-as-well n m k b a d g h z =
    let u = taken m k (ap (λ (x : After (List ℕ)). x.answer) z) in
    let v = lacking-valid (decode n) (decode m) (valid n b g) (loosely m a h) in
    let y = with-room (joined (decode m) (decode k)) (joined-loose (decode m) (decode k) (loosely m a h) (loosely k d u.second)) u.room in
    let has : joined (decode m) (decode k) ≡ decode k =
    sym (decode-encode (joined (decode m) (decode k)) y) ∙ ap decode (ap (λ (x : After (List ℕ)). x.left) (sym u.is ∙ z)) in
    join-of (lacked n m) k (formed-encode (lacking (decode n) (decode m)) v) u.second
    ∙ rw (decode-encode (lacking (decode n) (decode m)) v, late (decode n) (decode m) (decode k) (loosely n b g) (loosely m a h) (loosely k d u.second) has) refl
    ∙ sym (join-of n k g u.second)

-- ---- swapped

pub swapped : Swapped
swapped n m b a g h =
    let e = (lacks n m b a g h).joined in
    let f = (lacks m n a b h g).joined in
    rw (e, f) (either-way n m b a)

-- ---- its own calls

zeros : (n : ℕ) → Bytes (replicate n 0)
zeros zero = tt
zeros (suc n) = (omega arith, zeros n)

fresh-bytes : Bytes fresh
fresh-bytes = zeros register_size

module _ (m : List ℕ) (b : Bytes m) (h : well_formed m ≡ true) where
  abbrev s : Register
  s = decode m

  all-lacking : lacking s start ≡ s
  all-lacking =
      let v = loosely m b h in
      let o = empty s v in
      registers-same (lacking s start) s (lacking-loose start o s v) v
      (λ e. grind (arith, lacking-convicted start o s v e, bit-zero e))
      (λ p. grind (arith, lacking-holds start o s v p, nothing-held s v p, bit-zero))
      (λ e r. grind (arith, lacking-signers start o s v e r, nothing-signed s v e r, bit-zero e))

  its-calls : ItsCalls m
  its-calls =
      let l = lacks m fresh b fresh-bytes h fresh-formed in
      let o = (nothing-new m b h).to_fresh in
      let z = ap (λ (x : After (List ℕ)). x.answer) o in
      let e : lacking (decode m) (decode fresh) ≡ s = ap (lacking s) fresh-decoded ∙ all-lacking in
      record {
        not_full = sym (ap (λ (x : Register). none_full fresh (calls_of x)) e) ∙ l.not_full z;
        called = sym (ap (λ (x : Register). runs fresh (calls_of x)) e) ∙ l.called z ∙ ap (λ (x : After (List ℕ)). x.left) o;
      }

pub register-is-its-calls : RegisterIsItsCalls
register-is-its-calls = its-calls
