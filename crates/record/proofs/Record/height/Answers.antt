use Rattle.std.proofs.Common.{◌≡◌, Some, List, ℕ, ap, rules}
use lib.IntN.{ℤ}
use borrow.Author.Tests.{eq-eqb}
use Rattle.octets.specs.Words.{signed_at}
use Rattle.record.specs.Layout.{height_flag_at, height_at}
use Rattle.record.specs.Fields as F
use Rattle.record.proofs.Record.height.Goals as goal

-- where the flag is set, there is a height
flagged : (r : List ℕ) (z : ℤ) → F.byte_at height_flag_at r ≡ 1 → z ≡ signed_at height_at r → Some z ≡ F.height r
flagged r z h e = rw (eq-eqb (F.byte_at height_flag_at r) 1 h) (ap Some e)

pub returns-then-self-eq1 : goal.returns-then-self-eq1
returns-then-self-eq1 c =
    let flag : F.byte_at height_flag_at c.args.self.bytes.now ≡ 1 = c.if-self-eq1.true in
    flagged c.args.self.bytes.now _ flag (search rules)
