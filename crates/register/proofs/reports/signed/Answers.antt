use Rattle.std.proofs.Common.{◌≡◌, ◌≤◌, List, ℕ, ◌++◌, length, drop, refl, arith, append-nil, replicate, length-append, length-drop, drop_of_length-le, take_at}
use lib.ListN.{length-replicate}
use Rattle.octets.specs.Words.{word_bytes}
use Rattle.octets.specs.Writes.{put_word}
use Rattle.record.specs.Layout.{record_size}
use Rattle.signed_records.specs.Signed.{place_size}
use Rattle.register.proofs.reports.signed.Goals as goal

made : (r : List ℕ) (x : ℕ) → length r ≡ record_size → put_word 4 record_size x (r ++ drop (length r) (replicate place_size 0)) ≡ r ++ word_bytes 4 x
made r x l =
    let d : List ℕ = drop (length r) (replicate place_size 0) in
    let k : length (r ++ d) ≤ place_size = rw (length-append, length-drop, length-replicate, l) (omega arith) in
    rw (take_at r d record_size l, drop_of_length-le (r ++ d) k, append-nil) refl

pub returns : goal.returns
returns c = rw (c.put_u32.ensures, c.mask.ensures, c.copy.ensures.to_after) (made c.args.r.bytes.now c.args.signers c.args.r.size)
