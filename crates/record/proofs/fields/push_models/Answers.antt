use Rattle.std.proofs.Common.{◌∙◌, ap, List, ℕ, [], ◌∷◌, ◌++◌, ◌-◌, length, replicate, rules}
use Rattle.octets.specs.Bytes.{Bytes}
use Rattle.octets.proofs.Numbers.{all-bytes}
use Rattle.text.specs.Texts.{append}
use Rattle.text.proofs.Appending.{append-then}
use Rattle.record.proofs.Encoded.{zeros-behind, words-of-pad}
use Rattle.record.proofs.fields.push_models.Goals as goal

pub returns-clause-text : goal.returns-clause-text
returns-clause-text c =
    let b : List ℕ = c.as_slice-models.result.now in
    let bytes : Bytes b = all-bytes b (λ i. search rules) in
    rw (← c.as_slice-models.ensures.value)
    (rw (words-of-pad 4 b bytes)
    (append-then _ _ _ (length b ∷ []) (b ++ replicate (4 - length b) 0) c.push_byte.ensures
    (append-then _ _ _ b (replicate (4 - length b) 0) c.push_bytes.ensures (c.push_bytes-2.ensures ∙ ap (append c.push_bytes.new.self) (zeros-behind 4 (length b))))))
