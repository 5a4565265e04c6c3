use Rattle.std.proofs.Common.{◌∙◌, ap, List, ℕ, [], ◌∷◌, ◌++◌, ◌-◌, length, replicate, sym}
use Rattle.std.proofs.lemmas.Grind.{flat_map-append}
use Rattle.octets.specs.Words.{word_bytes}
use Rattle.text.specs.Texts.{append}
use Rattle.text.proofs.Appending.{append-then}
use Rattle.record.specs.Layout.{used_size, max_tags}
use Rattle.record.specs.Encoded.{words}
use Rattle.octets.proofs.Numbers.{bytes-of-u32}
use Rattle.record.proofs.Encoded.{zeros-behind}
use Rattle.record.proofs.fields.push_tags.Goals as goal

pub returns-clause-text : goal.returns-clause-text
returns-clause-text c =
    let b : List ℕ = c.as_slice-tags.result.now in
    let z : List ℕ = replicate (max_tags - length b) 0 in
    rw (← c.as_slice-tags.ensures.value)
    (append-then _ _ _ (length b ∷ []) (word_bytes used_size c.args.used ++ words 8 (b ++ z)) c.push_byte.ensures
    (append-then _ _ _ (word_bytes used_size c.args.used) (words 8 (b ++ z)) (c.push_bytes.ensures ∙ ap (append c.push_byte.new.self) (c.to_le_bytes.ensures ∙ bytes-of-u32 _))
    (append-then _ _ _ (words 8 b) (words 8 z) c.push_words.ensures (c.push_words-2.ensures ∙ ap (λ (l : List ℕ). append c.push_words.new.out (words 8 l)) (zeros-behind max_tags (length b)))
    ∙ ap (append c.push_bytes.new.self) (sym (flat_map-append (word_bytes 8) b z)))))
