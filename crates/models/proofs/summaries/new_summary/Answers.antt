use Rattle.std.proofs.Common.{ℕ, ◌/◌, ◌%◌, ◌≡◌, ap, ◌∙◌, List, ◌∷◌, ◌++◌, append-nil, length, take, drop, set, replicate}
use Rattle.octets.specs.Words.{word_bytes}
use Rattle.octets.specs.Writes.{put_word}
use Rattle.models.specs.Summary.{summary_of, inputs_size, summary_size, summary_inputs_at}
use Rattle.models.proofs.summaries.new_summary.Goals as goal

made : (e model spec : ℕ) (inputs p y : List ℕ) → p ≡ put_word 2 2 spec (set (set (replicate summary_size 0) 0 e) 1 model)
    → y ≡ inputs ++ drop (length inputs) (take inputs_size (drop summary_inputs_at p)) → length inputs ≡ inputs_size → take summary_inputs_at p ++ (y ++ drop inputs_size (drop summary_inputs_at p)) ≡ summary_of e model spec inputs
unfolding word_bytes
made e model spec inputs p y u v l =
    let u' : p ≡ e ∷ model ∷ (spec % 256 ∷ (spec / 256 % 256 ∷ replicate inputs_size 0)) = u in
    let v' : y ≡ inputs = v ∙ rw (l, u') (append-nil inputs) in
    rw (u', v') (ap (λ (t : List ℕ). e ∷ model ∷ (spec % 256 ∷ (spec / 256 % 256 ∷ t))) (append-nil inputs))

pub returns : goal.returns
returns c =
    made c.args.engine c.args.model c.args.spec c.args.inputs.now c.put_u16.new.s c.copy.new.to (rw (← c.number.ensures.number) c.put_u16.ensures) c.copy.ensures.to_after c.told-inputs
