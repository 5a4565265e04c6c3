-- A summary is all key.
use Rattle.std.proofs.Common.{ℕ, ◌+◌, ◌*◌, sym, ap, ◌∙◌, List, ◌++◌, arith, take, drop, take_all}
use Rattle.models.specs.Summary.{summary_size}
use Rattle.register_join.proofs.summaries.SummariesKindSUMMARY_SIZESUMMARY_SIZE.put.Goals as goal

pub returns-clause-bytes : goal.returns-clause-bytes
returns-clause-bytes c =
    let t = c.args.t.now in
    c.put_summary.ensures.bytes
    ∙ ap (λ (p : List ℕ). take (c.args.n * summary_size) t ++ (p ++ drop (c.args.n * summary_size + summary_size) t)) (sym (take_all summary_size c.args.place.now (let l = c.put_summary.ensures.size in omega arith)))
