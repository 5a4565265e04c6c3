use Rattle.std.proofs.Common.{◌≡◌, ◌∙◌, ap, ℕ, List, ◌++◌, flat_map, append_assoc, refl, OnOk}
use Rattle.rooms_text.specs.Lines.{summary_line}
use Rattle.rooms_text.specs.Lacking.{conviction_lines, report_lines, lacking_text}
use Rattle.rooms_text.proofs.Heap.{behind}
use Rattle.rooms_text.proofs.lacking.push_lacking.Goals as goal

pub returns : goal.returns
unfolding lacking_text
returns c =
    let out = c.args.out.now.items in
    let s = c.args.lacking.now in
    let room = c.args.room in
    let convictions = conviction_lines room s.convicted in
    let summaries = flat_map (summary_line room) s.summaries in
    let first : c.push_convictions.new.out.items ≡ out ++ convictions = c.in_ok-push_convictions.ensures ∙ ap (λ (e : ℕ). out ++ conviction_lines room e) c.convicted.ensures in
    let second : c.push_summaries.new.out.items ≡ c.push_convictions.new.out.items ++ summaries =
    c.in_ok-push_summaries.ensures ∙ ap (λ (ps : List (List ℕ)). c.push_convictions.new.out.items ++ flat_map (summary_line room) ps) c.summaries.ensures in
    let both : c.push_summaries.new.out.items ≡ out ++ (convictions ++ summaries) = second ∙ ap (λ (t : List ℕ). t ++ summaries) first ∙ append_assoc out convictions summaries in
    let reports : OnOk c.push_reports.result (c.push_reports.new.out.items ≡ c.push_summaries.new.out.items ++ flat_map (report_lines room) s.records) =
    rw c.records.ensures.records at c.push_reports.ensures in
    behind c.push_reports.result out c.push_summaries.new.out.items c.push_reports.new.out.items (convictions ++ summaries) (flat_map (report_lines room) s.records) _ both refl reports
