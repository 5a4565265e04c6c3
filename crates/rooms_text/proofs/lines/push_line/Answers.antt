use Rattle.std.proofs.Common.{take, ap, ◌++◌, List, ℕ}
use Rattle.rooms_text.proofs.Heap.{added, front-put}
use Rattle.rooms_text.proofs.lines.push_line.Goals as goal

pub returns : goal.returns
returns g c =
    let put = c.write-n.ensures c.requires in
    let front = front-put _ _ _ _ put c.requires in
    added _ c.args.out.now.items c.extend_from_slice.new.self.items (take c.write-n.result c.write-n.new.out) _ c.extend_from_slice.ensures.items (ap (λ (s : List ℕ). c.args.out.now.items ++ s) front)
