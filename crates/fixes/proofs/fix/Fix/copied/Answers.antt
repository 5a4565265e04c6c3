use Rattle.fixes.proofs.fix.Fix.copied.Goals as goal

pub returns : goal.returns
returns c = c.self.view_is
