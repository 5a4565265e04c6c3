use Rattle.std.proofs.Common.{◌≡◌, rules}
use Rattle.errors.specs.After.{after}
use Rattle.register.specs.Register.{take_report}
use Rattle.register.specs.Memory.{decode}
use Rattle.register.proofs.Register.report.Goals as goal

pub returns-then-is_convicted-clause-reported : goal.returns-then-is_convicted-clause-reported
returns-then-is_convicted-clause-reported c =
    let held = decode c.args.self.now.memory.now in
    let refused : after 4 held ≡ take_report c.args.engine c.args.r.now held = search rules in
    refused
