use Rattle.std.proofs.Common.{ap, ◌∙◌}
use Rattle.record.specs.Contents.{contents}
use Rattle.record.specs.View.{view}
use Rattle.record.proofs.Views.{flags_after, flags_set}
use Rattle.record.proofs.machine.Record.set_flags.Goals as goal

pub returns : goal.returns
returns c =
    let old = contents c.args.self.now in
    let e = flags_after old (contents c.set_system.new.self) c.args.word _ _ c.from-self.ensures c.from-mode.ensures c.set_system.ensures.after in
    record { after = e; view = ap view e ∙ flags_set old c.args.word c.args.self.now.sized }
