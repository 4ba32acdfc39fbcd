use Rattle.std.proofs.Common.{ap, ◌∙◌, rules}
use Rattle.record.specs.Contents.{contents}
use Rattle.record.specs.View.{words}
use Rattle.record.proofs.Views.{switched_words}
use Rattle.record.proofs.machine.Record.set_system.Goals as goal

pub returns-then-self-on : goal.returns-then-self-on
returns-then-self-on c =
    record { after = search rules; words = ap words c.switch_mode.ensures ∙ switched_words (contents c.args.self.now) c.args.self.now.sized }
