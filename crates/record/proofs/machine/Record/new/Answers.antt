use Rattle.std.proofs.Common.{ap, ◌∙◌, arith}
use Rattle.record.specs.Queue.{items}
use Rattle.record.specs.View.{view}
use Rattle.record.proofs.Views.{made_contents, made_view}
use Rattle.record.proofs.machine.Record.new.Goals as goal

pub returns : goal.returns
returns c =
    let e = made_contents c.args.words.now (items c.args.keys) (items c.args.tray) c.args.flags _ _ _ _ _ _
    c.from-mode.ensures c.from-conditions.ensures c.pair_of-running.ensures c.pair_of-parked.ensures c.registers_of.ensures c.control_of.ensures in
    record { after = e; view = ap view e ∙ made_view c.args.words.now _ _ c.args.flags (omega arith) }
