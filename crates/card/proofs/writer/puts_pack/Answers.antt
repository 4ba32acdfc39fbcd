use Rattle.card.proofs.Packs.{puts_pack}
use Rattle.card.proofs.writer.puts_pack.Goals as goal

pub returns : goal.returns
returns c = puts_pack
