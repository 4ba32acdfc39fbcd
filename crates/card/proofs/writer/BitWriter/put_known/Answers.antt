use Rattle.std.proofs.Common.{rules}
use Rattle.card.proofs.Runs.{put_moved}
use Rattle.card.proofs.writer.BitWriter.put_known.Goals as goal

pub returns : goal.returns
returns c = search (rules, put_moved)
