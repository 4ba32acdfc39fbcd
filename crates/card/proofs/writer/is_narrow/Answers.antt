use Rattle.std.proofs.Common.{arith, pow_pos}
use Rattle.std.proofs.lemmas.Bool.Decides.{nat_tests}
use Rattle.card.proofs.Runs.{quotient_none}
use Rattle.card.proofs.writer.is_narrow.Goals as goal

pub returns-else-width-eq32 : goal.returns-else-width-eq32
returns-else-width-eq32 c =
    let e = quotient_none c.args.value _ (pow_pos c.args.width) in grind (arith, nat_tests)
