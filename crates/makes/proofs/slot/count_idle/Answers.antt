use Rattle.makes.proofs.slot.count_idle.Goals as goal
use Rattle.makes.specs.declared.slot.Slot.{Slot}
use Rattle.std.proofs.Common.{cond, rules, arith}
use Rattle.std.proofs.lemmas.Iterator.{YieldsList-from_map, YieldsList-from_slice}
use Rattle.std.proofs.lemmas.Iterator.Consumers.{fits_by_from_yields_list}
use Rattle.std.proofs.lemmas.List.Sums.{count_by-le-length}
use Rattle.std.specs.Option.{is_none}

pub sum-requires-clause-fits : goal.sum-requires-clause-fits
sum-requires-clause-fits c =
    let slots = c.args.slots.now in
    fits_by_from_yields_list _ _ c.map.result _
    (YieldsList-from_map _ (λ (s : Slot). cond (is_none s.held) 1 0) (YieldsList-from_slice slots (search rules)) c.map.ensures.closure (λ x r q k. search rules))
    (omega (arith, count_by-le-length (λ (s : Slot). is_none s.held) slots, c.iter.ensures.bound))
