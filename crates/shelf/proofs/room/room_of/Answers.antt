use Rattle.shelf.proofs.room.room_of.Goals as goal
use Rattle.std.proofs.Common.{◌≡◌, ◌≤◌, ℕ, Bool, cond, rules, arith}
use Rattle.std.proofs.lemmas.Iterator.{YieldsList-from_map, YieldsList-from_range}
use Rattle.std.proofs.lemmas.Iterator.Consumers.{fits_by_from_yields_list, sum_by_from_yields_List}
use Rattle.std.proofs.lemmas.List.FromFn.{length-range_with_len}
use Rattle.std.proofs.lemmas.List.Sums.{count_by-le-length}
use Rattle.std.specs.List.{count_by, range_with_len}

-- no more blocks are held than there are
few : (held : ℕ → Bool) (n : ℕ) → count_by held (range_with_len 0 n) ≤ n
few held n = omega (arith, count_by-le-length held (range_with_len 0 n), length-range_with_len 0 n)

pub sum-held-requires-clause-fits : goal.sum-held-requires-clause-fits
sum-held-requires-clause-fits g c =
    let held = (g.S.Shelf.meaning c.args.shelf.now).held c.args.drive in
    let n = c.size-blocks.result in
    fits_by_from_yields_list _ _ c.map.result _
    (YieldsList-from_map _ (λ b. cond (held b) 1 0) (YieldsList-from_range 0 n n c.map.ensures.source (omega arith)) c.map.ensures.closure (λ x r q k. search rules))
    (omega (arith, few held n))

pub overflow_sub-blocks : goal.overflow_sub-blocks
overflow_sub-blocks g c =
    let held = (g.S.Shelf.meaning c.args.shelf.now).held c.args.drive in
    let n = c.size-blocks.result in
    let value = sum_by_from_yields_List _ _ c.map.result c.sum-held.result c.sum-held.ensures.ran
    (YieldsList-from_map _ (λ b. cond (held b) 1 0) (YieldsList-from_range 0 n n c.map.ensures.source (omega arith)) c.map.ensures.closure (λ x r q k. search rules)) in
    omega (arith, value, few held n)

pub returns : goal.returns
returns g c =
    let held = (g.S.Shelf.meaning c.args.shelf.now).held c.args.drive in
    let n = c.size-blocks.result in
    let value : c.sum-held.result ≡ count_by held (range_with_len 0 n) = sum_by_from_yields_List _ _ c.map.result c.sum-held.result c.sum-held.ensures.ran
    (YieldsList-from_map _ (λ b. cond (held b) 1 0) (YieldsList-from_range 0 n n c.map.ensures.source (omega arith)) c.map.ensures.closure (λ x r q k. search rules)) in
    search rules
