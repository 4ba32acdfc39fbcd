use Rattle.shelf.proofs.Drives.{few_before, sizes_before}
use Rattle.shelf.proofs.layout.blocks_before.Goals as goal
use Rattle.shelf.specs.Plan.{size_of}
use Rattle.std.proofs.Common.{◌≡◌, ◌-◌, map, take, sum, sym, refl, ap, ◌∙◌, rules, arith}
use Rattle.std.proofs.lemmas.Iterator.{YieldsList-from_map, YieldsList-from_range}
use Rattle.std.proofs.lemmas.Iterator.Consumers.{fits_from_yields_list, sum_from_yields_List}
use Rattle.std.specs.List.{range_with_len}

pub sum-requires-clause-fits : goal.sum-requires-clause-fits
sum-requires-clause-fits c =
    let p = c.args.plan.now in
    let n = c.args.drive - 1 in
    let few = few_before p.sizes n p.few (omega (arith, p.eight)) in
    let e : sum (take n p.sizes) ≡ sum (map (size_of p.sizes) (range_with_len 1 n)) = ap sum (sizes_before p.sizes n p.eight (omega arith)) in
    fits_from_yields_list c.map.result _
    (YieldsList-from_map _ (size_of p.sizes) (YieldsList-from_range 1 c.args.drive n c.map.ensures.source refl) c.map.ensures.closure (λ x r q k. search rules))
    (omega arith)

pub returns : goal.returns
returns c =
    let p = c.args.plan.now in
    let n = c.args.drive - 1 in
    let value : c.sum.result ≡ sum (take n p.sizes) =
    sum_from_yields_List c.map.result c.sum.result c.sum.ensures.ran
    (YieldsList-from_map _ (size_of p.sizes) (YieldsList-from_range 1 c.args.drive n c.map.ensures.source refl) c.map.ensures.closure (λ x r q k. search rules))
    ∙ ap sum (sym (sizes_before p.sizes n p.eight (omega arith))) in
    record { value = value; bound = omega (arith, few_before p.sizes n p.few (omega (arith, p.eight))) }
