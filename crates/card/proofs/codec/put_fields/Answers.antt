use Rattle.std.proofs.Common.{◌≡◌, ◌+◌, ◌*◌, get_or, map, sym, ap, ◌∙◌, arith}
use Rattle.std.proofs.lemmas.List.{get_or-map, length-map}
use Rattle.card.specs.Bits.{bits}
use Rattle.card.specs.Writer.{run, state}
use Rattle.card.proofs.Runs.{fields_none, fields_step, fits_all, fits_more, moved_both, mul_more}
use Rattle.card.proofs.codec.put_fields.Goals as goal

pub loop-value-preserved : goal.loop-value-preserved
loop-value-preserved g c =
    let F = g.T.Field in
    let xs = c.args.values.now in
    let i = c.loop-value.value-index in
    let s = state c.loop-value.w in
    let t = state c.put_known.new.self in
    let put = c.put_known.ensures in
    let long = length-map xs F.value in
    let is : c.number.result ≡ get_or (map F.value xs) i 0 =
    c.number.ensures.value ∙ (ap F.value c.value-item.is ∙ sym (get_or-map F.value xs i c.value-item.result 0 c.loop-value-test.true)) in
    let after : t ≡ run s (bits F.wide c.number.result) = put.after ∙ ap (λ n. run s (bits n c.number.result)) c.width.ensures in
    let more : F.wide * i + c.width.result.bits ≡ F.wide * (i + 1) = mul_more F.wide i c.width.result.bits c.width.ensures in (
      put.same ∙ c.loop-value.invariant.0,
      moved_both _ s t (F.wide * i) c.width.result.bits _ c.loop-value.invariant.1 put.moved more,
      fits_more (map F.value xs) i c.number.result _ c.loop-value.invariant.2 is c.number.ensures.fits,
      fields_step s t _ F.wide (map F.value xs) i c.number.result (omega arith) is after c.loop-value.invariant.3,
    )

pub returns-clause-fit : goal.returns-clause-fit
returns-clause-fit g c =
    let F = g.T.Field in
    let long = length-map c.args.values.now F.value in
    fits_all (map F.value c.args.values.now) F.wide c.loop-value.value-index c.loop-value.invariant.2 (omega arith)

pub returns-clause-after : goal.returns-clause-after
returns-clause-after g c =
    let F = g.T.Field in
    let long = length-map c.args.values.now F.value in
    sym (fields_none (state c.loop-value.w) F.wide (map F.value c.args.values.now) c.loop-value.value-index (omega arith)) ∙ c.loop-value.invariant.3
