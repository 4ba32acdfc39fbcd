use Rattle.std.proofs.Common.{◌≡◌, ◌+◌, ◌-◌, ◌∷◌, [], ◌++◌, length, map, set, take, sym, ap, ◌∙◌, arith, length-set, rules}
use Rattle.std.proofs.lemmas.List.{map_push, take_all, take_more_set}
use Rattle.card.specs.Bits.{stream}
use Rattle.card.specs.Card.{field}
use Rattle.card.proofs.Runs.{mul_more}
use Rattle.card.proofs.Streams.{gather_err, gather_none, gather_on}
use Rattle.card.proofs.reader.read_fields.Goals as goal

pub returns-in_err-read_field : goal.returns-in_err-read_field
returns-in_err-read_field g c =
    let F = g.T.Field in
    let s = stream c.args.bytes.now in
    let l = c.loop-field in
    let v = c.in_err-read_field.ensures.value ∙ ap (field s l.at) c.width.ensures in
    let e = gather_err (map F.value (take l.field-index l.out)) s l.at F.wide (length c.args.out.now - l.field-index) _ (omega arith) (sym v) in
    search rules

pub loop-field-preserved : goal.loop-field-preserved
loop-field-preserved g c =
    let F = g.T.Field in
    let s = stream c.args.bytes.now in
    let l = c.loop-field in
    let v = c.in_ok-read_field.ensures.value ∙ ap (field s l.at) c.width.ensures in
    let y = c.of_number.result in
    let longer : map F.value (take (l.field-index + 1) (set l.out l.field-index y)) ≡ map F.value (take l.field-index l.out) ++ c.in_ok-read_field.field-0 ∷ [] =
    ap (map F.value) (take_more_set l.out l.field-index y (omega arith)) ∙ (map_push F.value (take l.field-index l.out) y ∙ ap (λ n. map F.value (take l.field-index l.out) ++ n ∷ []) c.of_number.ensures) in
    let next : l.at + c.width-in-loop-field.result.bits ≡ l.at + F.wide = ap (λ n. l.at + n) c.width-in-loop-field.ensures in (
      length-set l.out l.field-index y ∙ l.invariant.0,
      let more = mul_more F.wide l.field-index c.width-in-loop-field.result.bits c.width-in-loop-field.ensures in omega (arith, l.invariant.1),
      gather_on (map F.value (take l.field-index l.out)) _ s l.at _ F.wide (length c.args.out.now - l.field-index) _ c.in_ok-read_field.field-0 _
          (omega arith) (sym v) longer next (omega arith) l.invariant.2,
    )

pub returns : goal.returns
returns g c =
    let F = g.T.Field in
    let l = c.loop-field in
    let k : length c.args.out.now - l.field-index ≡ 0 = omega arith in
    let t = take_all l.field-index l.out (omega arith) in
    let n = gather_none (map F.value l.out) (stream c.args.bytes.now) l.at F.wide in
    sym n ∙ rw (k, t) at l.invariant.2
