use Rattle.std.proofs.Common.{length, ap, ◌∙◌, arith}
use Rattle.std.proofs.lemmas.List.{map-id}
use Rattle.record.specs.Contents.{contents}
use Rattle.record.specs.View.{view}
use Rattle.card.proofs.Cards.{card_run}
use Rattle.card.proofs.codec.put_card.Goals as goal

pub returns : goal.returns
returns c =
    let p1 = c.put_known.ensures in
    let p2 = c.put_known-2.ensures in
    let p3 = c.put_known-3.ensures in
    let p4 = c.put_known-4.ensures in
    let p5 = c.put_fields.ensures in
    let p6 = c.put_fields-2.ensures in
    let p7 = c.put_fields-3.ensures in
    let p8 = c.put_known-5.ensures in
    let ws = c.words-words.ensures.value in
    let ks = c.as_slice-keys.ensures.value in
    let ts = c.as_slice-tray.ensures.value in
    let lw = ap length ws in
    let n = c.words-words.ensures.len in
    let lk = ap length ks in
    let lt = ap length ts in
    record {
      same = p8.same ∙ (p7.same ∙ (p6.same ∙ (p5.same ∙ (p4.same ∙ (p3.same ∙ (p2.same ∙ p1.same))))));
      after = card_run (view (contents c.args.machine.now)) _ _ _ _ _ _ _ _ _ _ _ _ _ _ _
          c.flags.ensures.value lk lt (map-id _ ∙ ws) (map-id _ ∙ ks) (map-id _ ∙ ts)
          p1.after p2.after p3.after p4.after p5.after p6.after p7.after p8.after;
      moved = record {
        few = p8.moved.few;
        total = omega arith;
        long = p8.moved.long ∙ (p7.moved.long ∙ (p6.moved.long ∙ (p5.moved.long ∙ (p4.moved.long ∙ (p3.moved.long ∙ (p2.moved.long ∙ p1.moved.long))))));
      };
      proper = record {
        all = omega arith;
        flagged = omega arith;
        keyed = omega arith;
        trayed = omega arith;
        words_fit = λ i. rw (map-id _ ∙ ws) at (p5.fit i);
        keys_fit = λ i. rw (map-id _ ∙ ks) at (p6.fit i);
        tray_fits = λ i. rw (map-id _ ∙ ts) at (p7.fit i);
      };
    }
