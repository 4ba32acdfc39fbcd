-- The bits of a card, as the writer puts them.
use Rattle.std.proofs.Common.{◌≡◌, ℕ, ◌*◌, ◌≤◌, true, leb, List, [], ◌++◌, length, drop, refl, ap, ◌∙◌, arith, length-append}
use Rattle.std.proofs.lemmas.Bool.{le-leb}
use Rattle.record.specs.View.{View}
use Rattle.card.specs.Bits.{bits, fields, AllBits}
use Rattle.card.specs.Card.{card, card_bits, size, write_answer, after_write}
use Rattle.card.specs.Writer.{State, run, room, start, padding, finish_answer, after_finish, Moved}
use Rattle.card.proofs.Packs.{all_append, all_bits, all_fields, fields_long, pack_long, pack_run}
use Rattle.card.proofs.Runs.{bits_long, run_append, run_none}

pub all_card : (v : View) → AllBits (card_bits v)
unfolding card_bits
all_card v =
    all_append (bits 4 1) _ (all_bits 4 1)
    (all_append (bits 7 v.flags) _ (all_bits 7 v.flags)
    (all_append (bits 7 (length v.keys)) _ (all_bits 7 (length v.keys))
    (all_append (bits 7 (length v.tray)) _ (all_bits 7 (length v.tray))
    (all_append (fields 32 v.words) _ (all_fields 32 v.words)
    (all_append (fields 8 v.keys) _ (all_fields 8 v.keys)
    (all_append (fields 8 v.tray) _ (all_fields 8 v.tray) (all_bits 7 0)))))))

pub card_long : (v : View) → length v.words ≡ 24 → length (card_bits v) ≡ size v * 8
unfolding card_bits
card_long v h = simp (length-append, bits_long, fields_long) (omega arith)

pub card_size : (v : View) → length v.words ≡ 24 → length (card v) ≡ size v
card_size v h = let a = pack_long (card_bits v) in let b = card_long v h in omega arith

-- putting the fields one after the other puts the card
pub card_run : (v : View) (s0 s1 s2 s3 s4 s5 s6 s7 s8 : State) (f k t : ℕ) (ws ks ts : List ℕ)
    → f ≡ v.flags → k ≡ length v.keys → t ≡ length v.tray → ws ≡ v.words → ks ≡ v.keys → ts ≡ v.tray
    → s1 ≡ run s0 (bits 4 1) → s2 ≡ run s1 (bits 7 f) → s3 ≡ run s2 (bits 7 k) → s4 ≡ run s3 (bits 7 t)
    → s5 ≡ run s4 (fields 32 ws) → s6 ≡ run s5 (fields 8 ks) → s7 ≡ run s6 (fields 8 ts) → s8 ≡ run s7 (bits 7 0)
    → s8 ≡ run s0 (card_bits v)
unfolding card_bits
card_run v s0 s1 s2 s3 s4 s5 s6 s7 s8 f k t ws ks ts ef ek et ews eks ets e1 e2 e3 e4 e5 e6 e7 e8 =
    simp run_append
    (rw (e8, e7, e6, e5, e4, e3, e2, e1, ef, ek, et, ews, eks, ets) refl)

-- a writer that has put a card, and nothing else, ends with the card's bytes
pub finish_card : (v : View) (out : List ℕ) (s t : State) → length v.words ≡ 24 → size v ≤ length out
    → s ≡ start out → t ≡ run s (card_bits v) → Moved s t (8 * size v)
    → (finish_answer t ≡ write_answer v out) × (after_finish t ≡ after_write v out)
finish_card v out s t h le es et m =
    let ep : s.full ≡ 0 = ap (λ z. z.full) es in
    let ec : s.count ≡ 0 = ap (λ z. z.count) es in
    let eo : length s.out ≡ length out = ap (λ z. length z.out) es in
    let few = m.few in
    let total = m.total in
    let long = m.long in
    let tc : t.count ≡ 0 = omega arith in
    let tp : t.full ≡ size v = omega arith in
    let pad : padding t ≡ 0 = omega arith in
    let same : run t (bits (padding t) 0) ≡ t = rw pad (run_none t 0) in
    let fits : room t (padding t) ≡ true = le-leb _ _ (omega arith) in
    let wide : leb (size v) (length out) ≡ true = le-leb _ _ le in
    let n : length (card v) ≡ size v = card_size v h in
    let bytes : t.out ≡ card v ++ drop (size v) out =
    ap (λ z. z.out) (et ∙ ap (λ z. run z (card_bits v)) es)
    ∙ (pack_run [] out (card_bits v) (all_card v) (omega arith) ∙ ap (λ k. card v ++ drop k out) n) in
    (rw (fits, same, wide, tp) refl, rw (fits, same, wide, bytes) refl)
