-- A card that is written reads back, and bytes that read as a card are that card.
use Rattle.std.proofs.Common.{◌≡◌, ℕ, ◌+◌, ◌-◌, ◌*◌, ◌≤◌, Bool, true, false, cond, eqb, ltb, leb, List, [], ◌++◌, length, take, drop, Ok, Err, Result, sym, refl, ap, ◌∙◌, subst, ap₂, arith}
use Rattle.std.proofs.lemmas.List.{append-nil, drop_all, take_at}
use Rattle.std.proofs.lemmas.Bool.{cond-true, cond-false, eqb-true, le-ltb, ltb-false}
use Rattle.record.proofs.Same.{views_tell}
use Rattle.record.specs.Contents.{contents}
use Rattle.record.specs.View.{View, view}
use Rattle.record.specs.declared.machine.Record.{Record}
use Rattle.card.specs.Bits.{bits, fields, pack, stream, AllBits, AllBytes}
use Rattle.card.specs.Card.{accepted, card, card_bits, count, edition, ending, field, gather, read, read_bits, refused, size, then, write_answer, after_write}
use Rattle.card.specs.Laws.{Proper, ReadsBack, WritesBack, after_copy, copy_answer}
use Rattle.card.specs.declared.refusal.CardFault.TheVariants.{WrongEdition, CountOver, BadPadding, LeftOver}
use Rattle.card.specs.declared.refusal.CardRefusal.{CardRefusal}
use Rattle.card.specs.declared.refusal.CopyRefusal.{CopyRefusal}
use Rattle.card.specs.declared.refusal.CopyRefusal.TheVariants.{Unwritten}
use Rattle.card.specs.declared.refusal.WriterRefusal.{WriterRefusal}
use Rattle.card.specs.declared.refusal.WriterRefusal.TheVariants.{NoPlace}
use Rattle.card.proofs.Cards.{all_card, card_long, card_size}
use Rattle.card.proofs.Fields.{field_back, field_here, gather_all, gather_here, past, then_back, then_elim}
use Rattle.card.proofs.Packs.{all_fields, fields_long, pack_stream, stream_pack}
use Rattle.card.proofs.Runs.{bits_long}

then_ok : {A B E : Type 0} (r : Result A E) (x : A) (f : A → Result B E) → r ≡ Ok x → then r f ≡ f x
then_ok r x f e = ap (λ z. then z f) e

read_chain : (s : List ℕ) (f k t : ℕ) (ws ks ts : List ℕ) → edition s ≡ Ok tt → field s 4 7 ≡ Ok f → count s 11 ≡ Ok k → count s 18 ≡ Ok t
    → gather [] s 25 32 24 ≡ Ok ws → gather [] s 793 8 k ≡ Ok ks → gather [] s (793 + 8 * k) 8 t ≡ Ok ts → ending s (793 + 8 * k + 8 * t) ≡ Ok tt
    → read_bits s ≡ Ok (record { words = ws; flags = f; keys = ks; tray = ts })
read_chain s f k t ws ks ts e1 e2 e3 e4 e5 e6 e7 e8 =
    then_ok _ _ _ e1 ∙ (then_ok _ _ _ e2 ∙ (then_ok _ _ _ e3 ∙ (then_ok _ _ _ e4 ∙ (then_ok _ _ _ e5 ∙ (then_ok _ _ _ e6 ∙ (then_ok _ _ _ e7 ∙ then_ok _ _ _ e8))))))

count_here : (s : List ℕ) (p k : ℕ) → k ≤ 64 → field s p 7 ≡ Ok k → count s p ≡ Ok k
count_here s p k h e = then_ok _ _ _ e ∙ cond-false _ _ _ (le-ltb _ _ h)

ending_here : (s : List ℕ) (p : ℕ) → length s ≤ p + 7 → field s p 7 ≡ Ok 0 → ending s p ≡ Ok tt
ending_here s p h e = then_ok _ _ _ e ∙ cond-false _ _ _ (le-ltb _ _ h)

-- the bits of a card read as what it was made of
reads_bits : (v : View) → Proper v → read_bits (card_bits v) ≡ Ok v
unfolding card_bits
reads_bits v p =
    let s = card_bits v in
    let k = length v.keys in
    let t = length v.tray in
    let len : length s ≡ size v * 8 = card_long v p.all in
    let lk = p.keyed in
    let lt = p.trayed in
    let lf = p.flagged in
    -- what stands behind each field
    let r7 : List ℕ = bits 7 0 in
    let r6 : List ℕ = fields 8 v.tray ++ r7 in
    let r5 : List ℕ = fields 8 v.keys ++ r6 in
    let r4 : List ℕ = fields 32 v.words ++ r5 in
    let r3 : List ℕ = bits 7 t ++ r4 in
    let r2 : List ℕ = bits 7 k ++ r3 in
    let r1 : List ℕ = bits 7 v.flags ++ r2 in
    let d0 : drop 0 s ≡ bits 4 1 ++ r1 = refl in
    let d1 : drop 4 s ≡ r1 = past s 0 4 (bits 4 1) r1 d0 (bits_long 4 1) in
    let d2 : drop 11 s ≡ r2 = past s 4 7 (bits 7 v.flags) r2 d1 (bits_long 7 _) in
    let d3 : drop 18 s ≡ r3 = past s 11 7 (bits 7 k) r3 d2 (bits_long 7 k) in
    let d4 : drop 25 s ≡ r4 = past s 18 7 (bits 7 t) r4 d3 (bits_long 7 t) in
    let n5 : length (fields 32 v.words) ≡ 768 = fields_long 32 v.words ∙ ap (λ n. n * 32) p.all in
    let d5 : drop 793 s ≡ r5 = past s 25 768 (fields 32 v.words) r5 d4 n5 in
    let m6 : k * 8 ≡ 8 * k = omega arith in
    let d6 : drop (793 + 8 * k) s ≡ r6 = past s 793 (8 * k) (fields 8 v.keys) r6 d5 (fields_long 8 v.keys ∙ m6) in
    let m7 : t * 8 ≡ 8 * t = omega arith in
    let d7 : drop (793 + 8 * k + 8 * t) s ≡ r7 = past s (793 + 8 * k) (8 * t) (fields 8 v.tray) r7 d6 (fields_long 8 v.tray ∙ m7) in
    let g5 : gather [] s 25 32 24 ≡ Ok v.words =
    ap (λ n. gather [] s 25 32 n) (sym p.all) ∙ gather_here s [] 25 32 v.words r5 d4 (omega arith) p.words_fit in
    read_chain s v.flags k t v.words v.keys v.tray
    (then_ok _ _ _ (field_here s 0 4 1 r1 d0 (omega arith) (omega arith)))
    (field_here s 4 7 v.flags r2 d1 (omega arith) (omega arith))
    (count_here s 11 k lk (field_here s 11 7 k r3 d2 (omega arith) (omega arith)))
    (count_here s 18 t lt (field_here s 18 7 t r4 d3 (omega arith) (omega arith)))
    g5
    (gather_here s [] 793 8 v.keys r6 d5 (omega arith) p.keys_fit)
    (gather_here s [] (793 + 8 * k) 8 v.tray r7 d6 (omega arith) p.tray_fits)
    (ending_here s (793 + 8 * k + 8 * t) (omega arith) (field_here s (793 + 8 * k + 8 * t) 7 0 [] (d7 ∙ sym (append-nil r7)) (omega arith) (omega arith)))

pub reads_back : ReadsBack
reads_back v p = ap read_bits (stream_pack (card_bits v) (size v) (all_card v) (card_long v p.all)) ∙ reads_bits v p

edition_back : (s : List ℕ) → edition s ≡ accepted → field s 0 4 ≡ Ok 1
edition_back s e =
    let r = then_back (field s 0 4) (λ x. cond (eqb x 1) accepted (refused WrongEdition 0)) tt e in
    go r.0 (eqb r.0 1) refl r.1 r.2
  where
    go : (x : ℕ) (t : Bool) → eqb x 1 ≡ t → field s 0 4 ≡ Ok x → cond (eqb x 1) accepted (refused WrongEdition 0) ≡ accepted → field s 0 4 ≡ Ok 1
    go x true h f g = f ∙ ap Ok (eqb-true x 1 h)
    go x false h f g =
        let bad : refused WrongEdition 0 ≡ accepted = sym (cond-false _ _ _ h) ∙ g in
        let z : ◌≡◌ {A = ℕ} 0 1 = cc in absurd (omega arith)

count_back : (s : List ℕ) (p k : ℕ) → count s p ≡ Ok k → field s p 7 ≡ Ok k
count_back s p k e =
    let r = then_back (field s p 7) (λ n. cond (ltb 64 n) (refused CountOver p) (Ok n)) k e in
    go r.0 (ltb 64 r.0) refl r.1 r.2
  where
    go : (x : ℕ) (t : Bool) → ltb 64 x ≡ t → field s p 7 ≡ Ok x → cond (ltb 64 x) (refused CountOver p) (Ok x) ≡ Ok k → field s p 7 ≡ Ok k
    go x true h f g =
        let bad : refused CountOver p ≡ Ok k = sym (cond-true _ _ _ h) ∙ g in
        let z : ◌≡◌ {A = ℕ} 0 1 = cc in absurd (omega arith)
    go x false h f g = f ∙ (sym (cond-false _ _ _ h) ∙ g)

ending_back : (s : List ℕ) (p : ℕ) → ending s p ≡ accepted → (field s p 7 ≡ Ok 0) × (length s ≤ p + 7)
ending_back s p e =
    let r = then_back (field s p 7) (λ z. cond (eqb z 0) (cond (ltb (p + 7) (length s)) (refused LeftOver (p + 7)) accepted) (refused BadPadding p)) tt e in
    go r.0 (eqb r.0 0) refl (ltb (p + 7) (length s)) refl r.1 r.2
  where
    go : (x : ℕ) (t : Bool) → eqb x 0 ≡ t → (u : Bool) → ltb (p + 7) (length s) ≡ u → field s p 7 ≡ Ok x
        → cond (eqb x 0) (cond (ltb (p + 7) (length s)) (refused LeftOver (p + 7)) accepted) (refused BadPadding p) ≡ accepted
        → (field s p 7 ≡ Ok 0) × (length s ≤ p + 7)
    go x true h true l f g =
        let bad : refused LeftOver (p + 7) ≡ accepted = sym (cond-true _ _ _ l) ∙ (sym (cond-true _ _ _ h) ∙ g) in
        let z : ◌≡◌ {A = ℕ} 0 1 = cc in absurd (omega arith)
    go x true h false l f g = (f ∙ ap Ok (eqb-true x 0 h), ltb-false _ _ l)
    go x false h u l f g =
        let bad : refused BadPadding p ≡ accepted = sym (cond-false _ _ _ h) ∙ g in
        let z : ◌≡◌ {A = ℕ} 0 1 = cc in absurd (omega arith)

-- lists that stand one behind the other
stacked : (s a b c d e f g h s1 s2 s3 s4 s5 s6 s7 : List ℕ)
    → s ≡ a ++ s1 → s1 ≡ b ++ s2 → s2 ≡ c ++ s3 → s3 ≡ d ++ s4 → s4 ≡ e ++ s5 → s5 ≡ f ++ s6 → s6 ≡ g ++ s7 → s7 ≡ h
    → a ++ (b ++ (c ++ (d ++ (e ++ (f ++ (g ++ h)))))) ≡ s
stacked s a b c d e f g h s1 s2 s3 s4 s5 s6 s7 e0 e1 e2 e3 e4 e5 e6 e7 = rw (e0, e1, e2, e3, e4, e5, e6, e7) refl

-- the fields that were read are the card's, one behind the other
card_stands : (s : List ℕ) (f k t : ℕ) (ws ks ts : List ℕ) → AllBits s → edition s ≡ accepted → field s 4 7 ≡ Ok f → count s 11 ≡ Ok k → count s 18 ≡ Ok t
    → gather [] s 25 32 24 ≡ Ok ws → gather [] s 793 8 k ≡ Ok ks → gather [] s (793 + 8 * k) 8 t ≡ Ok ts → ending s (793 + 8 * k + 8 * t) ≡ accepted
    → (card_bits (record { words = ws; flags = f; keys = ks; tray = ts }) ≡ s) × (length ws ≡ 24)
unfolding card_bits
card_stands s f k t ws ks ts q e1 e2 e3 e4 e5 e6 e7 e8 =
    let g5 = gather_all s 25 32 24 ws q e5 in
    let g6 = gather_all s 793 8 k ks q e6 in
    let g7 = gather_all s (793 + 8 * k) 8 t ts q e7 in
    let x8 = ending_back s (793 + 8 * k + 8 * t) e8 in
    let n6 : 793 + k * 8 ≡ 793 + 8 * k = omega arith in
    let n7 : 793 + 8 * k + t * 8 ≡ 793 + 8 * k + 8 * t = omega arith in (
      stacked s (bits 4 1) (bits 7 f) (bits 7 (length ks)) (bits 7 (length ts)) (fields 32 ws) (fields 8 ks) (fields 8 ts) (bits 7 0)
          (drop 4 s) (drop 11 s) (drop 18 s) (drop 25 s) (drop 793 s) (drop (793 + 8 * k) s) (drop (793 + 8 * k + 8 * t) s)
          (field_back s 0 4 1 q (edition_back s e1)).1
          (field_back s 4 7 f q e2).1
          ((field_back s 11 7 k q (count_back s 11 k e3)).1 ∙ ap (λ n. bits 7 n ++ drop 18 s) (sym g6.0))
          ((field_back s 18 7 t q (count_back s 18 t e4)).1 ∙ ap (λ n. bits 7 n ++ drop 25 s) (sym g7.0))
          g5.1
          (g6.1 ∙ ap (λ n. fields 8 ks ++ drop n s) n6)
          (g7.1 ∙ ap (λ n. fields 8 ts ++ drop n s) n7)
          ((field_back s (793 + 8 * k + 8 * t) 7 0 q x8.0).1
          ∙ (ap (λ l. bits 7 0 ++ l) (drop_all (793 + 8 * k + 8 * t + 7) s x8.1) ∙ append-nil (bits 7 0))),
      g5.0,
    )

-- bits that read as a card are the bits of that card
writes_bits : (s : List ℕ) (v : View) → AllBits s → read_bits s ≡ Ok v → (card_bits v ≡ s) × (length v.words ≡ 24)
writes_bits s v q e =
    then_elim (edition s) _ v e (λ _ e1 r1.
    then_elim (field s 4 7) _ v r1 (λ f e2 r2.
    then_elim (count s 11) _ v r2 (λ k e3 r3.
    then_elim (count s 18) _ v r3 (λ t e4 r4.
    then_elim (gather [] s 25 32 24) _ v r4 (λ ws e5 r5.
    then_elim (gather [] s 793 8 k) _ v r5 (λ ks e6 r6.
    then_elim (gather [] s (793 + 8 * k) 8 t) _ v r6 (λ ts e7 r7.
    then_elim (ending s (793 + 8 * k + 8 * t)) _ v r7 (λ _ e8 r8.
    let is : record { words = ws; flags = f; keys = ks; tray = ts } ≡ v = cc in
    let P : View → Type 0 = λ u. (card_bits u ≡ s) × (length u.words ≡ 24) in
    subst P is (card_stands s f k t ws ks ts q e1 e2 e3 e4 e5 e6 e7 e8)))))))))

pub writes_back : WritesBack
writes_back bytes v fit e = ap pack (writes_bits (stream bytes) v (all_fields 8 bytes) e).0 ∙ pack_stream bytes fit

-- a card that is read has as many bytes as it says
pub read_size : (bytes : List ℕ) (v : View) → AllBytes bytes → read bytes ≡ Ok v → size v ≡ length bytes
read_size bytes v fit e =
    sym (card_size v (writes_bits (stream bytes) v (all_fields 8 bytes) e).1) ∙ ap length (writes_back bytes v fit e)

-- a buffer's front, after a card was written there, reads as what was written
pub front_reads : (v : View) (out after : List ℕ) (n : ℕ) → Proper v → Ok n ≡ write_answer v out → after ≡ after_write v out
    → (read (take (n - 0) after) ≡ Ok v) × (n ≡ size v) × (leb (size v) (length out) ≡ true)
front_reads v out after n p a e = go (leb (size v) (length out)) refl
  where
    go : (t : Bool) → leb (size v) (length out) ≡ t → (read (take (n - 0) after) ≡ Ok v) × (n ≡ size v) × (leb (size v) (length out) ≡ true)
    go true h =
        let en : Ok n ≡ Ok (size v) = a ∙ cond-true _ _ _ h in
        let m : n ≡ size v = cc in
        let n0 : n - 0 ≡ size v = omega arith in
        let ea : after ≡ card v ++ drop (size v) out = e ∙ cond-true _ _ _ h in
        let cut : take (n - 0) after ≡ card v = ap₂ take n0 ea ∙ take_at (card v) (drop (size v) out) (size v) (card_size v p.all) in
        (ap read cut ∙ reads_back v p, m, h)
    go false h =
        let bad : Ok n ≡ Err NoPlace = a ∙ cond-false _ _ _ h in
        let z : ◌≡◌ {A = ℕ} 0 1 = cc in absurd (omega arith)

-- what reads as a record's published form is that record
pub same_record : (r b : Record) (v : Result View CardRefusal) → Ok (view (contents b)) ≡ v → v ≡ Ok (view (contents r)) → b ≡ r
same_record r b v e f = let same : view (contents b) ≡ view (contents r) = cc in views_tell b r same

-- a copy's answer and what it leaves, by those of the write
abbrev pub turned : Result ℕ WriterRefusal → Result ℕ CopyRefusal
turned (Ok n) = Ok n
turned (Err w) = Err (Unwritten w)

turned_cond : (b : Bool) (n : ℕ) → turned (cond b (Ok n) (Err NoPlace)) ≡ cond b (Ok n) (Err (Unwritten NoPlace))
turned_cond true n = refl
turned_cond false n = refl

pub copied : (bytes out after : List ℕ) (v : View) (w : Result ℕ WriterRefusal) → AllBytes bytes → Ok v ≡ read bytes → w ≡ write_answer v out → after ≡ after_write v out
    → (turned w ≡ copy_answer (read bytes) bytes out) × (after ≡ after_copy (read bytes) bytes out)
copied bytes out after v w fit e ew ea =
    let n : size v ≡ length bytes = read_size bytes v fit (sym e) in
    let b : card v ≡ bytes = writes_back bytes v fit (sym e) in (
      ap turned ew
          ∙ (ap (λ k. turned (cond (leb k (length out)) (Ok k) (Err NoPlace))) n
          ∙ (turned_cond (leb (length bytes) (length out)) (length bytes) ∙ ap (λ r. copy_answer r bytes out) e)),
      ea ∙ (ap₂ (λ k l. cond (leb k (length out)) (l ++ drop k out) out) n b ∙ ap (λ r. after_copy r bytes out) e),
    )
