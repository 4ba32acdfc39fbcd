-- Numbers read from the bits of bytes, a bit and a field at a time.
use Rattle.std.proofs.Common.{◌≡◌, ℕ, zero, suc, ◌+◌, ◌-◌, ◌*◌, ◌/◌, ◌%◌, ◌^◌, ◌<◌, ◌≤◌, List, [], ◌∷◌, ◌++◌, length, get_or, map, take, drop, Ok, Err, Result, sym, refl, ap, ◌∙◌, arith, pow-add}
use Rattle.std.proofs.lemmas.List.{drop_more, map-id, take_all}
use Rattle.std.proofs.lemmas.Bool.{cond-true, cond-false, le-leb, lt-leb, lt-ltb, le-ltb}
use Rattle.card.specs.Bits.{bits, fields, stream, spelled}
use Rattle.card.specs.Card.{accepted, ending, field, gather, mapped, refused}
use Rattle.card.specs.declared.refusal.CardFault.TheVariants.{BytesEnd, LeftOver}
use Rattle.card.specs.declared.refusal.CardRefusal.{CardRefusal}
use Rattle.card.proofs.Packs.{fields_long}

pub stream_long : (bytes : List ℕ) → length (stream bytes) ≡ 8 * length bytes
stream_long bytes = let e = fields_long 8 bytes in omega arith

-- a bit of the stream, in its byte
pub bit_is : (bytes : List ℕ) (p : ℕ) → p < 8 * length bytes → get_or bytes (p / 8) 0 / 2 ^ (7 - p % 8) % 2 ≡ get_or (stream bytes) p 0
unfolding fields bits
bit_is [] p h = absurd (omega arith)
bit_is (b ∷ bytes) zero h = refl
bit_is (b ∷ bytes) (suc zero) h = refl
bit_is (b ∷ bytes) (suc (suc zero)) h = refl
bit_is (b ∷ bytes) (suc (suc (suc zero))) h = refl
bit_is (b ∷ bytes) (suc (suc (suc (suc zero)))) h = refl
bit_is (b ∷ bytes) (suc (suc (suc (suc (suc zero))))) h = refl
bit_is (b ∷ bytes) (suc (suc (suc (suc (suc (suc zero)))))) h = refl
bit_is (b ∷ bytes) (suc (suc (suc (suc (suc (suc (suc zero))))))) h = refl
bit_is (b ∷ bytes) (suc (suc (suc (suc (suc (suc (suc (suc p)))))))) h =
    let e1 : suc (suc (suc (suc (suc (suc (suc (suc p))))))) / 8 ≡ suc (p / 8) = omega arith in
    let e2 : suc (suc (suc (suc (suc (suc (suc (suc p))))))) % 8 ≡ p % 8 = omega arith in
    let le : p < 8 * length bytes = omega arith in
    rw (e1, e2) (bit_is bytes p le)

-- one bit more of a number
pub spelled_more : (s : List ℕ) (p n from : ℕ) → 0 < n → p < length s
    → spelled from (take n (drop p s)) ≡ spelled (from * 2 + get_or s p 0) (take (n - 1) (drop (p + 1) s))
unfolding spelled
spelled_more s p zero from h lt = absurd (omega arith)
spelled_more s p (suc n) from h lt =
    let e : suc n - 1 ≡ n = omega arith in
    ap (λ l. spelled from (take (suc n) l)) (drop_more s p 0 lt) ∙ ap (λ k. spelled (from * 2 + get_or s p 0) (take k (drop (p + 1) s))) (sym e)

pub spelled_none : (s : List ℕ) (p from : ℕ) → spelled from (take 0 (drop p s)) ≡ from
unfolding spelled
spelled_none s p from = refl

-- one bit more doubles the bound
pub doubles : (v n b : ℕ) → v < 2 ^ n → b < 2 → v * 2 + b < 2 ^ (n + 1)
doubles v n b h r = let f : 2 ^ (n + 1) ≡ 2 ^ n * 2 = pow-add 2 n 1 in omega arith

pub gather_none : (front s : List ℕ) (p w : ℕ) → gather front s p w 0 ≡ Ok front
unfolding gather
gather_none front s p w = refl

-- a field more goes behind those in front
pub gather_on : (front longer s : List ℕ) (p q w n m v : ℕ) (z : Result (List ℕ) CardRefusal) → 0 < n → field s p w ≡ Ok v → longer ≡ front ++ v ∷ [] → q ≡ p + w → m ≡ n - 1 → gather front s p w n ≡ z
    → gather longer s q w m ≡ z
unfolding gather
gather_on front longer s p q w zero m v z h e el eq em i = absurd (omega arith)
gather_on front longer s p q w (suc n) m v z h e el eq em i =
    let k : m ≡ n = omega arith in
    let one : gather front s p w (suc n) ≡ gather (front ++ v ∷ []) s (p + w) w n = rw e refl in
    rw (el, eq, k) (sym one ∙ i)

pub gather_err : (front s : List ℕ) (p w n : ℕ) (r : CardRefusal) → 0 < n → field s p w ≡ Err r → gather front s p w n ≡ Err r
unfolding gather
gather_err front s p w zero r h e = absurd (omega arith)
gather_err front s p w (suc n) r h e = rw e refl

-- a field that the bytes have, and one that they have not
pub field_fits : (bytes : List ℕ) (p w v : ℕ) → p + w ≤ 8 * length bytes → v ≡ spelled 0 (take w (drop p (stream bytes))) → Ok v ≡ field (stream bytes) p w
field_fits bytes p w v h e =
    let n = stream_long bytes in ap Ok e ∙ sym (cond-true _ _ _ (le-leb (p + w) (length (stream bytes)) (omega arith)))

pub field_ends : (bytes : List ℕ) (p w : ℕ) → 8 * length bytes < p + w → refused BytesEnd p ≡ field (stream bytes) p w
field_ends bytes p w h =
    let n = stream_long bytes in sym (cond-false _ _ _ (lt-leb (p + w) (length (stream bytes)) (omega arith)))

-- the end of a card behind zeros
pub ending_over : (bytes : List ℕ) (p z : ℕ) → Ok z ≡ field (stream bytes) p 7 → z ≡ 0 → p + 7 < 8 * length bytes → refused LeftOver (p + 7) ≡ ending (stream bytes) p
ending_over bytes p z e e0 h =
    let n = stream_long bytes in
    let t = lt-ltb (p + 7) (length (stream bytes)) (omega arith) in
    rw (← e, e0, t) refl

pub ending_done : (bytes : List ℕ) (p z : ℕ) → Ok z ≡ field (stream bytes) p 7 → z ≡ 0 → 8 * length bytes ≤ p + 7 → Ok tt ≡ ending (stream bytes) p
ending_done bytes p z e e0 h =
    let n = stream_long bytes in
    let t = le-ltb (p + 7) (length (stream bytes)) (omega arith) in
    rw (← e, e0, t) refl

-- characters that were read, as the queue that they make
pub queue_read : (out s q : List ℕ) (p n m : ℕ) → q ≡ take 64 out → mapped (λ _. map (λ x. x) out) accepted ≡ gather [] s p 8 m → length out ≡ m → m ≡ n → n ≤ 64 → Ok q ≡ gather [] s p 8 n
queue_read out s q p n m eq e long em h =
    ap Ok (eq ∙ (take_all 64 out (omega arith) ∙ sym (map-id out))) ∙ (e ∙ ap (gather [] s p 8) em)
