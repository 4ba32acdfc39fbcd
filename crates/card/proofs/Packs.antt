-- The bytes that bits make, there and back.
use Rattle.std.proofs.Common.{◌≡◌, ℕ, zero, suc, ◌+◌, ◌-◌, ◌*◌, ◌/◌, ◌%◌, ◌≤◌, List, [], ◌∷◌, ◌++◌, length, drop, set, sym, refl, ap, ◌∙◌, ap₂, suc-mul, zero-mul, arith, length-append}
use Rattle.std.proofs.lemmas.List.{set_at, append_assoc, length_push}
use Rattle.card.specs.Bits.{bits, fields, stream, pack, AllBits, AllBytes}
use Rattle.card.specs.Writer.{run, PutsPack}
use Rattle.card.proofs.Runs.{bits_long}

pub all_append : (xs ys : List ℕ) → AllBits xs → AllBits ys → AllBits (xs ++ ys)
all_append [] ys p q = q
all_append (x ∷ xs) ys p q = (p.0, all_append xs ys p.1 q)

pub all_bits : (w v : ℕ) → AllBits (bits w v)
unfolding bits
all_bits zero v = tt
all_bits (suc w) v = (omega arith, all_bits w v)

pub all_fields : (w : ℕ) (vs : List ℕ) → AllBits (fields w vs)
unfolding fields
all_fields w [] = tt
all_fields w (v ∷ vs) = all_append (bits w v) (fields w vs) (all_bits w v) (all_fields w vs)

pub fields_long : (w : ℕ) (vs : List ℕ) → length (fields w vs) ≡ length vs * w
unfolding fields
fields_long w [] = sym (zero-mul w)
fields_long w (v ∷ vs) =
    let i = fields_long w vs in
    let e = bits_long w v in
    let m = suc-mul (length vs) w in
    simp length-append (omega arith)

pub pack_long : (bs : List ℕ) → length (pack bs) ≡ length bs / 8
unfolding pack
pack_long [] = refl
pack_long (a ∷ []) = refl
pack_long (a ∷ b ∷ []) = refl
pack_long (a ∷ b ∷ c ∷ []) = refl
pack_long (a ∷ b ∷ c ∷ d ∷ []) = refl
pack_long (a ∷ b ∷ c ∷ d ∷ e ∷ []) = refl
pack_long (a ∷ b ∷ c ∷ d ∷ e ∷ f ∷ []) = refl
pack_long (a ∷ b ∷ c ∷ d ∷ e ∷ f ∷ g ∷ []) = refl
pack_long (a ∷ b ∷ c ∷ d ∷ e ∷ f ∷ g ∷ h ∷ bs) = let i = pack_long bs in omega arith

-- a writer at a byte's edge leaves the bytes behind what it has
pub pack_run : (pre rest bs : List ℕ) → AllBits bs → length (pack bs) ≤ length rest
    → (run (record { out = pre ++ rest; full = length pre; pending = 0; count = 0 }) bs).out ≡ pre ++ (pack bs ++ drop (length (pack bs)) rest)
unfolding run pack
pack_run pre rest [] p le = refl
pack_run pre rest (a ∷ []) p le = refl
pack_run pre rest (a ∷ b ∷ []) p le = refl
pack_run pre rest (a ∷ b ∷ c ∷ []) p le = refl
pack_run pre rest (a ∷ b ∷ c ∷ d ∷ []) p le = refl
pack_run pre rest (a ∷ b ∷ c ∷ d ∷ e ∷ []) p le = refl
pack_run pre rest (a ∷ b ∷ c ∷ d ∷ e ∷ f ∷ []) p le = refl
pack_run pre rest (a ∷ b ∷ c ∷ d ∷ e ∷ f ∷ g ∷ []) p le = refl
pack_run pre [] (a ∷ b ∷ c ∷ d ∷ e ∷ f ∷ g ∷ h ∷ bs) p le = absurd (omega arith)
pack_run pre (y ∷ rest) (a ∷ b ∷ c ∷ d ∷ e ∷ f ∷ g ∷ h ∷ bs) p le =
    let byte : ℕ = 128 * a + 64 * b + 32 * c + 16 * d + 8 * e + 4 * f + 2 * g + h in
    let made : ℕ = (((((((0 + a) * 2 + b) * 2 + c) * 2 + d) * 2 + e) * 2 + f) * 2 + g) * 2 + h in
    let same : made ≡ byte = omega arith in
    let R : List ℕ → ℕ → List ℕ = λ o q. (run (record { out = o; full = q; pending = 0; count = 0 }) bs).out in
    let wrote : set (pre ++ y ∷ rest) (length pre) made ≡ (pre ++ byte ∷ []) ++ rest =
    ap (set (pre ++ y ∷ rest) (length pre)) same ∙ (set_at pre y rest byte (length pre) refl ∙ sym (append_assoc pre (byte ∷ []) rest)) in
    let fit : length (pack bs) ≤ length rest = omega arith in
    ap₂ R wrote (sym (length_push pre byte))
    ∙ (pack_run (pre ++ byte ∷ []) rest bs p.1.1.1.1.1.1.1.1 fit
    ∙ append_assoc pre (byte ∷ []) (pack bs ++ drop (length (pack bs)) rest))

pub puts_pack : PutsPack
puts_pack out bs q le = pack_run [] out bs q le

-- the bits of the bytes that whole bytes of bits make are those bits
pub stream_pack : (bs : List ℕ) (n : ℕ) → AllBits bs → length bs ≡ n * 8 → stream (pack bs) ≡ bs
unfolding pack fields bits
stream_pack [] n p h = refl
stream_pack (a ∷ []) n p h = absurd (omega arith)
stream_pack (a ∷ b ∷ []) n p h = absurd (omega arith)
stream_pack (a ∷ b ∷ c ∷ []) n p h = absurd (omega arith)
stream_pack (a ∷ b ∷ c ∷ d ∷ []) n p h = absurd (omega arith)
stream_pack (a ∷ b ∷ c ∷ d ∷ e ∷ []) n p h = absurd (omega arith)
stream_pack (a ∷ b ∷ c ∷ d ∷ e ∷ f ∷ []) n p h = absurd (omega arith)
stream_pack (a ∷ b ∷ c ∷ d ∷ e ∷ f ∷ g ∷ []) n p h = absurd (omega arith)
stream_pack (a ∷ b ∷ c ∷ d ∷ e ∷ f ∷ g ∷ k ∷ bs) n p h =
    let byte : ℕ = 128 * a + 64 * b + 32 * c + 16 * d + 8 * e + 4 * f + 2 * g + k in
    let i : stream (pack bs) ≡ bs = stream_pack bs (n - 1) p.1.1.1.1.1.1.1.1 (omega arith) in
    let e7 : byte / 128 % 2 ≡ a = omega arith in
    let e6 : byte / 64 % 2 ≡ b = omega arith in
    let e5 : byte / 32 % 2 ≡ c = omega arith in
    let e4 : byte / 16 % 2 ≡ d = omega arith in
    let e3 : byte / 8 % 2 ≡ e = omega arith in
    let e2 : byte / 4 % 2 ≡ f = omega arith in
    let e1 : byte / 2 % 2 ≡ g = omega arith in
    let e0 : byte / 1 % 2 ≡ k = omega arith in
    λ t. e7 t ∷ e6 t ∷ e5 t ∷ e4 t ∷ e3 t ∷ e2 t ∷ e1 t ∷ e0 t ∷ i t

-- the bytes of the bits of bytes are those bytes
pub pack_stream : (bytes : List ℕ) → AllBytes bytes → pack (stream bytes) ≡ bytes
unfolding pack fields bits
pack_stream [] p = refl
pack_stream (b ∷ bytes) p =
    let small = p 0 in
    let i : pack (stream bytes) ≡ bytes = pack_stream bytes (λ j. p (suc j)) in
    let e : 128 * (b / 128 % 2) + 64 * (b / 64 % 2) + 32 * (b / 32 % 2) + 16 * (b / 16 % 2) + 8 * (b / 8 % 2) + 4 * (b / 4 % 2) + 2 * (b / 2 % 2) + b / 1 % 2 ≡ b = omega arith in
    λ t. e t ∷ i t
