-- A field where its bits stand, and the bits where a field is read.
use Rattle.std.proofs.Common.{◌≡◌, ℕ, zero, suc, ◌+◌, ◌*◌, ◌/◌, ◌%◌, ◌^◌, ◌<◌, ◌≤◌, Bool, true, false, leb, List, [], ◌∷◌, ◌++◌, length, get_or, take, drop, Ok, Err, Result, sym, refl, ap, ◌∙◌, ap₂, mod-eq_of_lt, mul_assoc, suc-mul, mul_comm, add-mul, pow-suc, zero-mul, div-one, arith}
use native.Mathlib.Nat.{div-div-eq-div-mul}
use Rattle.std.proofs.lemmas.Nat.{mod-pow-add}
use Rattle.std.proofs.lemmas.List.{append_assoc, append-nil, drop_at, drop-drop, length-drop, length-take-le, take-append-drop, take_at}
use Rattle.std.proofs.lemmas.Bool.{le-leb, leb-true, cond-true, cond-false}
use Rattle.card.specs.Bits.{bits, fields, spelled, AllBits}
use Rattle.card.specs.Card.{field, gather, refused, then}
use Rattle.card.specs.declared.refusal.CardFault.TheVariants.{BytesEnd}
use Rattle.card.proofs.Runs.{bits_long}

-- one bit more of v
more : (from w v : ℕ) → (from * 2 + v / 2 ^ w % 2) * 2 ^ w + v % 2 ^ w ≡ from * 2 ^ suc w + v % 2 ^ suc w
more from w v =
    let e : suc w ≡ 1 + w = omega arith in
    let m : v % 2 ^ (1 + w) ≡ v / 2 ^ w % 2 * 2 ^ w + v % 2 ^ w = mod-pow-add v 1 w in
    let d : (from * 2 + v / 2 ^ w % 2) * 2 ^ w ≡ from * 2 * 2 ^ w + v / 2 ^ w % 2 * 2 ^ w = add-mul (from * 2) (v / 2 ^ w % 2) (2 ^ w) in
    let s : 2 ^ suc w ≡ 2 ^ w * 2 = pow-suc 2 w in
    let t : from * 2 * 2 ^ w ≡ from * (2 ^ w * 2) = mul_assoc from 2 (2 ^ w) ∙ ap (λ n. from * n) (mul_comm 2 (2 ^ w)) in
    let u : from * 2 ^ suc w ≡ from * (2 ^ w * 2) = ap (λ n. from * n) s in
    let k : v % 2 ^ suc w ≡ v % 2 ^ (1 + w) = ap (λ n. v % 2 ^ n) e in
    omega arith

-- the bits of v spell v
pub spelled_bits : (from w v : ℕ) → spelled from (bits w v) ≡ from * 2 ^ w + v % 2 ^ w
unfolding spelled bits
spelled_bits from zero v = omega arith
spelled_bits from (suc w) v = spelled_bits (from * 2 + v / 2 ^ w % 2) w v ∙ more from w v

-- behind as many bits, a number is what stood in front of them
spelled_high : (from : ℕ) (xs : List ℕ) → AllBits xs → spelled from xs / 2 ^ length xs ≡ from
unfolding spelled
spelled_high from [] p = div-one from
spelled_high from (x ∷ xs) p =
    let i : spelled (from * 2 + x) xs / 2 ^ length xs ≡ from * 2 + x = spelled_high (from * 2 + x) xs p.1 in
    let small = p.0 in
    let half : (from * 2 + x) / 2 ≡ from = omega arith in
    ap (λ n. spelled (from * 2 + x) xs / n) (pow-suc 2 (length xs)) ∙ (sym (div-div-eq-div-mul (spelled (from * 2 + x) xs) (2 ^ length xs) 2) ∙ (ap (λ n. n / 2) i ∙ half))

-- the bits of what bits spell are those bits
pub bits_spelled : (from : ℕ) (xs : List ℕ) → AllBits xs → bits (length xs) (spelled from xs) ≡ xs
unfolding spelled bits
bits_spelled from [] p = refl
bits_spelled from (x ∷ xs) p =
    let h = spelled_high (from * 2 + x) xs p.1 in
    let small = p.0 in
    let top : (from * 2 + x) % 2 ≡ x = omega arith in
    ap₂ (λ b bs. b ∷ bs) (ap (λ n. n % 2) h ∙ top) (bits_spelled (from * 2 + x) xs p.1)

-- where the bits of v stand, v is read
pub field_here : (s : List ℕ) (p w v : ℕ) (post : List ℕ) → drop p s ≡ bits w v ++ post → p + w ≤ length s → v < 2 ^ w → field s p w ≡ Ok v
field_here s p w v post e h lt =
    let cut : take w (drop p s) ≡ bits w v = ap (take w) e ∙ take_at (bits w v) post w (bits_long w v) in
    let n : spelled 0 (take w (drop p s)) ≡ 0 * 2 ^ w + v % 2 ^ w = ap (spelled 0) cut ∙ spelled_bits 0 w v in
    let z = zero-mul (2 ^ w) in
    let m : v % 2 ^ w ≡ v = mod-eq_of_lt lt in
    cond-true _ _ _ (le-leb _ _ h) ∙ ap Ok (omega arith)

-- what stands behind
pub past : (s : List ℕ) (p n : ℕ) (xs post : List ℕ) → drop p s ≡ xs ++ post → length xs ≡ n → drop (p + n) s ≡ post
past s p n xs post e h = sym (drop-drop n p s) ∙ (ap (drop n) e ∙ drop_at xs post n h)

pub gather_here : (s front : List ℕ) (p w : ℕ) (vs post : List ℕ) → drop p s ≡ fields w vs ++ post → p + length vs * w ≤ length s
    → ((i : ℕ) → get_or vs i 0 < 2 ^ w) → gather front s p w (length vs) ≡ Ok (front ++ vs)
unfolding gather fields
gather_here s front p w [] post e h f = ap Ok (sym (append-nil front))
gather_here s front p w (v ∷ vs) post e h f =
    let m = suc-mul (length vs) w in
    let e1 : drop p s ≡ bits w v ++ (fields w vs ++ post) = e ∙ append_assoc (bits w v) (fields w vs) post in
    let here : field s p w ≡ Ok v = field_here s p w v (fields w vs ++ post) e1 (omega arith) (f 0) in
    let rest = past s p w (bits w v) (fields w vs ++ post) e1 (bits_long w v) in
    ap (λ r. then r (λ x. gather (front ++ x ∷ []) s (p + w) w (length vs))) here
    ∙ (gather_here s (front ++ v ∷ []) (p + w) w vs post rest (omega arith) (λ i. f (suc i))
    ∙ ap Ok (append_assoc front (v ∷ []) vs))

all_take : (n : ℕ) (xs : List ℕ) → AllBits xs → AllBits (take n xs)
all_take zero xs p = tt
all_take (suc n) [] p = tt
all_take (suc n) (x ∷ xs) p = (p.0, all_take n xs p.1)

all_drop : (n : ℕ) (xs : List ℕ) → AllBits xs → AllBits (drop n xs)
all_drop zero xs p = p
all_drop (suc n) [] p = tt
all_drop (suc n) (x ∷ xs) p = all_drop n xs p.1

-- a chain that ends well went well at its first step
pub then_back : {A B E : Type 0} (r : Result A E) (f : A → Result B E) (y : B) → then r f ≡ Ok y → (x : A) × (r ≡ Ok x) × (f x ≡ Ok y)
then_back (Ok x) f y e = (x, refl, e)
then_back (Err d) f y e = let z : ◌≡◌ {A = ℕ} 0 1 = cc in absurd (omega arith)

pub then_elim : {A B E C : Type 0} (r : Result A E) (f : A → Result B E) (y : B) → then r f ≡ Ok y → ((x : A) → r ≡ Ok x → f x ≡ Ok y → C) → C
then_elim r f y e g = let b = then_back r f y e in g b.0 b.1 b.2

-- where v is read, its bits stand
pub field_back : (s : List ℕ) (p w v : ℕ) → AllBits s → field s p w ≡ Ok v → (p + w ≤ length s) × (drop p s ≡ bits w v ++ drop (p + w) s)
field_back s p w v q e = go (leb (p + w) (length s)) refl
  where
    go : (t : Bool) → leb (p + w) (length s) ≡ t → (p + w ≤ length s) × (drop p s ≡ bits w v ++ drop (p + w) s)
    go true h =
        let le : p + w ≤ length s = leb-true _ _ h in
        let ok : Ok (spelled 0 (take w (drop p s))) ≡ Ok v = sym (cond-true _ _ _ h) ∙ e in
        let is : spelled 0 (take w (drop p s)) ≡ v = cc in
        let d = length-drop p s in
        let n : length (take w (drop p s)) ≡ w = length-take-le w (drop p s) (omega arith) in
        let b : take w (drop p s) ≡ bits w v =
        sym (bits_spelled 0 (take w (drop p s)) (all_take w (drop p s) (all_drop p s q))) ∙ ap₂ bits n is in
        (le, sym (take-append-drop w (drop p s)) ∙ ap₂ (λ xs ys. xs ++ ys) b (drop-drop w p s))
    go false h =
        let bad : refused BytesEnd p ≡ Ok v = sym (cond-false _ _ _ h) ∙ e in
        let z : ◌≡◌ {A = ℕ} 0 1 = cc in absurd (omega arith)

-- n fields that were read from p on
record Gathered (front s : List ℕ) (p w n : ℕ) (vs : List ℕ) : Type 0 where
  own : List ℕ
  behind : vs ≡ front ++ own
  long : length own ≡ n
  stand : drop p s ≡ fields w own ++ drop (p + n * w) s

gather_back : (front s : List ℕ) (p w n : ℕ) (vs : List ℕ) → AllBits s → gather front s p w n ≡ Ok vs → Gathered front s p w n vs
unfolding gather fields
gather_back front s p w zero vs q e =
    let is : front ≡ vs = cc in
    let z = zero-mul w in
    let k : p ≡ p + zero * w = omega arith in
    record { own = []; behind = sym is ∙ sym (append-nil front); long = refl; stand = ap (λ j. drop j s) k }
gather_back front s p w (suc n) vs q e =
    let r = then_back (field s p w) (λ x. gather (front ++ x ∷ []) s (p + w) w n) vs e in
    let v : ℕ = r.0 in
    let b = field_back s p w v q r.1 in
    let g = gather_back (front ++ v ∷ []) s (p + w) w n vs q r.2 in
    let m = suc-mul n w in
    let k : (p + w) + n * w ≡ p + suc n * w = omega arith in
    record {
      own = v ∷ g.own;
      behind = g.behind ∙ append_assoc front (v ∷ []) g.own;
      long = ap suc g.long;
      stand = b.1 ∙ (ap (λ l. bits w v ++ l) (g.stand ∙ ap (λ j. fields w g.own ++ drop j s) k) ∙ sym (append_assoc (bits w v) (fields w g.own) (drop (p + suc n * w) s)));
    }

pub gather_all : (s : List ℕ) (p w n : ℕ) (vs : List ℕ) → AllBits s → gather [] s p w n ≡ Ok vs → (length vs ≡ n) × (drop p s ≡ fields w vs ++ drop (p + n * w) s)
gather_all s p w n vs q e =
    let g = gather_back [] s p w n vs q e in
    (ap length g.behind ∙ g.long, g.stand ∙ ap (λ l. fields w l ++ drop (p + n * w) s) (sym g.behind))
