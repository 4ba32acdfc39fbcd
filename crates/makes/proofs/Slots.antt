-- The slots of a sparse shelf.
use Rattle.std.proofs.Common.{◌≡◌, ℕ, ◌-◌, ◌<◌, true, false, cond, eqb, List, length, get_or, set, replicate, Option, Some, None, sym, refl, ap, ◌∙◌, subst, ap₂, ⊎_elim, arith}
use Rattle.makes.proofs.Positions.{count_none, none-fails, position-is, position-none, position-set}
use Rattle.makes.specs.Slot.{Apart, count_idle, find, first_idle, idle, taken, tells}
use Rattle.makes.specs.Sparse.{claim}
use Rattle.makes.specs.declared.slot.Slot.{Slot}
use Rattle.shelf.specs.declared.address.BlockAddress.{BlockAddress}
use Rattle.std.proofs.lemmas.Bool.{and_from, and_parts, cases_Bool, cases_eq, eq-eqb, eqb-true}
use Rattle.std.proofs.lemmas.List.{get_or-replicate, get_or-set_other, get_or-set_same, length-replicate, length-set, set-get_or}
use Rattle.std.proofs.lemmas.List.Folds.{sum_by-replicate}
use Rattle.std.proofs.lemmas.List.Quantifiers.{position-Some}
use Rattle.std.proofs.lemmas.List.Sums.{get_or-le-sum_by, sum_by-set}
use Rattle.std.specs.Option.{is_none, is_some, option_or}

-- a slot that tells a block is taken for it
tells_is : (s : Slot) (d b : ℕ) → tells s d b ≡ true → s ≡ taken d b
tells_is s d b t = slot_ext s (taken d b) (holds s.held t)
  where
    slot_ext : (s r : Slot) → s.held ≡ r.held → s ≡ r
    slot_ext s r h i = record { held = h i }

    address_ext : (a c : BlockAddress) → a.drive ≡ c.drive → a.block ≡ c.block → a ≡ c
    address_ext a c p q i = record { drive = p i; block = q i }

    holds : (h : Option BlockAddress) → tells (record { held = h }) d b ≡ true → h ≡ (taken d b).held
    holds (Some at) t =
        let p = and_parts (eqb at.drive d) (eqb at.block b) t in
        ap Some (address_ext at (record { drive = d; block = b }) (eqb-true at.drive d p.0) (eqb-true at.block b p.1))
    holds None t = absurd (cc)

tells_taken : (d b : ℕ) → tells (taken d b) d b ≡ true
tells_taken d b = and_from (eqb d d) (eqb b b) (eq-eqb d d refl) (eq-eqb b b refl)

-- a slot that is not used tells none
tells_none : (s : Slot) (d b : ℕ) → is_none s.held ≡ true → tells s d b ≡ false
tells_none s d b f = none s.held f
  where
    none : (h : Option BlockAddress) → is_none h ≡ true → tells (record { held = h }) d b ≡ false
    none (Some at) f = absurd (cc)
    none None f = refl

-- a slot that is used for two blocks is used for one
taken_one : (e c d b : ℕ) → taken e c ≡ taken d b → (e ≡ d) × (c ≡ b)
taken_one e c d b q =
    let h : (taken e c).held ≡ (taken d b).held = ap (λ (s : Slot). s.held) q in
    let at : ◌≡◌ {A = BlockAddress} (record { drive = e; block = c }) (record { drive = d; block = b }) = cc in
    (ap (λ (a : BlockAddress). a.drive) at, ap (λ (a : BlockAddress). a.block) at)

-- the slot that a block has is taken for it
pub found_is : (slots : List Slot) (d b i : ℕ) → find slots d b ≡ Some i → (i < length slots) × (get_or slots i idle ≡ taken d b)
found_is slots d b i h =
    let p = position-Some (λ (s : Slot). tells s d b) slots i idle h in
    (p.0, tells_is (get_or slots i idle) d b p.1)

-- two blocks do not stand in one slot
pub apart : (slots : List Slot) (e c d b i : ℕ) → find slots e c ≡ Some i → find slots d b ≡ Some i → (e ≡ d) × (c ≡ b)
apart slots e c d b i p q = taken_one e c d b (sym (found_is slots e c i p).1 ∙ (found_is slots d b i q).1)

-- a slot that is free is there, and unused
free_is : (slots : List Slot) (i : ℕ) → first_idle slots ≡ Some i → (i < length slots) × (is_none (get_or slots i idle).held ≡ true)
free_is slots i h = let p = position-Some (λ (s : Slot). is_none s.held) slots i idle h in (p.0, p.1)

-- where no slot is free, none is unused
pub none_idle : (slots : List Slot) → first_idle slots ≡ None → count_idle slots ≡ 0
none_idle slots h = count_none (λ (s : Slot). is_none s.held) slots idle (none-fails (λ (s : Slot). is_none s.held) slots idle h)

-- where one is free, some are unused
pub some_idle : (slots : List Slot) (i : ℕ) → first_idle slots ≡ Some i → 0 < count_idle slots
some_idle slots i h =
    let one : cond {A = ℕ} (is_none (get_or slots i idle).held) 1 0 ≡ 1 = rw (free_is slots i h).1 refl in
    let g = get_or-le-sum_by (λ (s : Slot). cond {A = ℕ} (is_none s.held) 1 0) slots i idle (free_is slots i h).0 in
    omega arith

-- what a claim of slot i for block (d, b) gives
pub record Kept (slots slots' : List Slot) (d b i : ℕ) : Type 0 where
  pub long : length slots' ≡ length slots
  pub low : i < length slots
  pub here : find slots' d b ≡ Some i
  pub other : (e c : ℕ) → (((e ≡ d) × (c ≡ b)) → ⊥) → find slots' e c ≡ find slots e c
  pub spare : count_idle slots' ≡ cond (is_some (find slots d b)) (count_idle slots) (count_idle slots - 1)

-- the block had that slot, which is as it was
kept_own : (slots : List Slot) (d b i : ℕ) → find slots d b ≡ Some i → Kept slots (set slots i (taken d b)) d b i
kept_own slots d b i h =
    let f = found_is slots d b i h in
    let as_was : set slots i (taken d b) ≡ slots = ap (set slots i) (sym f.1) ∙ set-get_or slots i idle in
    subst (λ (x : List Slot). Kept slots x d b i) (sym as_was)
    (record { long = refl; low = f.0; here = h; other = λ e c ne. refl; spare = rw h refl })

-- a slot that was free is taken
kept_new : (slots : List Slot) (d b i : ℕ) → find slots d b ≡ None → first_idle slots ≡ Some i → Kept slots (set slots i (taken d b)) d b i
kept_new slots d b i none h =
    let free = free_is slots i h in
    let low = free.0 in
    let long = length-set slots i (taken d b) in
    let one : cond {A = ℕ} (is_none (get_or slots i idle).held) 1 0 ≡ 1 = rw free.1 refl in
    let sum = sum_by-set (λ (s : Slot). cond {A = ℕ} (is_none s.held) 1 0) slots i (taken d b) idle low in
    record {
      long = long;
      low = low;
      here = position-is (λ (s : Slot). tells s d b) (set slots i (taken d b)) i idle (omega arith)
          (subst (λ (s : Slot). tells s d b ≡ true) (sym (get_or-set_same slots i (taken d b) idle low)) (tells_taken d b))
          (λ k l. subst (λ (s : Slot). tells s d b ≡ false) (sym (get_or-set_other slots i k (taken d b) idle (omega arith)))
          (none-fails (λ (s : Slot). tells s d b) slots idle none k (omega arith)));
      other = λ e c ne. position-set (λ (s : Slot). tells s e c) slots i (taken d b) idle
          (⊎_elim (λ t. absurd (ne (taken_one e c d b (sym (tells_is (taken d b) e c t))))) (λ f. f ∙ sym (tells_none _ e c free.1)) (cases_Bool (tells (taken d b) e c)));
      spare = rw none (omega arith);
    }

-- a claim of a slot, by its two ways
pub kept : (slots : List Slot) (d b i : ℕ) → claim slots d b ≡ Some i → Kept slots (set slots i (taken d b)) d b i
kept slots d b i h = by_own (find slots d b) refl h
  where
    by_own : (own : Option ℕ) → find slots d b ≡ own → option_or own (first_idle slots) ≡ Some i → Kept slots (set slots i (taken d b)) d b i
    by_own (Some j) e h = kept_own slots d b i (e ∙ h)
    by_own None e h = kept_new slots d b i e h

-- it leaves no two slots to one block
pub kept_apart : (slots : List Slot) (d b i : ℕ) → Apart slots → claim slots d b ≡ Some i → Apart (set slots i (taken d b))
kept_apart slots d b i a h j e c g =
    let k = kept slots d b i h in
    ⊎_elim
    (λ (q : j ≡ i).
    let o = taken_one e c d b (sym g ∙ ap (λ (x : ℕ). get_or (set slots i (taken d b)) x idle) q ∙ get_or-set_same slots i (taken d b) idle k.low) in
    ap₂ (find (set slots i (taken d b))) o.0 o.1 ∙ k.here ∙ ap Some (sym q))
    (λ (ne : j ≡ i → ⊥).
    let own : find slots e c ≡ Some j = a j e c (sym (get_or-set_other slots i j (taken d b) idle ne) ∙ g) in
    let differ : (e ≡ d) × (c ≡ b) → ⊥ = λ q.
    let both : claim slots d b ≡ Some j = ap (λ (x : Option ℕ). option_or x (first_idle slots)) (sym (ap₂ (find slots) q.0 q.1) ∙ own) in
    let one : j ≡ i = cc in
    ne one in
    k.other e c differ ∙ own)
    (cases_eq j i)

-- slots as making leaves them
pub idle_find : (n d b : ℕ) → find (replicate n idle) d b ≡ None
idle_find n d b =
    position-none (λ (s : Slot). tells s d b) (replicate n idle) idle
    (λ k l. let q : k < n = omega (arith, length-replicate n idle) in rw (get_or-replicate n k idle idle q) refl)

pub idle_count : (n : ℕ) → count_idle (replicate n idle) ≡ n
idle_count n = let s = sum_by-replicate (λ (y : Slot). cond {A = ℕ} (is_none y.held) 1 0) n idle in omega arith
