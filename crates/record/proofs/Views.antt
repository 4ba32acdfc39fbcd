-- The published form of a machine record.
use Rattle.std.proofs.Common.{◌≡◌, ℕ, ◌%◌, Bool, true, false, not, List, [], ◌∷◌, length, get_or, take, set, sym, refl, ap, ◌∙◌, subst, ap₂, arith}
use mathlib.Core.Bool.{not-not}
use Rattle.std.proofs.lemmas.List.{get_or-set_same, get_or-set_other, length-set, take_all, take-set-le}
use Rattle.std.proofs.lemmas.Bool.{cond-false, cond-true}
use Rattle.record.specs.Contents.{Contents, switched, with_flags, with_system, flagged}
use Rattle.record.specs.Flags.{flags_from, conditions_of, mode_of}
use Rattle.record.specs.View.{arranged, contents_of, control_of, pair_of, registers_of, view, view_with_flags, words}
use Rattle.record.specs.declared.state.Conditions.{Conditions}
use Rattle.record.specs.declared.state.Control.{Control}
use Rattle.record.specs.declared.state.Mode.{Mode}
use Rattle.record.specs.declared.state.StackPair.{StackPair}
use Rattle.record.proofs.Flags.{flags_back, flags_there}
use Rattle.record.proofs.Lists.{listing, listed}

-- registers 13 and 14 written, as a change of mode does
traded : (regs : List ℕ) (a b : ℕ) → length regs ≡ 16
    → (take 13 (set (set regs 13 a) 14 b) ≡ take 13 regs) × (get_or (set (set regs 13 a) 14 b) 13 0 ≡ a)
    × (get_or (set (set regs 13 a) 14 b) 14 0 ≡ b) × (get_or (set (set regs 13 a) 14 b) 15 0 ≡ get_or regs 15 0)
traded regs a b h =
    let one : List ℕ = set regs 13 a in
    let long : length one ≡ 16 = length-set regs 13 a ∙ h in (
      take-set-le 13 one 14 b (omega arith) ∙ take-set-le 13 regs 13 a (omega arith),
      get_or-set_other one 14 13 b 0 (omega arith) ∙ get_or-set_same regs 13 a 0 (omega arith),
      get_or-set_same one 14 b 0 (omega arith),
      get_or-set_other one 14 15 b 0 (omega arith) ∙ get_or-set_other regs 13 15 a 0 (omega arith),
    )

-- a change of mode keeps the words
pub switched_words : (c : Contents) → length c.core.regs ≡ 16 → words (switched c) ≡ words c
switched_words c h = go c.mode.system refl
  where
    go : (s : Bool) → c.mode.system ≡ s → words (switched c) ≡ words c
    go true e = let t = traded c.core.regs c.parked.sp c.parked.fp h in rw (e, t.0, t.1, t.2, t.3) refl
    go false e = let t = traded c.core.regs c.parked.sp c.parked.fp h in rw (e, t.0, t.1, t.2, t.3) refl

-- setting SYS sets SYS, and keeps words, keys and tray
pub system_set : (c : Contents) (on : Bool) → length c.core.regs ≡ 16
    → (words (with_system c on) ≡ words c) × ((with_system c on).mode.system ≡ on) × ((with_system c on).keys ≡ c.keys) × ((with_system c on).tray ≡ c.tray)
system_set c on h = go c.mode.system refl on
  where
    stays : (d : Contents) (o : Bool) → d ≡ c → c.mode.system ≡ o → (words d ≡ words c) × (d.mode.system ≡ o) × (d.keys ≡ c.keys) × (d.tray ≡ c.tray)
    stays d o e es = (ap words e, ap (λ x. x.mode.system) e ∙ es, ap (λ x. x.keys) e, ap (λ x. x.tray) e)

    turns : (d : Contents) (o : Bool) → d ≡ switched c → c.mode.system ≡ not o → (words d ≡ words c) × (d.mode.system ≡ o) × (d.keys ≡ c.keys) × (d.tray ≡ c.tray)
    turns d o e es =
        (ap words e ∙ switched_words c h, ap (λ x. x.mode.system) e ∙ (ap not es ∙ not-not o), ap (λ x. x.keys) e, ap (λ x. x.tray) e)

    go : (s : Bool) → c.mode.system ≡ s → (o : Bool)
        → (words (with_system c o) ≡ words c) × ((with_system c o).mode.system ≡ o) × ((with_system c o).keys ≡ c.keys) × ((with_system c o).tray ≡ c.tray)
    go true es true = stays (with_system c true) true (cond-true _ _ _ es) es
    go true es false = turns (with_system c false) false (cond-true _ _ _ es) es
    go false es true = turns (with_system c true) true (cond-false _ _ _ es) es
    go false es false = stays (with_system c false) false (cond-false _ _ _ es) es

flagged_words : (d : Contents) (f : ℕ) → d.mode.system ≡ (mode_of f).system → words (flagged d f) ≡ words d
flagged_words d f e = rw e refl

-- setting the flags sets the flags, and keeps words, keys and tray
pub flags_set : (c : Contents) (f : ℕ) → length c.core.regs ≡ 16 → view (with_flags c f) ≡ view_with_flags (view c) f
flags_set c f h =
    let x = system_set c (mode_of f).system h in
    let w : words (with_flags c f) ≡ words c = flagged_words (with_system c (mode_of f).system) f x.1 ∙ x.0 in
    λ i. record { words = w i; flags = flags_there f i; keys = x.2 i; tray = x.3 i }

pub flags_after : (c d : Contents) (f : ℕ) (k : Conditions) (m : Mode) → k ≡ conditions_of f → m ≡ mode_of f → d ≡ with_system c m.system
    → record { core = record { regs = d.core.regs; conditions = k }; mode = m; parked = d.parked; control = d.control; keys = d.keys; tray = d.tray } ≡ with_flags c f
flags_after c d f k m ek em ed = rw (ed, ek, em) refl

-- a list of that length, element by element
whole : (n : ℕ) (xs : List ℕ) → length xs ≡ n → listing n 0 xs ≡ xs
whole n xs h = sym (listed n 0 xs (omega arith)) ∙ take_all n xs (omega arith)

-- a record made part by part
pub made_contents : (ws keys tray : List ℕ) (f : ℕ) (m : Mode) (k : Conditions) (running parked : StackPair) (regs : List ℕ) (control : Control)
    → m ≡ mode_of f → k ≡ conditions_of f → running ≡ pair_of ws m.system → parked ≡ pair_of ws (not m.system) → regs ≡ registers_of ws running → control ≡ control_of ws
    → record { core = record { regs = regs; conditions = k }; mode = m; parked = parked; control = control; keys = keys; tray = tray }
    ≡ contents_of (record { words = ws; flags = f; keys = keys; tray = tray })
made_contents ws keys tray f m k running parked regs control em ek er ep es ec = rw (es, ec, ep, er, ek, em) refl

-- the published form of a record made of words and flags
pub made_view : (ws keys tray : List ℕ) (f : ℕ) → length ws ≡ 24
    → view (contents_of (record { words = ws; flags = f; keys = keys; tray = tray })) ≡ record { words = ws; flags = f % 128; keys = keys; tray = tray }
made_view ws keys tray f h =
    let P : List ℕ → Type 0 =
    λ l. view (contents_of (record { words = l; flags = f; keys = keys; tray = tray })) ≡ record { words = l; flags = f % 128; keys = keys; tray = tray } in
    subst P (whole 24 ws h) (go (get_or ws 0 0) (get_or ws 1 0) (get_or ws 2 0) (get_or ws 3 0) (get_or ws 4 0) (get_or ws 5 0) (get_or ws 6 0) (get_or ws 7 0) (get_or ws 8 0) (get_or ws 9 0) (get_or ws 10 0) (get_or ws 11 0) (get_or ws 12 0) (get_or ws 13 0) (get_or ws 14 0) (get_or ws 15 0) (get_or ws 16 0) (get_or ws 17 0) (get_or ws 18 0) (get_or ws 19 0) (get_or ws 20 0) (get_or ws 21 0) (get_or ws 22 0) (get_or ws 23 0) (mode_of f).system refl)
  where
    low : flags_from (conditions_of f) (mode_of f) ≡ f % 128
    low = flags_there f

    go : (a0 a1 a2 a3 a4 a5 a6 a7 a8 a9 a10 a11 a12 a13 a14 a15 a16 a17 a18 a19 a20 a21 a22 a23 : ℕ) (s : Bool) → (mode_of f).system ≡ s
        → view (contents_of (record { words = a0 ∷ a1 ∷ a2 ∷ a3 ∷ a4 ∷ a5 ∷ a6 ∷ a7 ∷ a8 ∷ a9 ∷ a10 ∷ a11 ∷ a12 ∷ a13 ∷ a14 ∷ a15 ∷ a16 ∷ a17 ∷ a18 ∷ a19 ∷ a20 ∷ a21 ∷ a22 ∷ a23 ∷ []; flags = f; keys = keys; tray = tray }))
        ≡ record { words = a0 ∷ a1 ∷ a2 ∷ a3 ∷ a4 ∷ a5 ∷ a6 ∷ a7 ∷ a8 ∷ a9 ∷ a10 ∷ a11 ∷ a12 ∷ a13 ∷ a14 ∷ a15 ∷ a16 ∷ a17 ∷ a18 ∷ a19 ∷ a20 ∷ a21 ∷ a22 ∷ a23 ∷ []; flags = f % 128; keys = keys; tray = tray }
    go a0 a1 a2 a3 a4 a5 a6 a7 a8 a9 a10 a11 a12 a13 a14 a15 a16 a17 a18 a19 a20 a21 a22 a23 true e = rw (low, e) refl
    go a0 a1 a2 a3 a4 a5 a6 a7 a8 a9 a10 a11 a12 a13 a14 a15 a16 a17 a18 a19 a20 a21 a22 a23 false e = rw (low, e) refl

-- what a record holds is arranged from its published form
pub arranged_back : (c : Contents) → length c.core.regs ≡ 16 → arranged (words c) c.core.conditions c.mode c.keys c.tray ≡ c
arranged_back c h =
    let P : List ℕ → Type 0 =
    λ l. arranged (words (at l)) c.core.conditions c.mode c.keys c.tray ≡ at l in
    subst P (whole 16 c.core.regs h) (go (get_or c.core.regs 0 0) (get_or c.core.regs 1 0) (get_or c.core.regs 2 0) (get_or c.core.regs 3 0) (get_or c.core.regs 4 0) (get_or c.core.regs 5 0) (get_or c.core.regs 6 0) (get_or c.core.regs 7 0) (get_or c.core.regs 8 0) (get_or c.core.regs 9 0) (get_or c.core.regs 10 0) (get_or c.core.regs 11 0) (get_or c.core.regs 12 0) (get_or c.core.regs 13 0) (get_or c.core.regs 14 0) (get_or c.core.regs 15 0) c.mode.system refl)
  where
    at : List ℕ → Contents
    at l = record { core = record { regs = l; conditions = c.core.conditions }; mode = c.mode; parked = c.parked; control = c.control; keys = c.keys; tray = c.tray }

    go : (r0 r1 r2 r3 r4 r5 r6 r7 r8 r9 r10 r11 r12 r13 r14 r15 : ℕ) (s : Bool) → c.mode.system ≡ s
        → arranged (words (at (r0 ∷ r1 ∷ r2 ∷ r3 ∷ r4 ∷ r5 ∷ r6 ∷ r7 ∷ r8 ∷ r9 ∷ r10 ∷ r11 ∷ r12 ∷ r13 ∷ r14 ∷ r15 ∷ []))) c.core.conditions c.mode c.keys c.tray
        ≡ at (r0 ∷ r1 ∷ r2 ∷ r3 ∷ r4 ∷ r5 ∷ r6 ∷ r7 ∷ r8 ∷ r9 ∷ r10 ∷ r11 ∷ r12 ∷ r13 ∷ r14 ∷ r15 ∷ [])
    go r0 r1 r2 r3 r4 r5 r6 r7 r8 r9 r10 r11 r12 r13 r14 r15 true e = rw e refl
    go r0 r1 r2 r3 r4 r5 r6 r7 r8 r9 r10 r11 r12 r13 r14 r15 false e = rw e refl

pub rebuilt : (c : Contents) → length c.core.regs ≡ 16 → contents_of (view c) ≡ c
rebuilt c h =
    let b = flags_back c.core.conditions c.mode in
    ap₂ (λ k m. arranged (words c) k m c.keys c.tray) b.0 b.1 ∙ arranged_back c h
