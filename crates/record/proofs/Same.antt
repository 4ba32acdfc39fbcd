-- Two records with the same published form are the same value.
use Rattle.std.proofs.Common.{◌≡◌, ◌-◌, ◌≤◌, Bool, ◌&&◌, eqb, ◌++◌, length, drop, replicate, Decides, sym, refl, ap, ◌∙◌, ap₂, rules}
use mathlib.Core.HLevel.{is_prop→PathP}
use mathlib.Core.List.{is_set}
use native.Mathlib.Bridge.{le_prop}
use native.Mathlib.Nat.{ℕ_set}
use Rattle.std.proofs.lemmas.List.{take-append-drop}
use Rattle.std.proofs.lemmas.Bool.Decides.{Decides-and, Decides-at, Decides-eqb, Decides-like}
use Rattle.std.specs.Bool.{beq}
use Rattle.std.specs.Cmp.{booleans_Decides}
use Rattle.std.specs.Cmp.Lexicographic.{pointwise, pointwise_decides}
use Rattle.record.specs.Contents.{Contents, contents}
use Rattle.record.specs.Queue.{items}
use Rattle.record.specs.View.{ViewsTell, contents_of}
use Rattle.record.specs.declared.machine.Record.{Record}
use Rattle.record.specs.declared.state.Conditions.{Conditions}
use Rattle.record.specs.declared.state.Control.{Control}
use Rattle.record.specs.declared.state.Core.{Core}
use Rattle.record.specs.declared.state.Mode.{Mode}
use Rattle.record.specs.declared.state.StackPair.{StackPair}
use Rattle.record.specs.declared.queue.Queue.{Queue}
use Rattle.record.proofs.Queues.{items_long}
use Rattle.record.proofs.Views.{rebuilt}

-- what a queue holds, and the zeros behind it
filled : (q : Queue) → items q ++ replicate (64 - q.len) 0 ≡ q.bytes
filled q = ap (λ l. items q ++ l) (sym q.blank) ∙ take-append-drop q.len q.bytes

-- two queues with the same bytes and length are the same value
queue_of_parts : (p q : Queue) → p.bytes ≡ q.bytes → p.len ≡ q.len → p ≡ q
queue_of_parts p q eb el =
    λ i. record {
      bytes = eb i;
      len = el i;
      sized = is_prop→PathP (λ j. length (eb j) ≡ 64) (λ j. ℕ_set (length (eb j)) 64) p.sized q.sized i;
      few = is_prop→PathP (λ j. el j ≤ 64) (λ j. le_prop) p.few q.few i;
      blank = is_prop→PathP (λ j. drop (el j) (eb j) ≡ replicate (64 - el j) 0) (λ j. is_set ℕ_set (drop (el j) (eb j)) (replicate (64 - el j) 0)) p.blank q.blank i;
    }

-- two queues that hold the same are the same value
pub queue_same : (p q : Queue) → items p ≡ items q → p ≡ q
queue_same p q e =
    let el : p.len ≡ q.len = sym (items_long p) ∙ (ap length e ∙ items_long q) in
    queue_of_parts p q (sym (filled p) ∙ (ap₂ (λ l n. l ++ replicate (64 - n) 0) e el ∙ filled q)) el

contents_same : (a b : Record) → contents a ≡ contents b → a ≡ b
contents_same a b e =
    let ek : a.keys ≡ b.keys = queue_same a.keys b.keys (ap (λ (c : Contents). c.keys) e) in
    let et : a.tray ≡ b.tray = queue_same a.tray b.tray (ap (λ (c : Contents). c.tray) e) in
    λ i. record {
      core = (e i).core;
      mode = (e i).mode;
      parked = (e i).parked;
      control = (e i).control;
      keys = ek i;
      tray = et i;
      sized = is_prop→PathP (λ j. length (e j).core.regs ≡ 16) (λ j. ℕ_set (length (e j).core.regs) 16) a.sized b.sized i;
    }

pub views_tell : ViewsTell
views_tell a b e =
    contents_same a b (sym (rebuilt (contents a) a.sized) ∙ (ap contents_of e ∙ rebuilt (contents b) b.sized))

-- What the derived `==` of each part computes: its fields one after the other. Each tells whether two
-- such parts are the same value.
abbrev conditions_test : Conditions → Conditions → Bool
conditions_test a b = beq a.z b.z && (beq a.n b.n && beq a.err b.err)

abbrev core_test : Core → Core → Bool
core_test a b = pointwise eqb a.regs b.regs && conditions_test a.conditions b.conditions

abbrev mode_test : Mode → Mode → Bool
mode_test a b = beq a.running b.running && (beq a.system b.system && (beq a.in_interrupt b.in_interrupt && beq a.paging b.paging))

abbrev pair_test : StackPair → StackPair → Bool
pair_test a b = eqb a.sp b.sp && eqb a.fp b.fp

abbrev control_test : Control → Control → Bool
control_test a b =
    eqb a.pdbr.base b.pdbr.base && (eqb a.intvec b.intvec && (eqb a.cgbr b.cgbr && (eqb a.cglen b.cglen && (eqb a.debug b.debug && eqb a.timer b.timer))))

abbrev queue_test : Queue → Queue → Bool
queue_test p q = pointwise eqb p.bytes q.bytes && eqb p.len q.len

conditions_decide : (a b : Conditions) → Decides (conditions_test a b) (a ≡ b)
conditions_decide a b = search (rules, booleans_Decides)

core_decides : (a b : Core) → Decides (core_test a b) (a ≡ b)
core_decides a b =
    Decides-like _
    (λ h i. record { regs = h.0 i; conditions = h.1 i })
    (λ e. (ap (λ (x : Core). x.regs) e, ap (λ (x : Core). x.conditions) e))
    (Decides-and _ _ (pointwise_decides Decides-eqb a.regs b.regs) (conditions_decide a.conditions b.conditions))

mode_decides : (a b : Mode) → Decides (mode_test a b) (a ≡ b)
mode_decides a b = search (rules, booleans_Decides)

pair_decides : (a b : StackPair) → Decides (pair_test a b) (a ≡ b)
pair_decides a b = search rules

control_decides : (a b : Control) → Decides (control_test a b) (a ≡ b)
control_decides a b = search rules

pub queue_decides : (p q : Queue) (r : Bool) → r ≡ queue_test p q → Decides r (p ≡ q)
queue_decides p q r e =
    Decides-at r _ e (Decides-like _
    (λ h. queue_of_parts p q h.0 h.1)
    (λ h. (ap (λ (x : Queue). x.bytes) h, ap (λ (x : Queue). x.len) h))
    (Decides-and _ _ (pointwise_decides Decides-eqb p.bytes q.bytes) (Decides-eqb p.len q.len)))

-- and of records
pub record_decides : (a b : Record) (r : Bool)
    → r ≡ (core_test a.core b.core && (mode_test a.mode b.mode && (pair_test a.parked b.parked && (control_test a.control b.control && (queue_test a.keys b.keys && queue_test a.tray b.tray)))))
    → Decides r (a ≡ b)
record_decides a b r e =
    Decides-at r _ e (Decides-like _
    (λ h i. record {
      core = h.0 i;
      mode = h.1.0 i;
      parked = h.1.1.0 i;
      control = h.1.1.1.0 i;
      keys = h.1.1.1.1.0 i;
      tray = h.1.1.1.1.1 i;
      sized = is_prop→PathP (λ j. length (h.0 j).regs ≡ 16) (λ j. ℕ_set (length (h.0 j).regs) 16) a.sized b.sized i;
    })
    (λ p. (ap (λ (x : Record). x.core) p, (ap (λ (x : Record). x.mode) p, (ap (λ (x : Record). x.parked) p, (ap (λ (x : Record). x.control) p, (ap (λ (x : Record). x.keys) p, ap (λ (x : Record). x.tray) p))))))
    (Decides-and _ _ (core_decides a.core b.core)
    (Decides-and _ _ (mode_decides a.mode b.mode)
    (Decides-and _ _ (pair_decides a.parked b.parked)
    (Decides-and _ _ (control_decides a.control b.control)
    (Decides-and _ _ (queue_decides a.keys b.keys _ refl) (queue_decides a.tray b.tray _ refl)))))))
