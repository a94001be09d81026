-- The rule keeps frames well formed.
use Rattle.std.proofs.Common.{◌≡◌, ℕ, zero, suc, List, [], ◌∷◌, length, get_or, sym, ◌∙◌, ap, subst, arith, All}
use Rattle.std.proofs.lemmas.List.{length-set}
use Rattle.std.proofs.lemmas.List.Elements.{All-set}
use Rattle.jc_base.proofs.Lists.{All-slice_get}
use Rattle.jc_base.specs.declared.ty.Ty.{Ty}
use Rattle.jc_base.specs.declared.ty.Ty.TheVariants.{Bottom, Short, IntHigh, IntLow, Null, Class, ArrBool}
use Rattle.jc_base.specs.declared.ty.Ty.TheVariants.{ArrByte, ArrShort, ArrInt, ArrRef, Fresh, Top}
use Rattle.jc_base.specs.Class.{ClassTable}
use Rattle.jc_base.specs.Laws.{IsOrderOfTypes}
use Rattle.jc_base.specs.Order.{Below, IsJoin, IsKnown, nothing}
use Rattle.jc_base.specs.Linked.{IsMethod}
use Rattle.jc_base.specs.World.{Linked, IsWorld}
use Rattle.jc_decode.specs.declared.insn.Insn.{Insn}
use Rattle.jc_ops.specs.declared.operation.Site.{Site}
use Rattle.jc_ops.specs.Sound.{IsSound, OperationsAreSound}
use Rattle.jc_rules.specs.declared.effect.Cells.{Cells}
use Rattle.jc_rules.specs.declared.effect.Cells.TheVariants as given
use Rattle.jc_rules.specs.declared.effect.Mode.{Mode}
use Rattle.jc_rules.specs.declared.effect.Mode.TheVariants.{Card, Flow}
use Rattle.jc_rules.specs.Effect.{IsStoredOver, WritesRegister, WritesCells, reg}
use Rattle.jc_rules.specs.Flow.{IsNotFresh}
use Rattle.jc_rules.specs.Apply.{Applies}
use Rattle.jc_rules.specs.Laws.{IsNotBottom, OperationKeeps, RuleKeeps}
use Rattle.jc_rules.proofs.Falls.{bottom-least, fresh_is_bottom, fresh_not_below_bottom}
use Rattle.jc_rules.specs.declared.rule.Outcome.{Outcome}
use Rattle.jc_rules.specs.Demand.{Frame}
use Rattle.jc_rules.proofs.Effects.{CellsKept, CellsFull, suits, sound-known, stored-full, changed-known, changed-full, changed-topless}

-- what is read, or Top
pub all-or : (P : Ty → Type 0) (xs : List Ty) (n : ℕ) → P Top → All P xs → P (get_or xs n Top)
all-or P [] n top h = top
all-or P (x ∷ xs) zero top h = h 0 x (omega arith)
all-or P (x ∷ xs) (suc n) top h = all-or P xs n top (λ k d lt. h (suc k) d (omega arith))

module _ (t : ClassTable) (are : IsOrderOfTypes t) where
  -- the join of two types is an uninitialised object only where one of them is
  pub join-not_fresh : (a b j : Ty) → IsNotFresh a → IsNotFresh b → IsJoin t a b j → IsNotFresh j
  join-not_fresh a b (Fresh p c) h k is =
      let a_bottom : a ≡ Bottom = fresh_is_bottom t p c a h is.left in
      let b_bottom : b ≡ Bottom = fresh_is_bottom t p c b k is.right in
      fresh_not_below_bottom t p c
      (is.least Bottom (subst (λ x. Below t x Bottom) (sym a_bottom) nothing) (subst (λ x. Below t x Bottom) (sym b_bottom) nothing))
  join-not_fresh a b Bottom h k is = tt
  join-not_fresh a b Short h k is = tt
  join-not_fresh a b IntHigh h k is = tt
  join-not_fresh a b IntLow h k is = tt
  join-not_fresh a b Null h k is = tt
  join-not_fresh a b (Class c) h k is = tt
  join-not_fresh a b ArrBool h k is = tt
  join-not_fresh a b ArrByte h k is = tt
  join-not_fresh a b ArrShort h k is = tt
  join-not_fresh a b ArrInt h k is = tt
  join-not_fresh a b (ArrRef c) h k is = tt
  join-not_fresh a b Top h k is = tt

  stored-known : (mode : Mode) (held ty now : Ty) → IsStoredOver t mode held ty now → IsKnown t held → IsKnown t ty → IsKnown t now
  stored-known Flow held ty now e h k = subst (IsKnown t) (sym e) k
  stored-known Card held ty now is h k = are.known h k is

  stored-not_fresh : (mode : Mode) (held ty now : Ty) → IsStoredOver t mode held ty now → IsNotFresh held → IsNotFresh ty → IsNotFresh now
  stored-not_fresh Flow held ty now e n m = subst IsNotFresh (sym e) m
  stored-not_fresh Card held ty now is n m = join-not_fresh held ty now n m is

  module _ (mode : Mode) where
    -- a register is written with what has a property that both the held type and the stored one have
    module _ (P : Ty → Type 0) (top : P Top) (keeps : (held ty now : Ty) → IsStoredOver t mode held ty now → P held → P ty → P now) where
      writes-keeps : {x : ℕ} {ty : Ty} {regs after : List Ty} → WritesRegister t mode x ty regs after → P ty → All P regs → All P after
      writes-keeps {x} {ty} {regs} u p all =
          subst (All P) (sym u.after_is) (All-set P regs x u.value (keeps (reg regs x) ty u.value u.stored (all-or P regs x top all) p) all)

    writes-length : {x : ℕ} {ty : Ty} {regs after : List Ty} → WritesRegister t mode x ty regs after → length after ≡ length regs
    writes-length {x} {ty} {regs} u = ap length u.after_is ∙ length-set regs x u.value

    stores-length : (x : ℕ) (cells : Cells) (regs after : List Ty) → WritesCells t mode x cells regs after → length after ≡ length regs
    stores-length x given.Nothing regs after u = ap length u
    stores-length x (given.One ty) regs after u = writes-length u
    stores-length x given.Int regs after u = writes-length u.low ∙ writes-length u.high

    stores-known : (x : ℕ) (cells : Cells) (regs after : List Ty) → WritesCells t mode x cells regs after → CellsKept t cells → All (IsKnown t) regs
        → All (IsKnown t) after
    stores-known x given.Nothing regs after u k all = subst (All (IsKnown t)) (sym u) all
    stores-known x (given.One ty) regs after u k all = writes-keeps (IsKnown t) tt (stored-known mode) u k.0 all
    stores-known x given.Int regs after u k all =
        writes-keeps (IsKnown t) tt (stored-known mode) u.low tt (writes-keeps (IsKnown t) tt (stored-known mode) u.high tt all)

    stores-not_fresh : (x : ℕ) (cells : Cells) (regs after : List Ty) → WritesCells t mode x cells regs after → CellsKept t cells
        → All IsNotFresh regs → All IsNotFresh after
    stores-not_fresh x given.Nothing regs after u k none = subst (All IsNotFresh) (sym u) none
    stores-not_fresh x (given.One ty) regs after u k none = writes-keeps IsNotFresh tt (stored-not_fresh mode) u k.1 none
    stores-not_fresh x given.Int regs after u k none =
        writes-keeps IsNotFresh tt (stored-not_fresh mode) u.low tt (writes-keeps IsNotFresh tt (stored-not_fresh mode) u.high tt none)

-- a type of which Bottom is no upper bound
pub full-below : (t : ClassTable) (are : IsOrderOfTypes t) (a b : Ty) → Below t a b → IsNotBottom a → IsNotBottom b
full-below t are a u le n = grind (arith, bottom-least)

module _ (t : ClassTable) (are : IsOrderOfTypes t) where
  kept-full : (mode : Mode) (held ty now : Ty) → IsStoredOver t mode held ty now → IsNotBottom held → IsNotBottom ty → IsNotBottom now
  kept-full x held ty now e h n = grind (arith, full-below)

  module _ (mode : Mode) where
    stores-full : (x : ℕ) (cells : Cells) (regs after : List Ty) → WritesCells t mode x cells regs after → CellsFull cells → All IsNotBottom regs
        → All IsNotBottom after
    stores-full x given.Nothing regs after u k none = subst (All IsNotBottom) (sym u) none
    stores-full x (given.One ty) regs after u k none = writes-keeps t are mode IsNotBottom tt (kept-full mode) u k none
    stores-full x given.Int regs after u k none =
        writes-keeps t are mode IsNotBottom tt (kept-full mode) u.low tt (writes-keeps t are mode IsNotBottom tt (kept-full mode) u.high tt none)

pub operation-keeps : (w : Linked) → IsWorld w → IsOrderOfTypes w.classes → OperationKeeps w
operation-keeps w is are limit m place op mode before after o sound k a =
    grind (
      arith,
      suits w is before k op (sound-known w m place op sound) a.asked,
      stores-length,
      stores-known,
      changed-known,
      stores-not_fresh,
      changed-full,
      changed-topless,
      stores-full,
      stored-full,
    )

-- the operation at a site is sound
pub site-sound : (w : Linked) (is : IsWorld w) → OperationsAreSound w → {site : Site} {i : Insn} {mode : Mode} {before after : Frame} {o : Outcome}
    → (a : Applies w site i mode before after o) → IsSound w a.method site.place a.rule.operation
site-sound w is sound {site = site} {i = i} a =
    sound a.method site.place i a.rule.operation
    (All-slice_get (IsMethod w.infos w.pools w.classes) w.methods site.method a.method is.methods a.is_method).result a.rule.resolves

pub rule-keeps : (w : Linked) → IsWorld w → IsOrderOfTypes w.classes → OperationsAreSound w → RuleKeeps w
rule-keeps w is are sound site i mode before after o k a =
    operation-keeps w is are a.method.max_stack a.method site.place a.rule.operation mode before after o (site-sound w is sound a) k a.rule.does
