-- What an operation asks and leaves, as numbers.
use Rattle.std.proofs.Common.{◌≡◌, ℕ, zero, suc, ◌+◌, ◌-◌, ◌<◌, ◌≤◌, ◌==◌, ◌⊎◌, inl, inr, if◌then◌else◌, List}
use Rattle.std.proofs.Common.{[], ◌∷◌, length, Option, Some, None, IsSomeAnd, slice_get, refl, sym, ◌∙◌, ap, subst, arith}
use Rattle.std.proofs.lemmas.List.{get_or-set_other}
use Rattle.std.proofs.lemmas.Option.{slice_get_within}
use Rattle.jc_base.specs.declared.ty.Ty.{Ty}
use Rattle.jc_base.specs.declared.ty.Ty.TheVariants.{Short, Top}
use Rattle.jc_base.specs.Class.{ClassTable}
use Rattle.jc_base.specs.World.{Linked, IsWorld}
use Rattle.jc_ops.specs.declared.operation.Want.{Want}
use Rattle.jc_ops.specs.declared.operation.Want.TheVariants.{Value}
use Rattle.jc_ops.specs.declared.operation.Sort.TheVariants as sorts
use Rattle.jc_ops.specs.declared.operation.Width.TheVariants as widths
use Rattle.jc_ops.specs.declared.operation.Operation.{Operation}
use Rattle.jc_ops.specs.declared.operation.Operation.TheVariants as ops
use Rattle.jc_ops.specs.Alike.{equal, loads, stores, increments}
use Rattle.jc_rules.specs.declared.demand.Demand.{Demand}
use Rattle.jc_rules.specs.declared.demand.Demand.TheVariants.{Registers, Depth, Cell, Cut, Held}
use Rattle.jc_rules.specs.declared.effect.Cells.{Cells}
use Rattle.jc_rules.specs.declared.effect.Cells.TheVariants as given
use Rattle.jc_rules.specs.declared.effect.Change.{Change}
use Rattle.jc_rules.specs.declared.effect.Mode.{Mode}
use Rattle.jc_rules.specs.declared.effect.Mode.TheVariants.{Card}
use Rattle.jc_rules.specs.Effect.{in_stack_order, changed, cells_needed, depth_after, reg}
use Rattle.jc_rules.specs.Effect.{WritesRegister, WritesCells, StoresInRegisters, raises_register}
use Rattle.jc_rules.specs.Demand.{Frame, Meets, Satisfies, SatisfiesAll}
use Rattle.jc_rules.specs.Rule.{call_effect, wrote, demands, effect}
use Rattle.jc_rules.specs.Rule.{receiver_wanted}
use Rattle.jc_rules.specs.Footprint.{cells_asked, registers_asked, registers_read, IsInFrame, AreInFrame, cells_taken}
use Rattle.jc_rules.specs.Footprint.{cells_given, MetIsThere, AskedIsThere, AgreeOn, OperationReads, OperationLeaves, FootprintIsOne}
use Rattle.jc_rules.specs.Footprint.{OperationNamesNone, AlikeLeaveAlike}
use Rattle.jc_rules.proofs.Effects.{suits, sound-known, length-changed}

-- ---- what is asked

met-there : (t : ClassTable) (f : Frame) (d : Demand) → Satisfies t f d → IsInFrame (length f.regs) (length f.stack) d
met-there t f z h = grind (arith, slice_get, slice_get_within)

pub met-is-there : (w : Linked) → MetIsThere w
met-is-there w f [] h = tt
met-is-there w f (d ∷ ds) h = (met-there w.classes f d h.0, met-is-there w f ds h.1)

-- a receiver is asked of the stack alone
pub receiver-registers : (n : ℕ) (o : Option Want) → registers_asked (receiver_wanted n o) ≡ 0
receiver-registers n y = grind (arith)

registers-least : (regs depth : ℕ) (ds : List Demand) → AreInFrame regs depth ds → registers_asked ds ≤ regs
registers-least regs depth [] h = omega arith
registers-least regs depth (Registers x n ∷ ds) h = let rest : registers_asked ds ≤ regs = registers-least regs depth ds h.1 in omega (arith, h.0)
registers-least regs depth (Held x ty ∷ ds) h = let rest : registers_asked ds ≤ regs = registers-least regs depth ds h.1 in omega (arith, h.0)
registers-least regs depth (Depth n ∷ ds) h = registers-least regs depth ds h.1
registers-least regs depth (Cell n want ∷ ds) h = registers-least regs depth ds h.1
registers-least regs depth (Cut n ∷ ds) h = registers-least regs depth ds h.1

cells-least : (regs depth : ℕ) (ds : List Demand) → AreInFrame regs depth ds → cells_asked ds ≤ depth
cells-least regs depth [] h = omega arith
cells-least regs depth (Depth n ∷ ds) h = let rest : cells_asked ds ≤ depth = cells-least regs depth ds h.1 in omega (arith, h.0)
cells-least regs depth (Cell n want ∷ ds) h = let rest : cells_asked ds ≤ depth = cells-least regs depth ds h.1 in omega (arith, h.0)
cells-least regs depth (Registers x n ∷ ds) h = cells-least regs depth ds h.1
cells-least regs depth (Held x ty ∷ ds) h = cells-least regs depth ds h.1
cells-least regs depth (Cut n ∷ ds) h = cells-least regs depth ds h.1

asked-there : (regs depth : ℕ) (ds : List Demand) → registers_asked ds ≤ regs → cells_asked ds ≤ depth → AreInFrame regs depth ds
asked-there regs depth [] r c = tt
asked-there regs depth (Registers x n ∷ ds) r c = (omega arith, asked-there regs depth ds (omega arith) c)
asked-there regs depth (Held x ty ∷ ds) r c = (omega arith, asked-there regs depth ds (omega arith) c)
asked-there regs depth (Depth n ∷ ds) r c = (omega arith, asked-there regs depth ds r (omega arith))
asked-there regs depth (Cell n want ∷ ds) r c = (omega arith, asked-there regs depth ds r (omega arith))
asked-there regs depth (Cut n ∷ ds) r c = (tt, asked-there regs depth ds r c)

pub asked-is-there : AskedIsThere
asked-is-there regs depth ds = grind (arith, registers-least, cells-least, asked-there)

-- ---- registers that are read

module _ (w : Linked) (f g : Frame) (stack : f.stack ≡ g.stack) where
  reads-hold : (ds : List Demand) → registers_asked ds ≤ length g.regs → AgreeOn (registers_read ds) f.regs g.regs → SatisfiesAll w.classes f ds
      → SatisfiesAll w.classes g ds
  reads-hold [] r a h = tt
  reads-hold (Registers x n ∷ ds) r a h = (omega arith, reads-hold ds (omega arith) a h.1)
  reads-hold (Depth n ∷ ds) r a h = (subst (λ (s : List Ty). n ≤ length s) stack h.0, reads-hold ds r a h.1)
  reads-hold (Cell n want ∷ ds) r a h = (subst (λ (s : List Ty). IsSomeAnd (slice_get s n) (Meets w.classes want)) stack h.0, reads-hold ds r a h.1)
  reads-hold (Cut n ∷ ds) r a h = grind (arith, reads-hold ds r a h.1)
  reads-hold (Held x ty ∷ ds) r a h = (subst (λ o. IsSomeAnd o (Meets w.classes (Value ty))) a.0 h.0, reads-hold ds (omega arith) a.1 h.1)

-- a register that two lists hold alike
reg-alike : (xs ys : List Ty) (x : ℕ) → slice_get xs x ≡ slice_get ys x → reg xs x ≡ reg ys x
reg-alike [] [] x e = refl
reg-alike [] (y ∷ ys) zero e = absurd (cc)
reg-alike [] (y ∷ ys) (suc x) e = reg-alike [] ys x e
reg-alike (x ∷ xs) [] zero e = absurd (cc)
reg-alike (x ∷ xs) [] (suc n) e = reg-alike xs [] n e
reg-alike (x ∷ xs) (y ∷ ys) zero e = cc
reg-alike (x ∷ xs) (y ∷ ys) (suc n) e = reg-alike xs ys n e

call-alike : (args : List Ty) (result : Option Ty) (receiver : Option Want) (f g : Frame) → f.stack ≡ g.stack → call_effect args result receiver f
    ≡ call_effect args result receiver g
call-alike args result z f g e = grind (arith)

pub operation-reads : (w : Linked) → OperationReads w
operation-reads w op f g stack registers agree = grind (arith, reads-hold, reg-alike, call-alike, slice_get)

-- ---- the footprint of each frame

pub footprint-is-one : (w : Linked) → FootprintIsOne w
footprint-is-one w y f = grind (arith, slice_get)

-- ---- what is left

-- the number of cells afterwards, by those that go and those that come
depth-by : (c : Change) (d : ℕ) → depth_after c d ≡ d - cells_taken c + cells_given c
depth-by x d = grind (arith)

taken-needed : (c : Change) → cells_taken c ≤ cells_needed c
taken-needed x = grind (arith)

wrote-by : (x : ℕ) (cells : Cells) → wrote x cells ≡ (if length (in_stack_order cells) == 0 then None else Some (x, length (in_stack_order cells)))
wrote-by x y = grind (arith)

module _ (t : ClassTable) (mode : Mode) where
  write-others : {x : ℕ} {ty : Ty} {regs after : List Ty} → WritesRegister t mode x ty regs after → (n : ℕ) → (n < x) ⊎ (x + 1 ≤ n)
      → reg after n ≡ reg regs n
  write-others {x = x} {regs = regs} u n (inl lt) = ap (λ rs. reg rs n) u.after_is ∙ get_or-set_other regs x n u.value Top (λ same. absurd (omega arith))
  write-others {x = x} {regs = regs} u n (inr le) = ap (λ rs. reg rs n) u.after_is ∙ get_or-set_other regs x n u.value Top (λ same. absurd (omega arith))

  store-others : (x : ℕ) (cells : Cells) (regs after : List Ty) → WritesCells t mode x cells regs after → (n : ℕ) → (n < x)
      ⊎ (x + length (in_stack_order cells) ≤ n) → reg after n ≡ reg regs n
  store-others x given.Nothing regs after u n h = ap (λ rs. reg rs n) u
  store-others x (given.One ty) regs after u n h = write-others u n h
  store-others x given.Int regs after u n (inl lt) = write-others u.low n (inl (omega arith)) ∙ write-others u.high n (inl lt)
  store-others x given.Int regs after u n (inr le) = write-others u.low n (inr (omega arith)) ∙ write-others u.high n (inr (omega arith))

pub operation-leaves : (w : Linked) → IsWorld w → OperationLeaves w
operation-leaves w is limit m place op mode before after o sound k a =
    grind (arith, suits, sound-known, footprint-is-one, taken-needed, length-changed, depth-by, wrote-by, store-others)

-- ---- an operation that names no register

stores-nothing : (w : Linked) (op : Operation) (f : Frame) → registers_asked (demands w op) ≡ 0
    → (effect w op f).store ≡ record { register = 0; cells = given.Nothing }
stores-nothing w y f e = grind (arith)

-- where no register is asked for, none is read
reads-none : (ds : List Demand) (regs others : List Ty) → registers_asked ds ≡ 0 → AgreeOn (registers_read ds) regs others
reads-none [] regs others e = tt
reads-none (Registers x n ∷ ds) regs others e = reads-none ds regs others (omega arith)
reads-none (Held x ty ∷ ds) regs others e = absurd (omega arith)
reads-none (Depth n ∷ ds) regs others e = reads-none ds regs others e
reads-none (Cell n want ∷ ds) regs others e = reads-none ds regs others e
reads-none (Cut n ∷ ds) regs others e = reads-none ds regs others e

pub operation-names-none : (w : Linked) → OperationNamesNone w
operation-names-none w limit op before after o regs none a =
    let f : Frame = record { regs = regs; stack = before.stack } in
    let alike = operation-reads w op before f refl (omega arith) (reads-none (demands w op) before.regs regs none) in
    let stored : (effect w op f).store ≡ record { register = 0; cells = given.Nothing } = stores-nothing w op f none in
    record {
      asked = alike.asked a.asked;
      regs = subst (λ s. StoresInRegisters w.classes Card s regs regs) (sym stored) refl;
      stack = a.stack ∙ ap (λ e. changed e.change before.stack) alike.done;
      room = a.room;
      falls = a.falls;
      ends = a.ends;
      depth = a.depth;
      wrote_is = a.wrote_is ∙ ap (λ e. wrote e.store.register e.store.cells) alike.done;
      rose_is = a.rose_is ∙ sym (ap (λ s. raises_register w.classes Card s regs) stored);
    }

-- ---- operations that are equal but for registers

pub alike-leave-alike : (w : Linked) → AlikeLeaveAlike w
alike-leave-alike w _ _ (equal {op = op}) = grind (arith)
alike-leave-alike w _ _ (loads {s = sorts.Reference}) = grind (arith)
alike-leave-alike w _ _ (loads {s = sorts.Short}) = record { cells = refl; taken = refl; given = refl; written = refl; falls = refl; jumps = refl; ends = refl }
alike-leave-alike w _ _ (loads {s = sorts.Int}) = record { cells = refl; taken = refl; given = refl; written = refl; falls = refl; jumps = refl; ends = refl }
alike-leave-alike w _ _ (stores {s = sorts.Reference}) = grind (arith)
alike-leave-alike w _ _ (stores {s = sorts.Short}) = grind (arith)
alike-leave-alike w _ _ (stores {s = sorts.Int}) = record { cells = refl; taken = refl; given = refl; written = refl; falls = refl; jumps = refl; ends = refl }
alike-leave-alike w _ _ (increments {width = widths.Short}) = grind (arith)
alike-leave-alike w _ _ (increments {width = widths.Int}) = grind (arith)
