-- The demands of a call, as numbers and as tests.
use Rattle.std.proofs.Common.{◌≡◌, ℕ, ◌+◌, ◌-◌, ◌<◌, ◌≤◌, Bool, true, false, List, [], ◌∷◌, ◌++◌, length, drop}
use Rattle.std.proofs.Common.{get_or, refl, ◌∙◌, arith}
use Rattle.std.specs.Prelude.{max, reverse, Option, Some, None, if◌then◌else◌, ◌&&◌, nat_lt}
use Rattle.std.specs.List.{list_all}
use Rattle.std.proofs.lemmas.Bool.{lt-ltb, le-ltb}
use Rattle.std.proofs.lemmas.List.{length-reverse, get_or-reverse, drop_more}
use Rattle.jc_base.specs.declared.ty.Ty.{Ty}
use Rattle.jc_base.specs.World.{Linked}
use Rattle.jc_ops.specs.declared.operation.Want.{Want}
use Rattle.jc_ops.specs.declared.operation.Want.TheVariants.{Value}
use Rattle.jc_ops.specs.Sound.{receiver_count}
use Rattle.jc_rules.specs.declared.demand.Demand.{Demand}
use Rattle.jc_rules.specs.declared.demand.Demand.TheVariants.{Cell}
use Rattle.jc_rules.specs.Demand.{satisfies}
use Rattle.jc_rules.specs.Footprint.{registers_asked, cells_asked}
use Rattle.jc_rules.specs.Rule.{cells_wanted, receiver_wanted, call_demands}
use Rattle.jc_rules.proofs.Footprints.{receiver-registers}
use Rattle.vm_store.specs.Cells.{Cells}
use Rattle.vm_store.specs.State.{State, top}
use Rattle.vm_step.specs.declared.ending.Fault.{Fault}
use Rattle.vm_step.specs.declared.ending.Fault.TheVariants.{TypeFault, StackFault, LocalFault}
use Rattle.vm_step.specs.Tests.{types_of, unmet}

-- ---- as numbers

args-registers : (n : ℕ) (tys : List Ty) (ds : List Demand) → registers_asked (cells_wanted n tys ++ ds) ≡ registers_asked ds
args-registers n [] ds = refl
args-registers n (ty ∷ tys) ds = args-registers (n + 1) tys ds

call-registers : (args : List Ty) (o : Option Want) → registers_asked (call_demands args o) ≡ 0
call-registers args o = args-registers 0 (reverse args) (receiver_wanted (length args) o) ∙ receiver-registers (length args) o

args-most : (n : ℕ) (tys : List Ty) (ds : List Demand) → cells_asked (cells_wanted n tys ++ ds) ≤ max (n + length tys) (cells_asked ds)
args-most n [] ds = omega arith
args-most n (ty ∷ tys) ds = let rest = args-most (n + 1) tys ds in omega (arith, rest)

args-least : (n : ℕ) (tys : List Ty) (ds : List Demand) → n + length tys ≤ max n (cells_asked (cells_wanted n tys ++ ds))
args-least n [] ds = omega arith
args-least n (ty ∷ tys) ds = let rest = args-least (n + 1) tys ds in omega (arith, rest)

args-under : (n : ℕ) (tys : List Ty) (ds : List Demand) → cells_asked ds ≤ cells_asked (cells_wanted n tys ++ ds)
args-under n [] ds = omega arith
args-under n (ty ∷ tys) ds = let rest = args-under (n + 1) tys ds in omega (arith, rest)

receiver-cells : (n : ℕ) (o : Option Want) → (cells_asked (receiver_wanted n o) ≤ n + receiver_count o)
    × (n + receiver_count o ≤ max n (cells_asked (receiver_wanted n o)))
receiver-cells n x = grind (arith)

call-cells : (args : List Ty) (o : Option Want) → cells_asked (call_demands args o) ≡ length args + receiver_count o
call-cells args o =
    let tail = receiver_wanted (length args) o in
    let turned = length-reverse args in
    omega (
      arith,
      turned,
      args-most 0 (reverse args) tail,
      args-least 0 (reverse args) tail,
      args-under 0 (reverse args) tail,
      (receiver-cells (length args) o).0,
      (receiver-cells (length args) o).1,
    )

module _ {A : Type 0} (k : Cells A) (w : Linked) (args : List Ty) (o : Option Want) (s : State A) where
  three : (a b c : Bool) → Option Fault
  three a b c = if a then Some LocalFault else if b then Some StackFault else if c then None else Some TypeFault

  no-registers : nat_lt (length (top s).registers) (registers_asked (call_demands args o)) ≡ false
  no-registers = le-ltb (length (top s).registers) (registers_asked (call_demands args o)) (omega (arith, call-registers args o))

  pub too-few : length (top s).stack < length args + receiver_count o → Some StackFault ≡ unmet k w (call_demands args o) s
  too-few lt = grind (arith, length, lt-ltb, call-cells, no-registers)

  enough : length args + receiver_count o ≤ length (top s).stack → nat_lt (length (top s).stack) (cells_asked (call_demands args o)) ≡ false
  enough le = le-ltb (length (top s).stack) (cells_asked (call_demands args o)) (omega (arith, le, call-cells args o))

  pub all-met : length args + receiver_count o ≤ length (top s).stack → list_all (satisfies w.classes (types_of k w s)) (call_demands args o) ≡ true
      → None ≡ unmet k w (call_demands args o) s
  all-met le h = rw (no-registers, enough le, h) refl

  pub one-unmet : length args + receiver_count o ≤ length (top s).stack → list_all (satisfies w.classes (types_of k w s)) (call_demands args o)
      ≡ false → Some TypeFault ≡ unmet k w (call_demands args o) s
  one-unmet le h = rw (no-registers, enough le, h) refl

-- ---- as tests

-- the n-th argument from the last one on is wanted first
pub next-argument : (p : Demand → Bool) (args : List Ty) (n : ℕ) (d : Ty) → n < length args
    → list_all p (cells_wanted n (drop n (reverse args)))
    ≡ (p (Cell n (Value (get_or args (length args - 1 - n) d))) && list_all p (cells_wanted (n + 1) (drop (n + 1) (reverse args))))
next-argument p args n d lt = grind (arith, drop, get_or, drop_more, length-reverse, get_or-reverse)
