-- What the tests before an operation say where they pass.
use Rattle.std.proofs.Common.{arith}
use Rattle.std.proofs.Common.{◌≡◌, ℕ, zero, suc, ◌≤◌, Bool, true, false, List, [], ◌∷◌, length, subst}
use Rattle.std.specs.Prelude.{Some, None, if◌then◌else◌, MatchBool, IsSomeAnd, map, slice_get, slice_index_or}
use Rattle.std.specs.List.{list_all}
use Rattle.std.proofs.lemmas.Bool.{ltb-false, and_parts}
use Rattle.jc_base.specs.declared.ty.Ty.{Ty}
use Rattle.jc_base.specs.Class.{ClassTable}
use Rattle.jc_base.specs.World.{Linked}
use Rattle.jc_rules.specs.declared.demand.Demand.{Demand}
use Rattle.jc_rules.specs.Demand.{Frame, SatisfiesAll, Satisfies, satisfies, AreDecided}
use Rattle.jc_rules.specs.Footprint.{registers_asked, cells_asked}
use Rattle.vm_store.specs.Cells.{Cells}
use Rattle.vm_store.specs.State.{State, top}
use Rattle.vm_step.specs.declared.ending.Fault.TheVariants.{TypeFault, StackFault, LocalFault}
use Rattle.vm_step.specs.Tests.{types_of, unmet}

pub record Pass {A : Type 0} (k : Cells A) (w : Linked) (ds : List Demand) (s : State A) : Type 0 where
  pub registers : registers_asked ds ≤ length (top s).registers
  pub cells : cells_asked ds ≤ length (top s).stack
  pub hold : SatisfiesAll w.classes (types_of k w s) ds

three-tests : (a b c : Bool) → (if a then Some LocalFault else if b then Some StackFault else if c then None else Some TypeFault) ≡ None
    → (a ≡ false) × (b ≡ false) × (c ≡ true)
three-tests x b c e = grind (arith)

first-holds : (t : ClassTable) → AreDecided t → (f : Frame) (d : Demand) → satisfies t f d ≡ true → Satisfies t f d
first-holds t decided f d h = subst (λ b. MatchBool b (Satisfies t f d) (¬ (Satisfies t f d))) h (decided.demand f d)

all-hold : (t : ClassTable) → AreDecided t → (f : Frame) (ds : List Demand) → list_all (satisfies t f) ds ≡ true → SatisfiesAll t f ds
all-hold t decided f [] h = tt
all-hold t decided f (d ∷ ds) h =
    let parts = and_parts (satisfies t f d) (list_all (satisfies t f) ds) h in
    (first-holds t decided f d parts.0, all-hold t decided f ds parts.1)

-- where no fault is told, each test passes
pub passes : {A : Type 0} (k : Cells A) (w : Linked) → AreDecided w.classes → (ds : List Demand) (s : State A) → unmet k w ds s ≡ None → Pass k w ds s
passes k w decided ds s e = grind (arith, length, three-tests, ltb-false, all-hold)

-- a test of a cell is one of the cell that is read
pub cell-is : {A : Type 0} (f : A → Ty) (xs : List A) (n : ℕ) (d : A) (P : Ty → Type 0) → IsSomeAnd (slice_get (map f xs) n) P
    → P (f (slice_index_or xs n d))
cell-is f [] n d P h = absurd h
cell-is f (x ∷ xs) zero d P h = h
cell-is f (x ∷ xs) (suc n) d P h = cell-is f xs n d P h
