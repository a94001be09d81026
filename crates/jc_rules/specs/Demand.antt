-- What an instruction asks of the frame before it changes anything (JCVM 2.2, section 7.5; Leroy 2002,
-- section 2.2), and the first thing that is missing.
use Rattle.std.specs.Prelude.{◌≡◌, ℕ, ◌+◌, ◌-◌, ◌≤◌, ◌⊎◌, ⊤, Bool, true, false, not, ◌&&◌, ◌||◌}
use Rattle.std.specs.Prelude.{◌==◌, nat_le, MatchBool, MatchResult, List, [], ◌∷◌, length, reverse, All, Option, Some, None}
use Rattle.std.specs.Prelude.{IsSomeAnd, Result}
use Rattle.std.specs.Prelude.{Ok, Err, slice_get}
use Rattle.jc_base.specs.declared.ty.Ty.{Ty}
use Rattle.jc_base.specs.declared.ty.Ty.TheVariants.{Bottom, IntHigh, IntLow, Null, Class, ArrBool, ArrByte, ArrShort, ArrInt, ArrRef}
use Rattle.jc_base.specs.declared.ty.Ty.TheVariants.{Fresh}
use Rattle.jc_base.specs.Class.{ClassTable, IsClass, object}
use Rattle.jc_base.specs.Order.{Below, IsKnown, is_below}
use Rattle.jc_ops.specs.declared.fault.RuleFault.{RuleFault}
use Rattle.jc_ops.specs.declared.fault.RuleFault.TheVariants.{Underflow, Mismatch, NoLocal, SplitInt, FreshKept}
use Rattle.jc_rules.specs.declared.demand.Before.{Before}
use Rattle.jc_rules.specs.declared.effect.Effect.{Effect}
use Rattle.jc_ops.specs.declared.operation.Want.{Want}
use Rattle.jc_ops.specs.declared.operation.Want.TheVariants.{Value, Storable, ByteArray, AnyArray, Whole, Receiver}
use Rattle.jc_ops.specs.Sound.{IsKnownWant}
use Rattle.jc_rules.specs.declared.demand.Demand.{Demand}
use Rattle.jc_rules.specs.declared.demand.Demand.TheVariants.{Registers, Depth, Cell, Cut, Held}

-- the registers of a method's frame and its operand stack, the top cell first
pub record Frame : Type 0 where
  pub regs : List Ty
  pub stack : List Ty

-- what the code finds: its slice of the stack has the top last
abbrev pub frame : Before → Frame
frame b = record { regs = b.regs.now; stack = reverse b.stack.now }

-- each class number in a type of the frame names a class, and no interface; a method has 255 registers at most
pub record AreKnown (t : ClassTable) (f : Frame) : Type 0 where
  pub few : length f.regs ≤ 255
  pub regs : All (IsKnown t) f.regs
  pub stack : All (IsKnown t) f.stack
  pub object : IsClass t (object t)

-- an array, or null
abbrev pub IsArrayOrNull : Ty → Type 0
IsArrayOrNull Bottom = ⊤
IsArrayOrNull Null = ⊤
IsArrayOrNull ArrBool = ⊤
IsArrayOrNull ArrByte = ⊤
IsArrayOrNull ArrShort = ⊤
IsArrayOrNull ArrInt = ⊤
IsArrayOrNull (ArrRef c) = ⊤
IsArrayOrNull _ = ⊥

-- one half of an int
abbrev pub IsHalf : Ty → Type 0
IsHalf IntHigh = ⊤
IsHalf IntLow = ⊤
IsHalf _ = ⊥

-- an object of the class on which no constructor was called
abbrev pub IsFreshOf : ℕ → Ty → Type 0
IsFreshOf c (Fresh place d) = d ≡ c
IsFreshOf c _ = ⊥

-- what is found is as wanted
abbrev pub Meets : ClassTable → Want → Ty → Type 0
Meets t (Value wanted) found = Below t found wanted
Meets t Storable found = Below t found (Class (object t))
Meets t ByteArray found = Below t found ArrByte ⊎ Below t found ArrBool
Meets t AnyArray found = IsArrayOrNull found
Meets t Whole found = ¬ (IsHalf found)
Meets t (Receiver c) found = IsFreshOf c found ⊎ Below t found (Class c)

-- the fault where it is not
abbrev pub refusal : ClassTable → Want → Ty → RuleFault
refusal t (Value wanted) found = Mismatch found wanted
refusal t Storable (Fresh place c) = FreshKept
refusal t Storable found = Mismatch found (Class (object t))
refusal t ByteArray found = Mismatch found ArrByte
refusal t AnyArray found = Mismatch found ArrByte
refusal t Whole found = SplitInt
refusal t (Receiver c) found = Mismatch found (Class c)

-- an int lies across the cut below the n-th cell: its low half is above
abbrev pub Splits : List Ty → ℕ → Type 0
Splits stack n = (slice_get stack (n - 1) ≡ Some IntLow) × (slice_get stack n ≡ Some IntHigh)

-- the demand is met
abbrev pub Satisfies : ClassTable → Frame → Demand → Type 0
Satisfies t f (Registers x n) = x + n ≤ length f.regs
Satisfies t f (Depth n) = n ≤ length f.stack
Satisfies t f (Cell n want) = IsSomeAnd (slice_get f.stack n) (Meets t want)
Satisfies t f (Cut n) = ¬ (Splits f.stack n)
Satisfies t f (Held x ty) = IsSomeAnd (slice_get f.regs x) (Meets t (Value ty))

-- the fault of what was found, or of a cell or register that is not there
abbrev pub refused_at : ClassTable → Want → RuleFault → Option Ty → RuleFault
refused_at t want absent None = absent
refused_at t want absent (Some found) = refusal t want found

-- the fault where the demand is not met
abbrev pub demand_fault : ClassTable → Frame → Demand → RuleFault
demand_fault t f (Registers x n) = NoLocal x
demand_fault t f (Depth n) = Underflow
demand_fault t f (Cell n want) = refused_at t want Underflow (slice_get f.stack n)
demand_fault t f (Cut n) = SplitInt
demand_fault t f (Held x ty) = refused_at t (Value ty) (NoLocal x) (slice_get f.regs x)

-- each of the demands is met
abbrev pub SatisfiesAll : ClassTable → Frame → List Demand → Type 0
SatisfiesAll t f [] = ⊤
SatisfiesAll t f (d ∷ ds) = Satisfies t f d × SatisfiesAll t f ds

-- the fault is that of the first demand that is not met
pub data IsFirstUnmet (t : ClassTable) (f : Frame) : List Demand → RuleFault → Type 0 where
  here : {d : Demand} {ds : List Demand} {fault : RuleFault} → ¬ (Satisfies t f d) → fault ≡ demand_fault t f d
      → IsFirstUnmet t f (d ∷ ds) fault
  later : {d : Demand} {ds : List Demand} {fault : RuleFault} → Satisfies t f d → IsFirstUnmet t f ds fault
      → IsFirstUnmet t f (d ∷ ds) fault

-- each class number in what is asked names a class, and no interface
abbrev pub IsKnownDemand : ClassTable → Demand → Type 0
IsKnownDemand t (Cell n want) = IsKnownWant t want
IsKnownDemand t (Held x ty) = IsKnown t ty
IsKnownDemand t _ = ⊤

abbrev pub AreKnownDemands : ClassTable → List Demand → Type 0
AreKnownDemands t [] = ⊤
AreKnownDemands t (d ∷ ds) = IsKnownDemand t d × AreKnownDemands t ds

-- ---- the same as computed

abbrev pub is_array_or_null : Ty → Bool
is_array_or_null Bottom = true
is_array_or_null Null = true
is_array_or_null ArrBool = true
is_array_or_null ArrByte = true
is_array_or_null ArrShort = true
is_array_or_null ArrInt = true
is_array_or_null (ArrRef c) = true
is_array_or_null _ = false

abbrev pub is_half : Ty → Bool
is_half IntHigh = true
is_half IntLow = true
is_half _ = false

abbrev pub is_fresh_of : ℕ → Ty → Bool
is_fresh_of c (Fresh place d) = d == c
is_fresh_of c _ = false

-- whether what is found is as wanted
abbrev pub meets : ClassTable → Want → Ty → Bool
meets t (Value wanted) found = is_below t found wanted
meets t Storable found = is_below t found (Class (object t))
meets t ByteArray found = is_below t found ArrByte || is_below t found ArrBool
meets t AnyArray found = is_array_or_null found
meets t Whole found = not (is_half found)
meets t (Receiver c) found = is_fresh_of c found || is_below t found (Class c)

abbrev pub is_low : Option Ty → Bool
is_low (Some IntLow) = true
is_low _ = false

abbrev pub is_high : Option Ty → Bool
is_high (Some IntHigh) = true
is_high _ = false

abbrev pub met_at : ClassTable → Want → Option Ty → Bool
met_at t want None = false
met_at t want (Some found) = meets t want found

-- whether the demand is met
abbrev pub satisfies : ClassTable → Frame → Demand → Bool
satisfies t f (Registers x n) = nat_le (x + n) (length f.regs)
satisfies t f (Depth n) = nat_le n (length f.stack)
satisfies t f (Cell n want) = met_at t want (slice_get f.stack n)
satisfies t f (Cut n) = not (is_low (slice_get f.stack (n - 1)) && is_high (slice_get f.stack n))
satisfies t f (Held x ty) = met_at t (Value ty) (slice_get f.regs x)

-- a want and a demand are decided
pub record AreDecided (t : ClassTable) : Type 0 where
  pub want : (want : Want) (found : Ty) → MatchBool (meets t want found) (Meets t want found) (¬ (Meets t want found))
  pub demand : (f : Frame) (d : Demand) → MatchBool (satisfies t f d) (Satisfies t f d) (¬ (Satisfies t f d))

-- what a check of demands answers: whether each is met, and else the fault of the first that is not
abbrev pub IsChecked : {X : Type 0} → ClassTable → Frame → List Demand → Result X RuleFault → Type 0
IsChecked t f ds r = MatchResult r (λ _. SatisfiesAll t f ds) (IsFirstUnmet t f ds)

-- what comes of it: the effect where each is met
abbrev pub IsJudged : ClassTable → Frame → List Demand → Effect → Result Effect RuleFault → Type 0
IsJudged t f ds effect (Ok e) = SatisfiesAll t f ds × (e ≡ effect)
IsJudged t f ds effect (Err fault) = IsFirstUnmet t f ds fault
