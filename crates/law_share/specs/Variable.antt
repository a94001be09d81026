-- What a method keeps in its registers beside its arguments, and which of these interfere (Aho, Lam, Sethi and Ullman, sections 8.8.4 and
-- 9.2.5; JCVM 2.2, section 3.5).
use Rattle.std.specs.Prelude.{ℕ, ◌+◌, ◌<◌, ◌≤◌, List, [], ◌∷◌, ⊤}
use Rattle.jc_base.specs.declared.ty.Ty.{Ty}
use Rattle.jc_base.specs.declared.ty.Ty.TheVariants.{Top, Bottom, IntHigh, IntLow}
use Rattle.jc_base.specs.World.{Linked}
use Rattle.jc_decode.specs.declared.insn.Placed.{Placed}
use Rattle.jc_control.specs.Method.{Method}
use Rattle.jc_ops.specs.declared.operation.Operation.{Operation}
use Rattle.law_share.specs.Live.{Operates, Writes, MayLeadTo, IsLiveAt}

-- a variable: its first register, how many it has, and the type of the first
pub record Variable : Type 0 where
  pub register : ℕ
  pub width : ℕ
  pub ty : Ty

-- a type of a value that is in one register alone
abbrev pub IsWhole : Ty → Type 0
IsWhole Top = ⊥
IsWhole Bottom = ⊥
IsWhole IntHigh = ⊥
IsWhole IntLow = ⊥
IsWhole _ = ⊤

-- registers of these types, from a number on, are those of these variables, one after the other: each has one, and an int two. Where a
-- type is Top or Bottom, or a half of an int stands without the other, there are no such variables
pub data AreVariables : ℕ → List Ty → List Variable → Type 0 where
  no_variables : {x : ℕ} → AreVariables x [] []
  one_register :
      {x : ℕ} {ty : Ty} {tys : List Ty} {vs : List Variable}
      → IsWhole ty
      → AreVariables (x + 1) tys vs
      → AreVariables x (ty ∷ tys) (record { register = x; width = 1; ty = ty } ∷ vs)
  two_registers :
      {x : ℕ} {tys : List Ty} {vs : List Variable}
      → AreVariables (x + 2) tys vs
      → AreVariables x (IntHigh ∷ IntLow ∷ tys) (record { register = x; width = 2; ty = IntHigh } ∷ vs)

pub record HasRegister (k : Variable) (x : ℕ) : Type 0 where
  pub from : k.register ≤ x
  pub before : x < k.register + k.width

-- an instruction writes the one register where the other is live at a successor
pub record Clash (w : Linked) (m : Method) (a b : ℕ) : Type 0 where
  pub instruction : Placed
  pub op : Operation
  pub operates : Operates w m instruction op
  pub writes : Writes w op a
  pub next : ℕ
  pub leads : MayLeadTo m instruction next
  pub live : IsLiveAt w m b next

-- two variables interfere: one is written where the other is live after it, or both are live at the method's start
pub data Interferes (w : Linked) (m : Method) (k l : Variable) : Type 0 where
  first_written : {x y : ℕ} → HasRegister k x → HasRegister l y → Clash w m x y → Interferes w m k l
  second_written : {x y : ℕ} → HasRegister k x → HasRegister l y → Clash w m y x → Interferes w m k l
  both_live : {x y : ℕ} → HasRegister k x → HasRegister l y → IsLiveAt w m x 0 → IsLiveAt w m y 0 → Interferes w m k l
