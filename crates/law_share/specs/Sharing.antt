-- The registers that variables share: each gets the least that it may, in the order of registers (Chaitin 1982).
use Rattle.std.specs.Prelude.{◌≡◌, ℕ, ◌+◌, ◌-◌, ◌<◌, ◌≤◌, max, List, [], ◌∷◌, ◌++◌, drop, All, Contains}
use Rattle.jc_base.specs.declared.ty.Ty.{Ty}
use Rattle.jc_base.specs.World.{Linked}
use Rattle.jc_control.specs.Method.{Method}
use Rattle.card_typing.specs.Typing.{IsLeastCardTyping}
use Rattle.law_share.specs.Variable.{Variable, AreVariables, HasRegister, Interferes}

-- a variable, and the first of the registers that it is given
pub record Allotted : Type 0 where
  pub variable : Variable
  pub at : ℕ

-- the registers from a number on may be those of a variable beside one that has its own: they are none of these; or they are all of these,
-- where both are of one type and do not interfere
pub data FitsBeside (w : Linked) (m : Method) (k : Variable) (at : ℕ) (a : Allotted) : Type 0 where
  fits_after : a.at + a.variable.width ≤ at → FitsBeside w m k at a
  fits_before : at + k.width ≤ a.at → FitsBeside w m k at a
  fits_with :
      a.at ≡ at
      → a.variable.width ≡ k.width
      → a.variable.ty ≡ k.ty
      → ¬ (Interferes w m a.variable k)
      → FitsBeside w m k at a

-- no argument's register, and they fit beside those of all variables before
pub record IsFit (w : Linked) (m : Method) (before : List Allotted) (k : Variable) (at : ℕ) : Type 0 where
  pub no_argument : m.rec.nargs ≤ at
  pub beside : All (FitsBeside w m k at) before

pub record IsLeastFit (w : Linked) (m : Method) (before : List Allotted) (k : Variable) (at : ℕ) : Type 0 where
  pub fits : IsFit w m before k at
  pub least : (n : ℕ) → n < at → ¬ (IsFit w m before k n)

-- one variable after the other gets the least registers that fit
pub data AreAllotted (w : Linked) (m : Method) : List Allotted → List Variable → List Allotted → Type 0 where
  none_allotted : {before : List Allotted} → AreAllotted w m before [] []
  more_allotted :
      (k : Variable) (at : ℕ) {before : List Allotted} {ks : List Variable} {given : List Allotted}
      → IsLeastFit w m before k at
      → AreAllotted w m (before ++ record { variable = k; at = at } ∷ []) ks given
      → AreAllotted w m before (k ∷ ks) (record { variable = k; at = at } ∷ given)

-- the new number of a register: an argument keeps its own
pub data IsNumbered (nargs : ℕ) (given : List Allotted) (x : ℕ) : ℕ → Type 0 where
  numbered_argument : x < nargs → IsNumbered nargs given x x
  numbered_variable :
      (a : Allotted)
      → Contains given a
      → HasRegister a.variable x
      → IsNumbered nargs given x (a.at + (x - a.variable.register))

-- where the registers that are given out end
abbrev pub end_of : ℕ → List Allotted → ℕ
end_of nargs [] = nargs
end_of nargs (a ∷ given) = max (a.at + a.variable.width) (end_of nargs given)

-- by the least card typing of a method: its variables and what they are allotted; and the number of registers beyond its arguments
pub record IsSharing (w : Linked) (m : Method) (given : List Allotted) (locals : ℕ) : Type 0 where
  pub regs : List Ty
  pub typed : IsLeastCardTyping w m regs
  pub variables : List Variable
  pub are : AreVariables m.rec.nargs (drop m.rec.nargs regs) variables
  pub allotted : AreAllotted w m [] variables given
  pub size : m.rec.nargs + locals ≡ end_of m.rec.nargs given

-- a method that keeps its registers: by the least card typing some that is no argument is of no type of a value, or a half of an int
-- without the other one beside it
pub record KeepsRegisters (w : Linked) (m : Method) : Type 0 where
  pub regs : List Ty
  pub typed : IsLeastCardTyping w m regs
  pub none : (variables : List Variable) → ¬ (AreVariables m.rec.nargs (drop m.rec.nargs regs) variables)
