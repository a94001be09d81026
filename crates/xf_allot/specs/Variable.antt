-- Variables and the registers that they are given, as the code has them (Chaitin 1982).
use Rattle.std.specs.Prelude.{◌≡◌, ℕ, ◌+◌, ◌≤◌, List, ◌∷◌, length, drop}
use Rattle.jc_base.specs.declared.ty.Ty.{Ty}
use Rattle.law_share.specs.Variable.{AreVariables}
use Rattle.law_share.specs.Variable as law
use Rattle.law_share.specs.Sharing as sharing
use Rattle.xf_allot.specs.declared.fitting.Variable.{Variable}
use Rattle.xf_allot.specs.declared.fitting.Allotted.{Allotted}

abbrev pub variable_of : Variable → law.Variable
variable_of k = record { register = k.register; width = k.width; ty = k.ty }

abbrev pub allotted_of : Allotted → sharing.Allotted
allotted_of a = record { variable = variable_of a.variable; at = a.at }

-- the first of the variables in registers of these types, from a number on: it has one register or two, and the others are those of the
-- registers behind
pub record IsFirstOf (x : ℕ) (tys : List Ty) (k : Variable) : Type 0 where
  pub at : k.register ≡ x
  pub some : 1 ≤ k.width
  pub most : k.width ≤ 2
  pub inside : k.width ≤ length tys
  pub front : (vs : List law.Variable) → AreVariables (x + k.width) (drop k.width tys) vs → AreVariables x tys (variable_of k ∷ vs)
  pub rest : (vs : List law.Variable) → AreVariables x tys vs → (us : List law.Variable) × AreVariables (x + k.width) (drop k.width tys) us

-- there are no variables in registers of these types
abbrev pub HasNone : ℕ → List Ty → Type 0
HasNone x tys = (vs : List law.Variable) → ¬ (AreVariables x tys vs)
