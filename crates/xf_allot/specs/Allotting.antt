-- The registers that variables are given, one after the other (Chaitin 1982).
use Rattle.std.specs.Prelude.{◌≡◌, ℕ, zero, suc, ◌+◌, ◌≤◌, List, [], ◌∷◌, ◌++◌, length, drop, map, All, Some, slice_get}
use Rattle.jc_base.specs.declared.ty.Ty.{Ty}
use Rattle.jc_base.specs.World.{Linked}
use Rattle.jc_control.specs.Method.{Method}
use Rattle.law_share.specs.Variable.{AreVariables, HasRegister}
use Rattle.law_share.specs.Variable as law
use Rattle.law_share.specs.Sharing.{AreAllotted, FitsBeside, IsLeastFit, IsNumbered}
use Rattle.law_share.specs.Sharing as sharing
use Rattle.xf_allot.specs.declared.allotting.Allotment.{Allotment}
use Rattle.xf_allot.specs.declared.fitting.Allotted.{Allotted}
use Rattle.xf_allot.specs.declared.fitting.Variable.{Variable}
use Rattle.xf_allot.specs.Graph.{AreApart}
use Rattle.xf_allot.specs.Variable.{allotted_of, variable_of}

-- ---- one variable

-- its registers have numbers of a byte
pub record IsSized (k : Variable) : Type 0 where
  pub some : 1 ≤ k.width
  pub most : k.width ≤ 2
  pub inside : k.register + k.width ≤ 255

-- what is given lies before a register, and so does the variable
pub record LiesBefore (x : ℕ) (a : Allotted) : Type 0 where
  pub sized : IsSized a.variable
  pub given : a.at + a.variable.width ≤ x

-- a register may not become one with one of the variable's
pub record MeetsOne (w : Linked) (m : Method) (x : ℕ) (k : law.Variable) : Type 0 where
  pub register : ℕ
  pub has : HasRegister k register
  pub apart : AreApart w m x register

-- the registers from a number on fit beside those of all others
abbrev pub AllFit : Linked → Method → Variable → ℕ → List Allotted → Type 0
AllFit w m k at before = All (λ other. FitsBeside w m (variable_of k) at (allotted_of other)) before

-- ---- several

abbrev pub given_of : Allotment → List sharing.Allotted
given_of s = map allotted_of s.given.items

-- registers one after the other
abbrev pub numbers_from : ℕ → ℕ → List ℕ
numbers_from at zero = []
numbers_from at (suc n) = at ∷ numbers_from (at + 1) n

-- a variable is given the least registers that fit, and these are the new numbers of its own
pub record Gives (w : Linked) (m : Method) (k : Variable) (old new : Allotment) : Type 0 where
  pub at : ℕ
  pub least : IsLeastFit w m (given_of old) (variable_of k) at
  pub most : at ≤ k.register
  pub given : new.given.items ≡ old.given.items ++ record { variable = k; at = at } ∷ []
  pub numbers : new.numbers.items ≡ old.numbers.items ++ numbers_from at k.width

-- what the variables in the registers before one are given, by the types of the registers, and the new numbers of these
pub record IsAllottedTo (w : Linked) (m : Method) (types : List Ty) (s : Allotment) : Type 0 where
  pub from : m.rec.nargs ≤ length s.numbers.items
  pub within : length s.numbers.items ≤ length types
  pub before : All (LiesBefore (length s.numbers.items)) s.given.items
  pub variables :
      (vs : List law.Variable)
      → AreVariables (length s.numbers.items) (drop (length s.numbers.items) types) vs
      → AreVariables m.rec.nargs (drop m.rec.nargs types) (map (λ a. a.variable) (given_of s) ++ vs)
  pub rest :
      (vs : List law.Variable)
      → AreVariables m.rec.nargs (drop m.rec.nargs types) vs
      → (us : List law.Variable) × AreVariables (length s.numbers.items) (drop (length s.numbers.items) types) us
  pub allotted :
      (ks : List law.Variable) (more : List sharing.Allotted)
      → AreAllotted w m (given_of s) ks more
      → AreAllotted w m [] (map (λ a. a.variable) (given_of s) ++ ks) (given_of s ++ more)
  pub numbered : (x n : ℕ) → slice_get s.numbers.items x ≡ Some n → IsNumbered m.rec.nargs (given_of s) x n

-- all of them
pub record AreAllottedBy (w : Linked) (m : Method) (types : List Ty) (s : Allotment) : Type 0 where
  pub variables : List law.Variable
  pub are : AreVariables m.rec.nargs (drop m.rec.nargs types) variables
  pub allotted : AreAllotted w m [] variables (given_of s)
  pub count : length s.numbers.items ≡ length types
  pub before : All (LiesBefore (length types)) s.given.items
  pub numbered : (x n : ℕ) → slice_get s.numbers.items x ≡ Some n → IsNumbered m.rec.nargs (given_of s) x n
