-- The arguments of a bare method: as many as it has parameters, each a short (JCVM 2.2, section 2.2: a short has 16 bits).
use Rattle.std.specs.Prelude.{◌≡◌, ◌≢◌, ℕ, ℤ, List, map, length, take, All, slice_get, IsSomeAnd, FitsSigned}
use Rattle.std.specs.Int.{w16}
use Rattle.vm_step.specs.Arguments.{Argument, number, null, bytes}
use Rattle.vm_step.specs.declared.ending.StartFault.{StartFault}
use Rattle.vm_step.specs.declared.ending.StartFault.TheVariants.{NoEntry, NotStatic, ArgCount, ArgKind, ArgRoom}

-- an argument is this short; a reference is none
abbrev pub IsShort : Argument → ℤ → Type 0
IsShort (number n) value = (n ≡ value) × FitsSigned w16 value
IsShort null value = ⊥
IsShort (bytes bs) value = ⊥

-- the arguments are these shorts, and as many as wanted
pub record AreShorts (args : List Argument) (wanted : ℕ) (values : List ℤ) : Type 0 where
  pub count : length args ≡ wanted
  pub numbers : args ≡ map number values
  pub fit : All (FitsSigned w16) values

-- the arguments before the n-th are shorts, and the n-th is none
pub record IsFirstMisfit (args : List Argument) (n : ℕ) : Type 0 where
  pub values : List ℤ
  pub first : take n args ≡ map number values
  pub fit : All (FitsSigned w16) values
  pub misfit : IsSomeAnd (slice_get args n) (λ arg. (value : ℤ) → IsShort arg value → ⊥)

-- the first reason why a method of so many shorts does not start with the arguments
abbrev pub RefusesStart : List Argument → ℕ → StartFault → Type 0
RefusesStart args wanted (ArgCount said parameters) = (said ≡ length args) × (parameters ≡ wanted) × (length args ≢ wanted)
RefusesStart args wanted (ArgKind n) = (length args ≡ wanted) × IsFirstMisfit args n
RefusesStart args wanted NoEntry = ⊥
RefusesStart args wanted NotStatic = ⊥
RefusesStart args wanted (ArgRoom n) = ⊥
