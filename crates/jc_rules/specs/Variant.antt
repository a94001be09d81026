-- Types by their variants.
use Rattle.std.specs.Prelude.{ℕ, ◌==◌, ◌||◌, Bool}
use Rattle.jc_base.specs.declared.ty.Ty.{Ty}
use Rattle.jc_base.specs.declared.ty.Ty.TheVariants.{Bottom, Short, IntHigh, IntLow, Null, Class, ArrBool, ArrByte, ArrShort}
use Rattle.jc_base.specs.declared.ty.Ty.TheVariants.{ArrInt, ArrRef, Fresh, Top}

-- the number of a type's variant, in the order in which they are declared
abbrev pub variant_of : Ty → ℕ
variant_of Bottom = 0
variant_of Short = 1
variant_of IntHigh = 2
variant_of IntLow = 3
variant_of Null = 4
variant_of (Class c) = 5
variant_of ArrBool = 6
variant_of ArrByte = 7
variant_of ArrShort = 8
variant_of ArrInt = 9
variant_of (ArrRef c) = 10
variant_of (Fresh p c) = 11
variant_of Top = 12

-- types of this variant name a class or a place
abbrev pub has_names : ℕ → Bool
has_names n = n == 5 || n == 10 || n == 11
