-- The numbers from which the hashes of homes are made: homes that are equal have equal ones, and others mostly differ.
use Rattle.std.specs.Prelude.{ℕ, ◌+◌, ◌*◌}
use Rattle.jc_base.specs.declared.ty.Ty.{Ty}
use Rattle.jc_base.specs.declared.ty.Ty.TheVariants.{Short, IntHigh, Null, Class, ArrBool, ArrByte, ArrShort, ArrInt, ArrRef, Fresh}
use Rattle.xf_homes.specs.declared.home.Home.{Home}

abbrev pub type_code : Ty → ℕ
type_code (Class c) = c
type_code (ArrRef c) = 65536 + c
type_code (Fresh p c) = 131072 + p
type_code Short = 196608
type_code IntHigh = 196609
type_code Null = 196610
type_code ArrBool = 196611
type_code ArrByte = 196612
type_code ArrShort = 196613
type_code ArrInt = 196614
type_code ty = 196615

abbrev pub home_code : Home → ℕ
home_code h = h.slot * 262144 + type_code h.ty
