-- Whether two types are equal, as it is computed.
use Rattle.std.specs.Prelude.{◌==◌, ◌&&◌, Bool, true, false}
use Rattle.jc_base.specs.declared.ty.Ty.{Ty}
use Rattle.jc_base.specs.declared.ty.Ty.TheVariants.{Bottom, Short, IntHigh, IntLow, Null, Class, ArrBool, ArrByte, ArrShort, ArrInt}
use Rattle.jc_base.specs.declared.ty.Ty.TheVariants.{ArrRef, Fresh, Top}

unfoldable pub same_type : Ty → Ty → Bool
same_type Bottom Bottom = true
same_type Short Short = true
same_type IntHigh IntHigh = true
same_type IntLow IntLow = true
same_type Null Null = true
same_type (Class c) (Class d) = c == d
same_type ArrBool ArrBool = true
same_type ArrByte ArrByte = true
same_type ArrShort ArrShort = true
same_type ArrInt ArrInt = true
same_type (ArrRef c) (ArrRef d) = c == d
same_type (Fresh p c) (Fresh q d) = p == q && c == d
same_type Top Top = true
same_type a b = false
