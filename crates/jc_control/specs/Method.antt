-- A method of a world, with its number, its record and the bytes of its code (JCVM 2.2, section 6.9.2).
use Rattle.std.specs.Prelude.{◌≡◌, ℕ, ◌<◌, List, length, Option, Some, option_map, slice_get}
use Rattle.std.proofs.Props.{props}
use Rattle.jc_base.specs.declared.record.MethodRec.{MethodRec}
use Rattle.jc_base.specs.World.{Linked, code_of}

pub record Method : Type 0 where
  pub number : ℕ
  pub rec : MethodRec
  pub code : List ℕ

-- the method of this number has code
pub record IsMethodOf (w : Linked) (m : Method) : Type 0 where
  pub rec : slice_get w.methods m.number ≡ Some m.rec
  pub code : m.code ≡ code_of w.infos m.rec
  pub filled : 0 < length m.code

-- a proposition, which a struct may hold
pub IsMethodOf-once : (w : Linked) (m : Method) → IsProp (IsMethodOf w m)
IsMethodOf-once w m = hlevel props

abbrev pub method_with : Linked → ℕ → MethodRec → Method
method_with w number rec = record { number = number; rec = rec; code = code_of w.infos rec }

-- the method of this number
abbrev pub method_in : Linked → ℕ → Option Method
method_in w number = option_map (method_with w number) (slice_get w.methods number)
