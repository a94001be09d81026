-- Class references (JCVM 2.2, section 6.7.1): with a clear high bit an offset into the Class component, with a set one
-- the token of an imported package and that of a class in it.
use Rattle.std.specs.Prelude.{◌≡◌, ℕ, ◌-◌, ◌/◌, ◌%◌, nat_lt, if◌then◌else◌, refl}
use Rattle.cap_bytes.specs.declared.class_reference.ClassReference.{ClassReference}
use Rattle.cap_bytes.specs.declared.class_reference.ClassReference.TheVariants.{Internal, External}

abbrev pub reference_of : ℕ → ClassReference
reference_of item = if nat_lt item 0x8000 then Internal item else External ((item - 0x8000) / 256) (item % 256)

-- the offset 12, and class 2 of package 1
internal : reference_of 0x000C ≡ Internal 12
internal = refl

external : reference_of 0x8102 ≡ External 1 2
external = refl
