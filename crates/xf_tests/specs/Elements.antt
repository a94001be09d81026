-- The elements of a list of code, method by method.
use Rattle.std.specs.Prelude.{ℕ, Bool, List, ◌++◌, map, Option, Some, None, if◌then◌else◌}
use Rattle.cap_desc.specs.DescriptorFormat.{MethodDescriptor}
use Rattle.jc_decode.specs.declared.symbols.Laid.{Laid}
use Rattle.cap_write.specs.Condition.{AreElements, no_method}

-- the methods of a class that is an interface, or of another
abbrev pub listed : Bool → List MethodDescriptor → List (Option MethodDescriptor)
listed interface ms = if interface then map no_method ms else map Some ms

abbrev pub one_listed : Bool → MethodDescriptor → Option MethodDescriptor
one_listed interface m = if interface then None else Some m

-- after the elements of these methods come those of others
pub record Continues (info : List ℕ) (ms : List (Option MethodDescriptor)) (laid rest : List (Option Laid)) : Type 0 where
  pub each : (others : List (Option MethodDescriptor)) → AreElements info others rest → AreElements info (ms ++ others) laid
