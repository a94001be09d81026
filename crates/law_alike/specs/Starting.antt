-- Runs that begin in a world and in one that differs from it in the code of methods alone.
use Rattle.std.specs.Prelude.{◌≡◌, ℕ, List}
use Rattle.jc_base.specs.World.{Linked, method_numbered}
use Rattle.vm_step.specs.Arguments.{Argument}
use Rattle.vm_step.specs.Start.{start_fault}
use Rattle.law_laid.specs.Apart.{IsSameBut}

-- they begin with the same arguments, and are refused for the same reason
abbrev pub StartsRefuseAlike : Linked → Type 0
StartsRefuseAlike v =
    (w : Linked) (entry : ℕ) (args : List Argument) → IsSameBut v w → start_fault v entry args ≡ start_fault w entry args

-- the same method has these numbers in the Descriptor of a package
abbrev pub MethodsAreNumberedAlike : Linked → Type 0
MethodsAreNumberedAlike v =
    (w : Linked) (home class_no method_no : ℕ)
    → IsSameBut v w
    → method_numbered v.methods home class_no method_no ≡ method_numbered w.methods home class_no method_no
