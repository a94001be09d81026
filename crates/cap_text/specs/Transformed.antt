-- The lines for a package in the form that a verifier on the card accepts, and for a limit that is passed on the way to it.
use Rattle.std.specs.Prelude.{ℕ, List, [], ◌∷◌, codes, decimal}
use Rattle.std.specs.List.{concat}
use Rattle.cap_text.specs.declared.line.MethodNumber.{MethodNumber}
use Rattle.cap_text.specs.Fault.{name_1}

-- a method of the last package, by the numbers of its class and of itself, and the limit that it passes
abbrev pub method_limit_line : MethodNumber → List ℕ → List ℕ
method_limit_line m limit =
    concat
    (codes "limit method " ∷ decimal m.class_no ∷ codes "." ∷ decimal m.method_no ∷ codes " " ∷ limit ∷ codes "\n" ∷ [])

-- it would have so many registers, more than a method may have
abbrev pub registers_limit_line : MethodNumber → ℕ → List ℕ
registers_limit_line m registers = method_limit_line m (name_1 (codes "Registers") registers)

-- its stack would have more cells than it may have
abbrev pub stack_limit_line : MethodNumber → List ℕ
stack_limit_line m = method_limit_line m (codes "StackLimit")

-- its code would be too long
abbrev pub code_limit_line : MethodNumber → ℕ → List ℕ
code_limit_line m size = method_limit_line m (name_1 (codes "MethodLong") size)

-- the Method component would be too long
abbrev pub part_limit_line : ℕ → List ℕ
part_limit_line size = concat (codes "limit PartLong " ∷ decimal size ∷ codes "\n" ∷ [])
