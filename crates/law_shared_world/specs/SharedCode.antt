-- The code of the last package's methods where their variables share registers (Chaitin 1982; Leroy 2002, section 4).
use Rattle.std.specs.Prelude.{◌≡◌, ℕ, suc, ◌+◌, ◌<◌, ◌≤◌, ◌==◌, ◌&&◌, nat_lt, if◌then◌else◌, List, [], ◌∷◌, ◌++◌, length, sum_by, All}
use Rattle.std.specs.Prelude.{Option, Some, None}
use Rattle.jc_base.specs.declared.record.MethodRec.{MethodRec}
use Rattle.jc_base.specs.World.{Linked, code_of}
use Rattle.jc_decode.specs.declared.symbols.Laid.{Laid}
use Rattle.jc_control.specs.Method.{Method, method_with}
use Rattle.xf_layout.specs.Shortest.{StandsShortest}
use Rattle.law_renumbered.specs.Numbers.{AreNumbersOf}
use Rattle.law_renumbered.specs.Symbols.{renumbered_method}

-- ---- a method

-- the numbers that its variables share, and its code with these in its shortest bytes
pub record IsSharedFor (w : Linked) (m : Method) (laid : Laid) : Type 0 where
  pub reg : ℕ → ℕ
  pub locals : ℕ
  pub numbers : AreNumbersOf w m reg locals
  pub stands : StandsShortest m.code (renumbered_method m reg locals) laid
  pub short : length laid.code ≤ 32767

-- such code is laid for the method
pub record HasSharedCode (w : Linked) (m : Method) : Type 0 where
  pub laid : Laid
  pub is : IsSharedFor w m laid

-- ---- the methods of the last package

-- the element of a method: what is laid for it, and None where it has no code
abbrev pub IsSharedElement : Linked → ℕ → MethodRec → Option Laid → Type 0
IsSharedElement w number r None = r.code_len ≡ 0
IsSharedElement w number r (Some laid) = (0 < r.code_len) × IsSharedFor w (method_with w number r) laid

-- an element for each method from this number on, in order
abbrev pub AreSharedElements : Linked → ℕ → List MethodRec → List (Option Laid) → Type 0
AreSharedElements w number [] [] = Unit {0}
AreSharedElements w number [] (l ∷ ls) = ⊥
AreSharedElements w number (r ∷ rs) [] = ⊥
AreSharedElements w number (r ∷ rs) (l ∷ ls) = IsSharedElement w number r l × AreSharedElements w (suc number) rs ls

-- the methods of a world are those of the libraries and then those of the last package, and each of these has its element
pub record AreSharedOf (w : Linked) (laid : List (Option Laid)) : Type 0 where
  pub libraries : List MethodRec
  pub own : List MethodRec
  pub parts : w.methods ≡ libraries ++ own
  pub before : All (λ r. r.package + 1 < length w.infos) libraries
  pub last : All (λ r. r.package + 1 ≡ length w.infos) own
  pub each : AreSharedElements w (length libraries) own laid

-- ---- how many registers methods have

-- those of a method beside its arguments, where it is one of the last package and has code
abbrev pub locals_of : Linked → MethodRec → ℕ
locals_of w r = if r.package + 1 == length w.infos && nat_lt 0 (length (code_of w.infos r)) then r.max_locals else 0

-- those of all methods with code of the last package
abbrev pub locals_of_last : Linked → ℕ
locals_of_last w = sum_by (locals_of w) w.methods

-- those of what is laid
abbrev pub laid_of : Option Laid → ℕ
laid_of None = 0
laid_of (Some laid) = laid.max_locals

abbrev pub laid_locals : List (Option Laid) → ℕ
laid_locals laid = sum_by laid_of laid
