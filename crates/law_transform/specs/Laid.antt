-- The code that is laid for the methods of the last package of a world, in the form that a verifier on the card accepts
-- (Leroy 2002, section 4).
use Rattle.std.specs.Prelude.{◌≡◌, ℕ, suc, ◌+◌, ◌<◌, ◌≤◌, List, [], ◌∷◌, ◌++◌, length, All, Option, Some}
use Rattle.std.specs.Prelude.{None}
use Rattle.jc_base.specs.declared.record.MethodRec.{MethodRec}
use Rattle.jc_base.specs.World.{Linked}
use Rattle.jc_decode.specs.declared.symbols.Symbols.{Symbols}
use Rattle.jc_decode.specs.declared.symbols.Laid.{Laid}
use Rattle.jc_control.specs.Method.{Method, method_with}
use Rattle.jc_rules.specs.Demand.{Frame}
use Rattle.jc_rules.specs.Typing.{state_at}
use Rattle.jc_flow.specs.Infer.{AreDerived}
use Rattle.xf_homes.specs.declared.home.Home.{Home}
use Rattle.xf_homes.specs.Answer.{IsTypingOf}
use Rattle.xf_homes.specs.Order.{AreHomes, register_sum}
use Rattle.xf_emission.specs.Emission.{AreSymbolsOf}
use Rattle.xf_layout.specs.Shortest.{StandsShortest}

-- ---- a method

-- the method's least typing, the homes by it, the method rewritten with these, and its shortest bytes; no limit is passed
pub record IsLaidFor (w : Linked) (m : Method) (laid : Laid) : Type 0 where
  pub typing : List (Option Frame)
  pub typed : IsTypingOf w m typing
  pub derived : AreDerived w m typing
  pub homes : List Home
  pub are : AreHomes w m (state_at typing) homes
  pub few : register_sum homes ≤ 255
  pub room : m.rec.max_stack < 255
  pub symbols : Symbols
  pub rewritten : AreSymbolsOf w m (state_at typing) homes symbols
  pub stands : StandsShortest m.code symbols laid
  pub short : length laid.code ≤ 32767

-- code is laid for the method
pub record HasLaidCode (w : Linked) (m : Method) : Type 0 where
  pub laid : Laid
  pub is : IsLaidFor w m laid

-- ---- the methods of the last package

-- the element of a method: what is laid for it, and None where it has no code
abbrev pub IsLaidElement : Linked → ℕ → MethodRec → Option Laid → Type 0
IsLaidElement w number r None = r.code_len ≡ 0
IsLaidElement w number r (Some laid) = (0 < r.code_len) × IsLaidFor w (method_with w number r) laid

-- an element for each method from this number on, in order
abbrev pub AreLaidElements : Linked → ℕ → List MethodRec → List (Option Laid) → Type 0
AreLaidElements w number [] [] = Unit {0}
AreLaidElements w number [] (l ∷ ls) = ⊥
AreLaidElements w number (r ∷ rs) [] = ⊥
AreLaidElements w number (r ∷ rs) (l ∷ ls) = IsLaidElement w number r l × AreLaidElements w (suc number) rs ls

-- the methods of a world are those of the libraries and then those of the last package, and each of these has its element
pub record AreLaidOf (w : Linked) (laid : List (Option Laid)) : Type 0 where
  pub libraries : List MethodRec
  pub own : List MethodRec
  pub parts : w.methods ≡ libraries ++ own
  pub before : All (λ r. r.package + 1 < length w.infos) libraries
  pub last : All (λ r. r.package + 1 ≡ length w.infos) own
  pub each : AreLaidElements w (length libraries) own laid
