-- Code that may stand in place of a method's (JCVM 2.2, section 6.9).
use Rattle.std.specs.Prelude.{◌≡◌, ◌≤◌, ◌<◌, ℕ, ◌+◌, List, [], ◌∷◌, length, Option, Some, None, IsSomeAnd, slice_get}
use Rattle.cap_laying.specs.HandlerTable.{AreInside}
use Rattle.jc_base.specs.declared.record.MethodRec.{MethodRec}
use Rattle.jc_base.specs.World.{Linked}
use Rattle.jc_decode.specs.declared.symbols.Laid.{Laid}

-- code of 1 to 32,767 bytes, with the method's arguments, at most 255 registers, no more handlers than the method has, and all of them
-- inside
pub record FitsMethod (r : MethodRec) (laid : Laid) : Type 0 where
  pub some : 1 ≤ length laid.code
  pub short : length laid.code ≤ 32767
  pub arguments : laid.nargs ≡ r.nargs
  pub registers : laid.nargs + laid.max_locals ≤ 255
  pub inside : AreInside (length laid.code) laid.handlers
  pub few : length laid.handlers ≤ length r.handlers

-- what is laid for a method with code, and nothing for one without
abbrev pub FitsElement : MethodRec → Option Laid → Type 0
FitsElement r None = r.code_len ≡ 0
FitsElement r (Some laid) = (0 < r.code_len) × FitsMethod r laid

-- an element for each method, in order
abbrev pub AreFit : List MethodRec → List (Option Laid) → Type 0
AreFit [] [] = Unit {0}
AreFit [] (l ∷ ls) = ⊥
AreFit (r ∷ rs) [] = ⊥
AreFit (r ∷ rs) (l ∷ ls) = FitsElement r l × AreFit rs ls

-- the element of the method of this number, of which `Is` says what it is, fits it
pub record IsFitting (Is : ℕ → MethodRec → Option Laid → Type 0) (n : ℕ) (laid : Option Laid) (r : MethodRec) : Type 0 where
  pub is : Is n r laid
  pub fits : FitsElement r laid

abbrev pub IsFittingAt : (ℕ → MethodRec → Option Laid → Type 0) → Linked → ℕ → Option Laid → Type 0
IsFittingAt Is w n laid = IsSomeAnd (slice_get w.methods n) (IsFitting Is n laid)
