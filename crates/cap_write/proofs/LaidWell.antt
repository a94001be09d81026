-- Code that may be laid is short, and its handlers lie in it.
use Rattle.std.proofs.Common.{◌≤◌, ℕ, Bool, true, false, List, [], ◌∷◌, ◌++◌, length, map, Option, Some, None, arith}
use Rattle.std.specs.Prelude.{if◌then◌else◌}
use Rattle.cap_desc.specs.DescriptorFormat.{MethodDescriptor, ClassDescriptor}
use Rattle.cap_desc.specs.Members.{methods_but}
use Rattle.cap_components.specs.Parts.{Lent}
use Rattle.cap_components.specs.PackageRecord.{PackageRecord}
use Rattle.cap_package.specs.StandsFor.{StandsFor}
use Rattle.cap_laying.specs.HandlerTable.{AreInside}
use Rattle.jc_decode.specs.declared.symbols.Laid.{Laid}
use Rattle.law_package.proofs.Lists.{Each}
use Rattle.cap_package.proofs.Agreed.{agrees}
use Rattle.law_package.proofs.Facts.{WasWell, wells}
use Rattle.cap_write.specs.Condition.{handler_sum, no_method, methods_for, AreElements, MayBeLaid}

-- at most 32,767 bytes of code, in which the handlers lie
pub record IsLaidWell (laid : Laid) : Type 0 where
  pub short : length laid.code ≤ 32767
  pub few : length laid.handlers ≤ 255
  pub inside : AreInside (length laid.code) laid.handlers

abbrev pub AreLaidWell : List (Option Laid) → Type 0
AreLaidWell [] = Unit {0}
AreLaidWell (None ∷ ls) = AreLaidWell ls
AreLaidWell (Some l ∷ ls) = IsLaidWell l × AreLaidWell ls

-- each method that has to be written is well in the package
abbrev AreWell : PackageRecord → List (Option MethodDescriptor) → Type 0
AreWell p [] = Unit {0}
AreWell p (None ∷ ms) = AreWell p ms
AreWell p (Some m ∷ ms) = WasWell p m × AreWell p ms

well_none : (p : PackageRecord) (ms : List MethodDescriptor) (ns : List (Option MethodDescriptor)) → AreWell p ns → AreWell p (map no_method ms ++ ns)
well_none p [] ns h = h
well_none p (m ∷ ms) ns h = well_none p ms ns h

well_some : (p : PackageRecord) (ms ks : List MethodDescriptor) (ns : List (Option MethodDescriptor)) → Each (WasWell p) (ms ++ ks)
    → (Each (WasWell p) ks → AreWell p ns) → AreWell p (map Some ms ++ ns)
well_some p [] ks ns h f = f h
well_some p (m ∷ ms) ks ns h f = (h.0, well_some p ms ks ns h.1 f)

well_for : (p : PackageRecord) (set : ℕ → Bool) (cs : List ClassDescriptor) → Each (WasWell p) (methods_but set cs) → AreWell p (methods_for set cs)
well_for p set [] h = tt
well_for p set (c ∷ cs) h = by (set c.class_ref) h (λ k. well_for p set cs k)
  where
    by : (b : Bool) → Each (WasWell p) (if b then methods_but set cs else c.methods ++ methods_but set cs)
        → (Each (WasWell p) (methods_but set cs) → AreWell p (methods_for set cs))
        → AreWell p ((if b then map no_method c.methods else map Some c.methods) ++ methods_for set cs)
    by true h f = well_none p c.methods (methods_for set cs) (f h)
    by false h f = well_some p c.methods (methods_but set cs) (methods_for set cs) h f

laid_all : (p : PackageRecord) (ms : List (Option MethodDescriptor)) (ls : List (Option Laid)) → AreWell p ms → AreElements p.methods.info ms ls
    → handler_sum ls ≤ 255 → AreLaidWell ls
laid_all p [] [] w e few = tt
laid_all p [] (l ∷ ls) w e few = absurd e
laid_all p (m ∷ ms) [] w e few = tt
laid_all p (None ∷ ms) (None ∷ ls) w e few = laid_all p ms ls w e.1 few
laid_all p (None ∷ ms) (Some l ∷ ls) w e few = absurd e.0
laid_all p (Some m ∷ ms) (None ∷ ls) w e few = laid_all p ms ls w.1 e.1 few
laid_all p (Some m ∷ ms) (Some l ∷ ls) w e few = ((grind (arith)), laid_all p ms ls w.1 e.1 (omega arith))

pub laid_well : (parts : List Lent) (p : PackageRecord) (laid : List (Option Laid)) → StandsFor parts p → MayBeLaid p laid → AreLaidWell laid
laid_well parts p laid s l = grind (arith, wells parts p (agrees parts p s.agree), laid_all, well_for)
