-- Signatures of methods compared: the types of the argument words and of the result (JCVM 2.2, section 6.13.4).
use Rattle.std.specs.Prelude.{◌≡◌, ℕ, ◌&&◌, ◌↔◌, Bool, true, false, IsTrue, List, [], ◌∷◌, Option, Some, None}
use Rattle.std.specs.Prelude.{option_map, option_and_then, slice_get}
use Rattle.jc_base.specs.declared.ty.Ty.{Ty}
use Rattle.jc_base.specs.declared.record.Sig.{Sig}
use Rattle.jc_base.specs.declared.record.MethodRec.{MethodRec}
use Rattle.jc_base.specs.SameType.{same_type}

abbrev pub same_types : List Ty → List Ty → Bool
same_types [] [] = true
same_types [] (b ∷ bs) = false
same_types (a ∷ as_) [] = false
same_types (a ∷ as_) (b ∷ bs) = same_type a b && same_types as_ bs

abbrev pub same_result : Option Ty → Option Ty → Bool
same_result None None = true
same_result None (Some b) = false
same_result (Some a) None = false
same_result (Some a) (Some b) = same_type a b

unfoldable pub same_sig : Sig → Sig → Bool
same_sig a b = same_types a.args b.args && same_result a.result b.result

-- whether two entries have one signature, or neither has a method
abbrev pub same_signature : Option Sig → Option Sig → Bool
same_signature None None = true
same_signature None (Some b) = false
same_signature (Some a) None = false
same_signature (Some a) (Some b) = same_sig a b

-- that is: true exactly where the signatures are equal
abbrev pub TellsSame : Type 0
TellsSame = (a b : Option Sig) → IsTrue (same_signature a b) ↔ (a ≡ b)

-- the method of an entry of a dispatch list, and its signature
abbrev pub entry_method : List MethodRec → Option ℕ → Option MethodRec
entry_method methods entry = option_and_then (slice_get methods) entry

abbrev pub entry_signature : List MethodRec → Option ℕ → Option Sig
entry_signature methods entry = option_map (λ m. m.sig) (entry_method methods entry)
