-- The info of the target index, a custom component (JCVM 2.2, section 6.1.2): numbers of two bytes, how many methods have
-- code, and of each that has code how many places its exact index has, and these places.
use Rattle.std.specs.Prelude.{◌≡◌, ◌≤◌, ◌<◌, ◌+◌, ◌*◌, ℕ, List, [], ◌∷◌, ◌++◌, length, Option, Some}
use Rattle.std.specs.Prelude.{None, option_map, Vec}
use Rattle.std.specs.List.{flat_map}
use Rattle.byteorder.specs.Endian.{big_bytes}
use Rattle.jc_decode.specs.declared.symbols.Laid.{Laid}
use Rattle.jc_control.specs.ExactIndex.{IsExactIndex}

-- each list is the exact index of a method with code, in order
abbrev pub AreExact : List (Option Laid) → List (List ℕ) → Type 0
AreExact [] [] = Unit {0}
AreExact [] (x ∷ xs) = ⊥
AreExact (None ∷ ls) xs = AreExact ls xs
AreExact (Some l ∷ ls) [] = ⊥
AreExact (Some l ∷ ls) (x ∷ xs) = IsExactIndex l.code x × AreExact ls xs

-- a list after its length, and all of them
abbrev pub counted : List ℕ → List ℕ
counted places = length places ∷ places

abbrev pub entries_of : List (List ℕ) → List ℕ
entries_of lists = flat_map counted lists

-- the info of these lists, and how many bytes it has
abbrev pub index_bytes : List (List ℕ) → List ℕ
index_bytes lists = flat_map (big_bytes 2) (length lists ∷ entries_of lists)

abbrev pub index_size : List (List ℕ) → ℕ
index_size lists = 2 + 2 * length (entries_of lists)

-- the info is that of the lists, and there is none exactly where it would have more than 65,535 bytes
abbrev pub IsOfLists : List (List ℕ) → Option (List ℕ) → Type 0
IsOfLists lists None = 65535 < index_size lists
IsOfLists lists (Some info) = (info ≡ index_bytes lists) × (length info ≤ 65535)

-- it is that of the exact indexes of methods
pub record IsIndexOf (laid : List (Option Laid)) (info : Option (List ℕ)) : Type 0 where
  pub lists : List (List ℕ)
  pub exact : AreExact laid lists
  pub bytes : IsOfLists lists info

-- the code of a method has at most 32,767 bytes
abbrev pub AreShortCodes : List (Option Laid) → Type 0
AreShortCodes [] = Unit {0}
AreShortCodes (None ∷ ls) = AreShortCodes ls
AreShortCodes (Some l ∷ ls) = (length l.code ≤ 32767) × AreShortCodes ls

-- ---- on the way

-- an exact index of the code is appended after its length
pub record IsListed (code old new : List ℕ) : Type 0 where
  pub index : List ℕ
  pub exact : IsExactIndex code index
  pub appended : new ≡ old ++ counted index

abbrev pub IsListedIf : Option Laid → List ℕ → List ℕ → Type 0
IsListedIf None old new = new ≡ old
IsListedIf (Some l) old new = IsListed l.code old new

abbrev pub IsShortIf : Option Laid → Type 0
IsShortIf None = Unit {0}
IsShortIf (Some l) = length l.code ≤ 32767

-- the entries of methods
pub record HasEntries (laid : List (Option Laid)) (entries : List ℕ) : Type 0 where
  pub lists : List (List ℕ)
  pub exact : AreExact laid lists
  pub are : entries ≡ entries_of lists

abbrev pub vec_seen : {A : Type 0} → Option (Vec ℕ A) → Option (List ℕ)
vec_seen {A = A} bytes = option_map (λ (b : Vec ℕ A). b.items) bytes
