-- The words of a command line. A number is written in decimal with no leading zero, no plus sign
-- and no negative zero, so each number has one word.
use Rattle.std.specs.Prelude.{◌≡◌, ◌≢◌, ℕ, ◌<◌, ◌≤◌, ◌^◌, List, [], ◌∷◌, All, codes, decimal, length}
use Rattle.std.specs.Prelude.{FitsSigned}
use Rattle.std.specs.Fmt.{signed_decimal}
use Rattle.std.specs.Int.{w32}
use Rattle.hex.specs.Hex.{encode_lower, IsBytes}
use Rattle.vm_step.specs.Arguments.{Argument, number, null, bytes}
use Rattle.cap_text.specs.declared.word.OwnedArg.{OwnedArg}
use Rattle.cap_text.specs.declared.word.OwnedArg.TheVariants.{Number, Null, Bytes}

-- any word but the empty one and the one that ends a list of folders
pub record IsFolderWord (word : List ℕ) : Type 0 where
  pub filled : word ≢ []
  pub no_end : word ≢ codes "--"

-- one or more of them
abbrev pub AreFolderWords : List (List ℕ) → Type 0
AreFolderWords [] = ⊥
AreFolderWords (dir ∷ dirs) = IsFolderWord dir × All IsFolderWord dirs

-- the word writes this number, of 32 bits
pub record IsNumberWord (word : List ℕ) (n : ℕ) : Type 0 where
  pub writes : word ≡ decimal n
  pub fits : n < 2 ^ 32

-- after a number sign, two lower-case hexadecimal digits for each of at most 1,024 bytes
pub record IsBytesWord (word : List ℕ) (bs : List ℕ) : Type 0 where
  pub writes : word ≡ 35 ∷ encode_lower bs
  pub are_bytes : IsBytes bs
  pub few : length bs ≤ 1024

-- the word writes this argument of a run: null, a signed number of 32 bits, or the bytes of an array
abbrev pub IsArgWord : List ℕ → Argument → Type 0
IsArgWord word null = word ≡ codes "null"
IsArgWord word (number z) = (word ≡ signed_decimal z) × FitsSigned w32 z
IsArgWord word (bytes bs) = IsBytesWord word bs

-- the words write these arguments, one each
abbrev pub AreArgWords : List (List ℕ) → List Argument → Type 0
AreArgWords [] [] = Unit {0}
AreArgWords [] (arg ∷ args) = ⊥
AreArgWords (word ∷ words) [] = ⊥
AreArgWords (word ∷ words) (arg ∷ args) = IsArgWord word arg × AreArgWords words args

-- the argument that was read from a word
abbrev pub argument_read : OwnedArg → Argument
argument_read (Number z) = number z
argument_read Null = null
argument_read (Bytes bs) = bytes bs.items
