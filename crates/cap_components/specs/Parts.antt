-- The files of a package's folder: components by tag, each at most once (JCVM 2.2, section 6.1).
use Rattle.std.specs.Prelude.{ℕ, Bool, List, [], ◌∷◌, Option, IsNone, find, option_map, ◌==◌}

-- a file: the tag of the component that it holds, and its bytes
pub record Lent : Type 0 where
  pub part : ℕ
  pub bytes : List ℕ

abbrev pub is_of : ℕ → Lent → Bool
is_of tag lent = lent.part == tag

abbrev pub bytes_of : Lent → List ℕ
bytes_of lent = lent.bytes

-- the bytes of the file for a tag, where it is there
abbrev pub held : List Lent → ℕ → Option (List ℕ)
held parts tag = option_map bytes_of (find (is_of tag) parts)

-- each tag stands at most once
abbrev pub HasEachOnce : List Lent → Type 0
HasEachOnce [] = Unit {0}
HasEachOnce (lent ∷ parts) = IsNone (held parts lent.part) × HasEachOnce parts
