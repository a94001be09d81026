-- Bytes that spell a value wherever they stand, so that what is written item by item can be read.
use Rattle.std.specs.Prelude.{◌≡◌, ◌+◌, ℕ, List, ◌++◌, length}
use Rattle.cap_bytes.specs.Grammar.{Grammar}
use Rattle.cap_bytes.specs.Spelling.{Spells}

-- the bytes spell the value at a place of so many bytes, whatever stands before and after
pub record SpellsInPlace {X : Type 0} (total : ℕ) (g : Grammar X) (at : ℕ) (out : List ℕ) (x : X) : Type 0 where
  pub there : (before after : List ℕ) → length before ≡ at → length before + (length out + length after) ≡ total
      → Spells g (before ++ (out ++ after)) at x (at + length out)
