-- The word of an entry: a class record and a method record of the last package's Descriptor, each by its number from 0.
use Rattle.std.specs.Prelude.{◌≡◌, ℕ, ◌<◌, ◌^◌, List, ◌++◌, codes, decimal}
use Rattle.cap_text.specs.declared.entry.Entry.{Entry}

-- the two numbers with a full stop between them
pub record IsEntryWord (word : List ℕ) (e : Entry) : Type 0 where
  pub writes : word ≡ decimal e.class_no ++ (codes "." ++ decimal e.method_no)
  pub class_fits : e.class_no < 2 ^ 16
  pub method_fits : e.method_no < 2 ^ 16
