-- What it is to take items from the front of what is left of some bytes.
use Rattle.std.specs.Prelude.{◌≡◌, ℕ, ◌+◌, ◌*◌, List, Result, Ok, Err, Bool, IsTrue}
use Rattle.std.specs.Borrow.{Bor}
use Rattle.cap_bytes.specs.declared.fault.FormFault.{FormFault}
use Rattle.cap_bytes.specs.declared.cursor.Cursor.{Cursor}
use Rattle.cap_bytes.specs.Grammar.{Grammar}
use Rattle.cap_bytes.specs.Spelling.{Origin, info_of}
use Rattle.cap_bytes.specs.Reading.{Reading, read, reading, is_read, value_or}

-- ---- views: which value of a grammar a value of the program is

abbrev pub same : {X : Type 0} → X → X
same x = x

abbrev pub bytes : Bor (List ℕ) → List ℕ
bytes part = part.now

abbrev pub nothing : {X : Type 0} → X → Unit {0}
nothing x = tt {0}

-- ---- taking

-- what reading the next items by a grammar answers
abbrev pub next : {X : Type 0} → Grammar X → Cursor → Reading X
next g items = read (info_of items.part) g items.info.bytes.now items.at

-- the items of the grammar were next, with this value, and what is left begins after them
pub record Taken {X : Type 0} (g : Grammar X) (before : Cursor) (x : X) (after : Cursor) : Type 0 where
  pub value : next g before ≡ Ok (x, after.at)
  pub info : after.info ≡ before.info
  pub part : after.part ≡ before.part

-- the first item that breaks the grammar gives this fault
pub record TakingFails {X : Type 0} (g : Grammar X) (before : Cursor) (fault : FormFault) : Type 0 where
  pub answer : next g before ≡ Err fault

-- the items are taken, and the result is their value; or the first of them that breaks the grammar
-- gives the fault
abbrev pub Takes : {R X : Type 0} → (R → X) → Grammar X → Cursor → Result R FormFault → Cursor → Type 0
Takes view g before (Ok x) after = Taken g before (view x) after
Takes view g before (Err fault) after = TakingFails g before fault

-- the same where the value is passed over
abbrev pub PassesOver : {R X : Type 0} → Grammar X → Cursor → Result R FormFault → Cursor → Type 0
PassesOver {X = X} g before (Ok r) after = (x : X) × Taken g before x after
PassesOver g before (Err fault) after = TakingFails g before fault

-- ---- what is known to be next

-- whether the next items are by the grammar
unfoldable pub gives : {X : Type 0} → Grammar X → Cursor → Bool
gives g items = is_read (next g items)

abbrev pub Gives : {X : Type 0} → Grammar X → Cursor → Type 0
Gives g items = IsTrue (gives g items)

-- their value, or another where they are not
unfoldable pub given : {X : Type 0} → X → Grammar X → Cursor → X
given otherwise g items = value_or otherwise (next g items)

-- so many items of one width further on
pub record IsAhead (now : Cursor) (n width : ℕ) (there : Cursor) : Type 0 where
  pub at : there.at ≡ now.at + n * width
  pub info : there.info ≡ now.info
  pub part : there.part ≡ now.part

-- ---- whole bytes

-- the bytes are by the grammar, and the result is their value; or the first item that breaks it gives
-- the fault
abbrev pub Reads : {R X : Type 0} → (R → X) → Origin → Grammar X → List ℕ → Result R FormFault → Type 0
Reads view from g bytes (Ok r) = reading from g bytes ≡ Ok (view r)
Reads view from g bytes (Err fault) = reading from g bytes ≡ Err fault
