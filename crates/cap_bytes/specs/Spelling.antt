-- Which bytes a grammar stands for, as relations, and which item of bytes that it doesn't stand for
-- is the first that breaks it.
use Rattle.std.specs.Prelude.{◌≡◌, ℕ, ◌+◌, ◌-◌, ◌≤◌, ◌<◌, ◌⊎◌, List, length, take, drop, Some, None}
use Rattle.cap_bytes.specs.declared.fault.FormFault.{FormFault}
use Rattle.cap_bytes.specs.declared.fault.FormKind.{FormKind}
use Rattle.cap_bytes.specs.declared.fault.FormKind.TheVariants.{Cut, Trailing}
use Rattle.cap_bytes.specs.Number.{number_at}
use Rattle.cap_bytes.specs.Grammar.{Grammar, give, number, piece, remaining, place, finish, ◌>>=◌}

-- the bytes from a place on spell the value, up to the place after its last item
unfoldable pub Spells : {X : Type 0} → Grammar X → List ℕ → ℕ → X → ℕ → Type 0
Spells (give y) bytes at x after = (x ≡ y) × (after ≡ at)
Spells (number w wrong) bytes at n after = (number_at w at bytes ≡ Some n) × (wrong n ≡ None) × (after ≡ at + w)
Spells (piece n) bytes at part after = (at + n ≤ length bytes) × (part ≡ take n (drop at bytes)) × (after ≡ at + n)
Spells remaining bytes at n after = (n ≡ length bytes - at) × (after ≡ at)
Spells place bytes at n after = (n ≡ at) × (after ≡ at)
Spells finish bytes at x after = (length bytes ≤ at) × (after ≡ at)
Spells (g >>= next) bytes at y after = (x : _) × (middle : ℕ) × Spells g bytes at x middle × Spells (next x) bytes middle y after

-- the bytes from the first on spell the value
unfoldable pub Stands : {X : Type 0} → Grammar X → List ℕ → X → Type 0
Stands g bytes x = (after : ℕ) × Spells g bytes 0 x after

-- of which file the bytes are a part: the tag of its component, and the offset of the first byte
pub record Origin : Type 0 where
  pub part : ℕ
  pub offset : ℕ

-- the info of the component with this tag, which stands after the tag and the size
abbrev pub info_of : ℕ → Origin
info_of tag = record { part = tag; offset = 3 }

-- the whole file
abbrev pub file_of : ℕ → Origin
file_of tag = record { part = tag; offset = 0 }

-- a fault at a place of the bytes, by its offset in the file
abbrev pub fault_at : Origin → ℕ → FormKind → FormFault
fault_at from at kind = record { part = from.part; at = from.offset + at; kind = kind }

-- the bytes end too early
abbrev pub cut : Origin → List ℕ → FormFault
cut from bytes = fault_at from (length bytes) Cut

-- from a place on, the first item that breaks the grammar breaks it in this way
unfoldable pub Breaks : {X : Type 0} → Origin → Grammar X → List ℕ → ℕ → FormFault → Type 0
Breaks from (give y) bytes at fault = ⊥
Breaks from (number w wrong) bytes at fault =
    (length bytes < at + w) × (fault ≡ cut from bytes) ⊎
    (n : ℕ) × (kind : FormKind) × (number_at w at bytes ≡ Some n) × (wrong n ≡ Some kind) × (fault ≡ fault_at from at kind)
Breaks from (piece n) bytes at fault = (length bytes < at + n) × (fault ≡ cut from bytes)
Breaks from remaining bytes at fault = ⊥
Breaks from place bytes at fault = ⊥
Breaks from finish bytes at fault = (at < length bytes) × (fault ≡ fault_at from at Trailing)
Breaks from (g >>= next) bytes at fault =
    Breaks from g bytes at fault ⊎
    ((x : _) × (middle : ℕ) × Spells g bytes at x middle × Breaks from (next x) bytes middle fault)
