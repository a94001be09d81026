-- The entries of the handler table that a method has when its code is laid at an offset (JCVM 2.2, section 6.9.1).
use Rattle.std.specs.Prelude.{◌≡◌, ◌≤◌, ◌<◌, ◌+◌, ℕ, Bool, true, false, List, [], ◌∷◌, ◌++◌, not, nat_le}
use Rattle.std.specs.Prelude.{◌&&◌, if◌then◌else◌, refl}
use Rattle.std.specs.List.{list_any, flat_map}
use Rattle.byteorder.specs.Endian.{big_bytes}
use Rattle.cap_method.specs.declared.read_methods.HandlerInfo.{HandlerInfo}
use Rattle.jc_decode.specs.declared.symbols.LaidHandler.{LaidHandler}

-- the range of a handler lies in that of another
abbrev pub is_in : LaidHandler → LaidHandler → Bool
is_in h outer = nat_le outer.start h.start && nat_le (h.start + h.length) (outer.start + outer.length)

-- the stop bit: no later handler of the method has a range that contains this one's
abbrev pub stops : LaidHandler → List LaidHandler → Bool
stops h later = not (list_any (is_in h) later)

-- the entry of a handler of code that begins at an offset
abbrev pub handler_entry : ℕ → Bool → LaidHandler → HandlerInfo
handler_entry start stop h = record { start = start + h.start; stop = stop; length = h.length; entry = start + h.entry; index = h.pool }

-- the entries of a method's handlers, in their order
abbrev pub entries_at : ℕ → List LaidHandler → List HandlerInfo
entries_at start [] = []
entries_at start (h ∷ hs) = handler_entry start (stops h hs) h ∷ entries_at start hs

-- the stop bit stands above the length
abbrev pub active : HandlerInfo → ℕ
active e = if e.stop then 32768 + e.length else e.length

unfoldable pub entry_bytes : HandlerInfo → List ℕ
entry_bytes e = big_bytes 2 e.start ++ (big_bytes 2 (active e) ++ (big_bytes 2 e.entry ++ big_bytes 2 e.index))

abbrev pub table_bytes : List HandlerInfo → List ℕ
table_bytes entries = flat_map entry_bytes entries

-- a handler's range and its entry lie in code of so many bytes, and each method has at most 32,767
pub record IsInside (size : ℕ) (h : LaidHandler) : Type 0 where
  pub range : h.start + h.length ≤ size
  pub short : h.length ≤ 32767
  pub entry : h.entry < size

abbrev pub AreInside : ℕ → List LaidHandler → Type 0
AreInside size [] = Unit {0}
AreInside size (h ∷ hs) = IsInside size h × AreInside size hs

-- a handler inside one that comes later, in code at offset 9
two : entries_at 9 (record { start = 1; length = 2; entry = 5; pool = 0 } ∷ record { start = 0; length = 4; entry = 6; pool = 3 } ∷ [])
    ≡ record { start = 10; stop = false; length = 2; entry = 14; index = 0 }
    ∷ record { start = 9; stop = true; length = 4; entry = 15; index = 3 } ∷ []
two = refl
