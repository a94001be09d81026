-- The constant pool (JCVM 2.2, section 6.7) with the offsets of the package's own static methods renewed.
use Rattle.std.specs.Prelude.{◌+◌, ℕ, List, [], ◌∷◌, Option, Some, None, slice_index}
use Rattle.byteorder.specs.Endian.{big_bytes}
use Rattle.cap_pool.specs.PoolFormat.{Entry}
use Rattle.cap_pool.specs.declared.pool_record.PoolReference.{PoolReference}
use Rattle.cap_pool.specs.declared.pool_record.PoolReference.TheVariants.{StaticMethod}
use Rattle.cap_pool.specs.declared.pool_record.StaticReference.TheVariants.{Internal}
use Rattle.cap_pool.specs.PoolReference.{referred}
use Rattle.cap_bytes.specs.Edit.{Edit}
use Rattle.cap_renewal.specs.Along.{along}

-- the offset of the package's own static method that an entry names: the last two of its three bytes
abbrev pub own_offset : PoolReference → Option ℕ
own_offset (StaticMethod (Internal offset)) = Some offset
own_offset other = None

abbrev pub own_method : Entry → Option ℕ
own_method e = own_offset (referred e)

abbrev pub entry_by : (ℕ → ℕ) → Entry → Option ℕ → Entry
entry_by to e None = e
entry_by to e (Some offset) = record { tag = e.tag; bytes = slice_index e.bytes 0 ∷ big_bytes 2 (to offset) }

-- an entry with the new offset; one that names no method of the package stays
abbrev pub renewed_entry : (ℕ → ℕ) → Entry → Entry
renewed_entry to e = entry_by to e (own_method e)

abbrev pub edits_by : (ℕ → ℕ) → ℕ → Option ℕ → List Edit
edits_by to at None = []
edits_by to at (Some offset) = record { at = at + 2; number = to offset } ∷ []

abbrev pub entry_edits : (ℕ → ℕ) → ℕ → Entry → List Edit
entry_edits to at e = edits_by to at (own_method e)

abbrev pub entry_width : Entry → ℕ
entry_width e = 4

-- the entries stand after their count
abbrev pub pool_edits : (ℕ → ℕ) → List Entry → List Edit
pool_edits to entries = along (entry_edits to) entry_width 2 entries
