-- The contents of blocks as components, byte by byte.
use Rattle.std.specs.Prelude.{ℕ, zero, suc, ◌+◌, ◌*◌, ◌-◌, Option, Some, None, is_none, if◌then◌else◌}
use Rattle.cap_load.specs.declared.fault.StreamFault.{StreamFault}
use Rattle.cap_load.specs.declared.fault.StreamFault.TheVariants.{NoTag, Order}
use Rattle.cap_load.specs.declared.component.Next.{Next}
use Rattle.cap_load.specs.declared.component.Next.TheVariants.{Tag, High, Low, Info}
use Rattle.cap_load.specs.declared.component.Reading.{Reading}
use Rattle.cap_load.specs.Order.{place, comes_before}

abbrev pub order_fault : Option ℕ → ℕ → Option StreamFault
order_fault None tag = None
order_fault (Some first) tag = if comes_before first tag then None else Some (Order first tag)

-- the fault that the first byte of a component shows, after the component of another tag
unfoldable pub tag_fault : Option ℕ → ℕ → Option StreamFault
tag_fault last tag = if is_none (place tag) then Some (NoTag tag) else order_fault last tag

abbrev pub shown_by : Next → Option ℕ → ℕ → Option StreamFault
shown_by Tag last byte = tag_fault last byte
shown_by High last byte = None
shown_by (Low high) last byte = None
shown_by (Info left) last byte = None

-- the fault that the next byte shows as a part of a component
abbrev pub shown : Reading → ℕ → Option StreamFault
shown reading byte = shown_by reading.next reading.last byte

-- what comes next where so many bytes of the info are left
abbrev pub info_left : ℕ → Next
info_left zero = Tag
info_left (suc left) = Info (suc left)

abbrev pub read_by : Next → Option ℕ → ℕ → Reading
read_by Tag last byte = record { last = Some byte; next = High }
read_by High last byte = record { last = last; next = Low byte }
read_by (Low high) last byte = record { last = last; next = info_left (high * 256 + byte) }
read_by (Info left) last byte = record { last = last; next = info_left (left - 1) }

-- how far the contents were read with one byte more
abbrev pub read_byte : Reading → ℕ → Reading
read_byte reading byte = read_by reading.next reading.last byte
