-- The Descriptor component as a value of the program.
use Rattle.std.specs.Prelude.{ℕ, ◌+◌, List}
use Rattle.cap_desc.specs.declared.records.DescPart.{DescPart}
use Rattle.cap_desc.specs.declared.type_list.TypeItem.{TypeItem}
use Rattle.cap_desc.specs.DescriptorFormat.{Descriptor}
use Rattle.cap_desc.specs.TypeDescriptor.{TypesAt}
use Rattle.cap_bytes.specs.Table.{numbers}
use Rattle.cap_desc.specs.ClassRecords.{described_left}

abbrev pub descriptor_seen : DescPart → Descriptor
descriptor_seen d = record { classes = described_left d.classes; types_start = d.types_start; pool_types = numbers d.pool_types }

-- a well-formed type descriptor of these types stands at an offset from the item constant_pool_count
abbrev pub HasTypes : DescPart → ℕ → List TypeItem → Type 0
HasTypes d offset types = TypesAt d.info.bytes.now (d.types_start + offset) types
