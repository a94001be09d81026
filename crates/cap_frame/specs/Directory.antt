-- The record of the Directory component, as its items.
use Rattle.std.specs.Prelude.{ℕ, ◌-◌, List, [], Option, Some, ◌==◌, ◌&&◌, nat_le, slice_get, find, if◌then◌else◌}
use Rattle.std.specs.Option.{option_map, unwrap_or}
use Rattle.cap_bytes.specs.Grammar.{repeat}
use Rattle.cap_bytes.specs.Table.{numbers}
use Rattle.cap_bytes.specs.Taking.{given}
use Rattle.cap_frame.specs.declared.lists.CustomEntries.{CustomEntries}
use Rattle.cap_frame.specs.declared.directory_record.CustomEntry.{CustomEntry}
use Rattle.cap_frame.specs.declared.directory_record.Directory.{Directory}
use Rattle.cap_frame.specs.declared.directory_record.ImageSizes.{ImageSizes}
use Rattle.cap_frame.specs.DirectoryFormat as format
use Rattle.cap_frame.specs.DirectoryFormat.{Custom, DirectoryItems, custom_info, none}

abbrev pub custom_seen : CustomEntry → Custom
custom_seen c = record { tag = c.tag; size = c.size; aid = c.aid.now }

abbrev pub customs_left : CustomEntries → List Custom
customs_left x = given [] (repeat x.left (custom_info none)) x.items

abbrev pub image_sizes_seen : ImageSizes → format.ImageSizes
image_sizes_seen x = record { image_size = x.image_size; array_init_count = x.array_init_count; array_init_size = x.array_init_size }

abbrev pub directory_items : Directory → DirectoryItems
directory_items x = record {
  sizes = numbers x.sizes;
  image_size = x.image.image_size;
  array_init_count = x.image.array_init_count;
  array_init_size = x.image.array_init_size;
  import_count = x.import_count;
  applet_count = x.applet_count;
  customs = customs_left x.customs;
}

-- the size of the custom component with this tag
abbrev pub custom_size_in : List Custom → ℕ → Option ℕ
custom_size_in customs tag = option_map (λ (c : Custom). c.size) (find (λ (c : Custom). c.tag == tag) customs)

-- the size of the component with this tag: one of the twelve, with 0 where the format has no size for it, or a custom
-- one
abbrev pub size_in : DirectoryItems → ℕ → Option ℕ
size_in items tag =
    if nat_le 1 tag && nat_le tag 12 then Some (unwrap_or (slice_get items.sizes (tag - 1)) 0)
    else custom_size_in items.customs tag
