-- The Directory of a package whose methods are written anew (JCVM 2.2, section 6.4): the sizes of the Method and the
-- ReferenceLocation component and its own are others, that of Debug is 0, and the target index beside the code is a
-- custom component.
use Rattle.std.specs.Prelude.{◌+◌, ◌*◌, ℕ, Bool, true, false, List, [], ◌∷◌, ◌++◌, length, filter, not, ◌==◌}
use Rattle.std.specs.Prelude.{◌&&◌, if◌then◌else◌}
use Rattle.std.specs.List.{flat_map}
use Rattle.byteorder.specs.Endian.{big_bytes}
use Rattle.cap_frame.specs.Tags.{index_aid}
use Rattle.cap_frame.specs.DirectoryFormat.{Custom, DirectoryItems}
use Rattle.cap_laying.specs.declared.writing.IndexChange.{IndexChange}
use Rattle.cap_laying.specs.declared.writing.IndexChange.TheVariants.{Kept, Dropped, Written}
use Rattle.cap_laying.specs.declared.writing.ComponentSizes.{ComponentSizes}
use Rattle.cap_laying.specs.DirectoryBytes.{custom_bytes, customs_size}

-- the size of the component with a tag, which was another
abbrev pub new_size : ℕ → ComponentSizes → ℕ → ℕ → ℕ
new_size own new tag old =
    if tag == 2 then own
    else if tag == 7 then new.methods
    else if tag == 9 then new.references
    else if tag == 12 then 0
    else old

-- the sizes from that with a tag on
abbrev pub sizes_from : ℕ → ComponentSizes → ℕ → List ℕ → List ℕ
sizes_from own new tag [] = []
sizes_from own new tag (s ∷ ss) = new_size own new tag s ∷ sizes_from own new (tag + 1) ss

-- whether the entry with the tag 128 is left out
abbrev pub drops : IndexChange → Bool
drops Kept = false
drops Dropped = true
drops (Written size) = true

-- a custom component that stays
abbrev pub stays_in_index : IndexChange → Custom → Bool
stays_in_index change c = not (drops change && c.tag == 128)

-- the entry of a target index that is written
abbrev pub index_entry : IndexChange → List Custom
index_entry Kept = []
index_entry Dropped = []
index_entry (Written size) = record { tag = 128; size = size; aid = index_aid } ∷ []

-- what one that stays adds to their number, to their bytes' number and to their bytes
abbrev pub kept_count : IndexChange → Custom → ℕ
kept_count change c = if stays_in_index change c then 1 else 0

abbrev pub kept_size : IndexChange → Custom → ℕ
kept_size change c = if stays_in_index change c then 4 + length c.aid else 0

abbrev pub kept_bytes : IndexChange → Custom → List ℕ
kept_bytes change c = if stays_in_index change c then custom_bytes c else []

-- the custom components: those that stay, and then that of the target index, if one is written
abbrev pub new_customs : IndexChange → List Custom → List Custom
new_customs change customs = filter (stays_in_index change) customs ++ index_entry change

-- how many bytes it has
abbrev pub own_size : ComponentSizes → DirectoryItems → ℕ
own_size new d = 2 * length d.sizes + 9 + customs_size (new_customs new.index d.customs)

abbrev pub new_directory : ComponentSizes → DirectoryItems → DirectoryItems
new_directory new d = record {
  sizes = sizes_from (own_size new d) new 1 d.sizes;
  image_size = d.image_size;
  array_init_count = d.array_init_count;
  array_init_size = d.array_init_size;
  import_count = d.import_count;
  applet_count = d.applet_count;
  customs = new_customs new.index d.customs;
}

-- what stands before the custom components
abbrev pub head_of : ℕ → ComponentSizes → DirectoryItems → List ℕ
head_of own new d =
    flat_map (big_bytes 2) (sizes_from own new 1 d.sizes)
    ++ (big_bytes 2 d.image_size
    ++ (big_bytes 2 d.array_init_count
    ++ (big_bytes 2 d.array_init_size
    ++ (d.import_count ∷ d.applet_count ∷ []))))
