-- The Directory component (JCVM 2.2, section 6.4), in the formats 2.1 and 2.2.
use Rattle.std.specs.Prelude.{ℕ, Bool, false, List, not, ◌&&◌, ◌||◌, ◌==◌, nat_le}
use Rattle.cap_bytes.specs.declared.fault.Format.{Format}
use Rattle.cap_bytes.specs.declared.fault.Format.TheVariants.{V21, V22}
use Rattle.cap_bytes.specs.Grammar.{Grammar, give, number, finish, u1, u2, aid, that, each, table, ◌>>=◌}

-- a custom component
pub record Custom : Type 0 where
  pub tag : ℕ
  pub size : ℕ
  pub aid : List ℕ

pub record DirectoryItems : Type 0 where
  -- the sizes of the components from tag 1 on, 0 for one that is absent
  pub sizes : List ℕ
  pub image_size : ℕ
  pub array_init_count : ℕ
  pub array_init_size : ℕ
  pub import_count : ℕ
  pub applet_count : ℕ
  pub customs : List Custom

-- the tags of custom components are from 128, and each stands once
abbrev pub is_new_tag : (ℕ → Bool) → ℕ → Bool
is_new_tag named tag = nat_le 128 tag && not (named tag)

-- a custom component after its tag
abbrev pub after_tag : ℕ → Grammar Custom
after_tag tag = do
  size ← u2
  identifier ← aid
  give (record { tag = tag; size = size; aid = identifier })

abbrev pub custom_info : (ℕ → Bool) → Grammar Custom
custom_info named = do
  tag ← number 1 (that (is_new_tag named))
  after_tag tag

-- no tag
abbrev pub none : ℕ → Bool
none tag = false

-- the tags that were named, and that of one more component
abbrev pub and_that_of : (ℕ → Bool) → Custom → ℕ → Bool
and_that_of named custom tag = tag == custom.tag || named tag

-- a byte that counts the custom components, and the components
abbrev pub customs_info : Grammar (List Custom)
customs_info = do
  count ← u1
  each count custom_info and_that_of none

-- the components with a size: 1 to 12, and in format 2.1, which has none for Debug, 1 to 11
abbrev pub size_count : Format → ℕ
size_count V21 = 11
size_count V22 = 12

-- static_field_size_info
pub record ImageSizes : Type 0 where
  pub image_size : ℕ
  pub array_init_count : ℕ
  pub array_init_size : ℕ

abbrev pub image_sizes_info : Grammar ImageSizes
image_sizes_info = do
  image_size ← u2
  array_init_count ← u2
  array_init_size ← u2
  give (record { image_size = image_size; array_init_count = array_init_count; array_init_size = array_init_size })

abbrev pub directory_info : Format → Grammar DirectoryItems
directory_info format = do
  sizes ← table (size_count format)
  image ← image_sizes_info
  import_count ← u1
  applet_count ← u1
  customs ← customs_info
  end ← finish
  give (record {
    sizes = sizes;
    image_size = image.image_size;
    array_init_count = image.array_init_count;
    array_init_size = image.array_init_size;
    import_count = import_count;
    applet_count = applet_count;
    customs = customs;
  })
