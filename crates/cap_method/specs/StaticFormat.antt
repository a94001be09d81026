-- The format of the StaticField component (JCVM 2.2, section 6.10): the image of the static fields.
use Rattle.std.specs.Prelude.{ℕ, ◌%◌, Bool, List, nat_le, ◌==◌, ◌&&◌, if◌then◌else◌}
use Rattle.cap_bytes.specs.Grammar.{Grammar, number, u2, piece, repeat, finish, that, give, ◌>>=◌}

-- array_init_info: the type of the elements, and their bytes
pub record Array : Type 0 where
  pub kind : ℕ
  pub values : List ℕ

-- the component: the references come first in the image, of which the first name the arrays; then zeros, then
-- the values
pub record Statics : Type 0 where
  pub image_size : ℕ
  pub reference_count : ℕ
  pub arrays : List Array
  pub default_value_count : ℕ
  pub values : List ℕ

-- boolean, byte, short or int
abbrev pub is_primitive : ℕ → Bool
is_primitive kind = nat_le 2 kind && nat_le kind 5

-- the bytes of an element: one for boolean and byte, two for short, four for int
abbrev pub element_size : ℕ → ℕ
element_size kind = if kind == 5 then 4 else (if kind == 4 then 2 else 1)

-- whether so many bytes are whole elements
abbrev pub is_whole : ℕ → ℕ → Bool
is_whole kind count = count % element_size kind == 0

abbrev pub array_init_info : Grammar Array
array_init_info = do
  kind ← number 1 (that is_primitive)
  count ← number 2 (that (is_whole kind))
  values ← piece count
  give (record { kind = kind; values = values })

-- array_init_count, at most one for each reference, and the arrays
abbrev pub array_inits : ℕ → Grammar (List Array)
array_inits reference_count = number 2
    (that (λ n. nat_le n reference_count)) >>= λ array_init_count. repeat array_init_count array_init_info

-- non_default_value_count, and the values
abbrev pub non_default_values : Grammar (List ℕ)
non_default_values = u2 >>= piece

abbrev pub statics_info : Grammar Statics
statics_info = do
  image_size ← u2
  reference_count ← u2
  arrays ← array_inits reference_count
  default_value_count ← u2
  values ← non_default_values
  end ← finish
  give (record {
    image_size = image_size;
    reference_count = reference_count;
    arrays = arrays;
    default_value_count = default_value_count;
    values = values;
  })
