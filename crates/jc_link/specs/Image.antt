-- The image of a package's static fields at the start (JCVM 2.2, section 6.10): references of two
-- bytes each, of which the first name the initial arrays, then zeros, then the given values.
use Rattle.std.specs.Prelude.{ℕ, ◌+◌, ◌-◌, ◌*◌, ◌/◌, List, [], ◌∷◌, ◌++◌, length, min, replicate, slice_index}
use Rattle.jc_base.specs.declared.ty.Kind.{Kind}
use Rattle.jc_base.specs.declared.ty.Kind.TheVariants.{Ref, Byte, Short, Int}
use Rattle.cap_method.specs.StaticFormat.{Array, Statics}
use Rattle.jc_link.specs.Words.{signed}

-- the bytes of the image; a reference has no value in them
abbrev pub image : Statics → List ℕ
image s = replicate (2 * s.reference_count + s.default_value_count) 0 ++ s.values

-- the handles of arrays that are counted from a first one on. A handle is a word: where packages
-- have more arrays than words can number, each further one has 65,535 (no world has so many arrays,
-- but its static fields are looked up before they are counted)
abbrev pub handles : ℕ → List Array → List ℕ
handles first [] = []
handles first (a ∷ others) = min first 65535 ∷ handles (first + 1) others

-- the references of the image: the handles of the initial arrays, and then null
abbrev pub references : ℕ → Statics → List ℕ
references first s = handles first s.arrays ++ replicate (s.reference_count - length s.arrays) 0

-- the word that the two bytes at an offset spell
abbrev pub word_at : List ℕ → ℕ → ℕ
word_at bytes offset = slice_index bytes offset * 256 + slice_index bytes (offset + 1)

-- the words of a field of a kind at an offset of the image, where the package's first initial array has a handle
abbrev pub words_at : ℕ → Statics → Kind → ℕ → List ℕ
words_at first s Ref offset = slice_index (references first s) (offset / 2) ∷ []
words_at first s Byte offset = signed (slice_index (image s) offset) ∷ []
words_at first s Short offset = word_at (image s) offset ∷ []
words_at first s Int offset = word_at (image s) offset ∷ word_at (image s) (offset + 2) ∷ []
