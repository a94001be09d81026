-- The info of the Directory component (JCVM 2.2, section 6.4), written from its items.
use Rattle.std.specs.Prelude.{◌≡◌, ◌≤◌, ◌+◌, ◌*◌, ℕ, List, [], ◌∷◌, ◌++◌, length, refl}
use Rattle.std.specs.List.{flat_map}
use Rattle.byteorder.specs.Endian.{big_bytes}
use Rattle.cap_frame.specs.DirectoryFormat.{Custom, DirectoryItems}

-- a custom component: its tag, its size, and its identifier after the number of its bytes
abbrev pub custom_bytes : Custom → List ℕ
custom_bytes c = c.tag ∷ (big_bytes 2 c.size ++ (length c.aid ∷ c.aid))

-- the sizes of the components, those of the static image, and how many imports and applets there are
abbrev pub head_bytes : DirectoryItems → List ℕ
head_bytes d =
    flat_map (big_bytes 2) d.sizes
    ++ (big_bytes 2 d.image_size
    ++ (big_bytes 2 d.array_init_count
    ++ (big_bytes 2 d.array_init_size
    ++ (d.import_count ∷ d.applet_count ∷ []))))

unfoldable pub directory_bytes : DirectoryItems → List ℕ
directory_bytes d = head_bytes d ++ (length d.customs ∷ flat_map custom_bytes d.customs)

-- how many they are
abbrev pub customs_size : List Custom → ℕ
customs_size [] = 0
customs_size (c ∷ cs) = 4 + length c.aid + customs_size cs

abbrev pub directory_size : DirectoryItems → ℕ
directory_size d = 2 * length d.sizes + 9 + customs_size d.customs

-- one custom component of ten bytes
one : custom_bytes (record { tag = 128; size = 10; aid = 1 ∷ 2 ∷ 3 ∷ 4 ∷ 5 ∷ 6 ∷ [] })
    ≡ 128 ∷ 0 ∷ 10 ∷ 6 ∷ 1 ∷ 2 ∷ 3 ∷ 4 ∷ 5 ∷ 6 ∷ []
one = refl

-- each identifier has a length of one byte
abbrev pub AreShort : List Custom → Type 0
AreShort [] = Unit {0}
AreShort (c ∷ cs) = (length c.aid ≤ 16) × AreShort cs
