-- Worked cases: a small Header, an import, and custom components in a Directory.
use Rattle.std.specs.Prelude.{◌≡◌, ℕ, List, [], ◌∷◌, Ok, Err, refl}
use Rattle.cap_bytes.specs.declared.fault.FormKind.TheVariants.{BadValue, BadVersion, Trailing, WrongTag}
use Rattle.cap_bytes.specs.declared.fault.Format.TheVariants.{V21, V22}
use Rattle.cap_bytes.specs.Spelling.{info_of, file_of}
use Rattle.cap_bytes.specs.Reading.{reading}
use Rattle.cap_frame.specs.Frame.{component}
use Rattle.cap_frame.specs.HeaderFormat.{header_info, magic, version, name_info}
use Rattle.cap_frame.specs.DirectoryFormat.{customs_info}
use Rattle.cap_frame.specs.ImportFormat.{imports_info}

identifier : List ℕ
identifier = 0xF0 ∷ 1 ∷ 2 ∷ 3 ∷ 4 ∷ []

-- a file with tag 4, its size, and an info of one byte
framed : reading (file_of 4) (component 4) (4 ∷ 0 ∷ 1 ∷ 0 ∷ []) ≡ Ok (0 ∷ [])
unfolding reading
framed = refl

not_framed : reading (file_of 5) (component 5) (4 ∷ 0 ∷ 1 ∷ 0 ∷ []) ≡ Err (record { part = 5; at = 0; kind = WrongTag })
unfolding reading
not_framed = refl

-- the flags ACC_INT and ACC_APPLET, and a bit that means nothing; the name is "a"
small_header : reading (info_of 1) header_info
    (0xDE ∷ 0xCA ∷ 0xFF ∷ 0xED ∷ 2 ∷ 2 ∷ 0x15 ∷ 0 ∷ 1 ∷ 5 ∷ 0xF0 ∷ 1 ∷ 2 ∷ 3 ∷ 4 ∷ 1 ∷ 97 ∷ [])
    ≡ Ok (record { format = V22; flags = 5; package_of = record { minor = 0; major = 1; aid = identifier }; name = 97 ∷ [] })
unfolding reading identifier magic version name_info
small_header = refl

-- the same in format 2.1, which has no name
small_header_21 : reading (info_of 1) header_info
    (0xDE ∷ 0xCA ∷ 0xFF ∷ 0xED ∷ 1 ∷ 2 ∷ 0x15 ∷ 0 ∷ 1 ∷ 5 ∷ 0xF0 ∷ 1 ∷ 2 ∷ 3 ∷ 4 ∷ [])
    ≡ Ok (record { format = V21; flags = 5; package_of = record { minor = 0; major = 1; aid = identifier }; name = [] })
unfolding reading identifier magic version name_info
small_header_21 = refl

-- a name after the items of format 2.1
header_21_with_name : reading (info_of 1) header_info
    (0xDE ∷ 0xCA ∷ 0xFF ∷ 0xED ∷ 1 ∷ 2 ∷ 0x15 ∷ 0 ∷ 1 ∷ 5 ∷ 0xF0 ∷ 1 ∷ 2 ∷ 3 ∷ 4 ∷ 0 ∷ [])
    ≡ Err (record { part = 1; at = 18; kind = Trailing })
unfolding reading identifier magic version name_info
header_21_with_name = refl

-- there is no format 2.3
header_23 : reading (info_of 1) header_info (0xDE ∷ 0xCA ∷ 0xFF ∷ 0xED ∷ 3 ∷ 2 ∷ [])
    ≡ Err (record { part = 1; at = 7; kind = BadVersion })
unfolding reading magic version
header_23 = refl

one_import : reading (info_of 4) imports_info (1 ∷ 3 ∷ 1 ∷ 5 ∷ 0xF0 ∷ 1 ∷ 2 ∷ 3 ∷ 4 ∷ [])
    ≡ Ok (record { minor = 3; major = 1; aid = identifier } ∷ [])
unfolding reading identifier
one_import = refl

-- a custom tag stands a second time, nine bytes after the first
tag_twice : reading (info_of 2) customs_info
    (2 ∷ 0x80 ∷ 0 ∷ 7 ∷ 5 ∷ 0xF0 ∷ 1 ∷ 2 ∷ 3 ∷ 4 ∷ 0x80 ∷ 0 ∷ 7 ∷ 5 ∷ 0xF0 ∷ 1 ∷ 2 ∷ 3 ∷ 4 ∷ [])
    ≡ Err (record { part = 2; at = 13; kind = BadValue })
unfolding reading
tag_twice = refl
