-- The names of the files of a package (JCVM 2.2, section 4.1.2): one a component, and its tag chooses which. Beside them stand the
-- roles of classes, and what this project keeps of a package in another form: its Load file, and a listing of its methods.
use Rattle.std.specs.Prelude.{ℕ, nat_lt, ◌==◌, List, [], ◌∷◌, ◌++◌, codes, decimal, slice_index_or, Option, Some, None}
use Rattle.std.specs.Prelude.{if◌then◌else◌}
use Rattle.std.specs.List.{concat}
use Rattle.cap_files.specs.declared.path.FileName.{FileName}

-- the components by their tags, before them the file of roles, and after them the Load file and the listing
abbrev pub standard_names : List (List ℕ)
standard_names =
    codes "Roles" ∷ codes "Header" ∷ codes "Directory" ∷ codes "Applet" ∷ codes "Import"
    ∷ codes "ConstantPool" ∷ codes "Class" ∷ codes "Method" ∷ codes "StaticField" ∷
    codes "RefLocation" ∷ codes "Export" ∷ codes "Descriptor" ∷ codes "Debug" ∷ codes "Load" ∷ codes "Listing" ∷ []

-- the name of a part's file, without its extension
abbrev pub part_name : ℕ → List ℕ
part_name part = if nat_lt part 15 then slice_index_or standard_names part [] else codes "Custom" ++ decimal part

-- the extension of a part's file: a listing is a text
abbrev pub extension : ℕ → List ℕ
extension part = if part == 14 then codes ".txt" else codes ".cap"

-- the path of a part's file in a folder
abbrev pub path_of : List ℕ → ℕ → List ℕ
path_of dir part = concat (dir ∷ codes "/" ∷ part_name part ∷ extension part ∷ [])

-- the text of a file's name: a stem, and after it a number if there is one
abbrev pub number_text : Option ℕ → List ℕ
number_text None = []
number_text (Some n) = decimal n

abbrev pub name_text : FileName → List ℕ
name_text name = name.stem.now ++ number_text name.number
