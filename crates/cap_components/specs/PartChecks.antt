-- Which parts must be there, and their sizes (JCVM 2.2, sections 6.1 and 6.4).
use Rattle.std.specs.Prelude.{ℕ, List, [], ◌∷◌, length, Option, Some, None, Result, Ok, Err, is_some, map, ◌==◌}
use Rattle.std.specs.Prelude.{if◌then◌else◌}
use Rattle.cap_frame.specs.DirectoryFormat.{DirectoryItems, Custom}
use Rattle.cap_frame.specs.Directory.{size_in}
use Rattle.cap_components.specs.declared.fault.PackFault.{PackFault}
use Rattle.cap_components.specs.declared.fault.PackFault.TheVariants.{MissingPart, SizeDisagrees}
use Rattle.cap_components.specs.Parts.{Lent, held}
use Rattle.cap_components.specs.Components.{info_in}
use Rattle.cap_components.specs.Order.{least_of, least_from}

-- the components that every package has
abbrev pub required : List ℕ
required = 1 ∷ 2 ∷ 4 ∷ 5 ∷ 6 ∷ 7 ∷ 8 ∷ 9 ∷ 11 ∷ []

-- all components but Debug, which is not read
abbrev pub components : List ℕ
components = 1 ∷ 2 ∷ 3 ∷ 4 ∷ 5 ∷ 6 ∷ 7 ∷ 8 ∷ 9 ∷ 10 ∷ 11 ∷ []

-- those that a package may be without
abbrev pub optional : List ℕ
optional = 3 ∷ 10 ∷ []

abbrev pub custom_tags : DirectoryItems → List ℕ
custom_tags d = map (λ (c : Custom). c.tag) d.customs

unfoldable pub absent_fault : List Lent → ℕ → Option PackFault
absent_fault parts tag = if is_some (held parts tag) then None else Some (MissingPart tag)

-- the Directory gives a part that is absent a size that is not 0
abbrev pub absent_by : Option ℕ → Option PackFault → Option PackFault
absent_by None fault = None
absent_by (Some size) fault = if size == 0 then None else fault

unfoldable pub sized_fault : List Lent → DirectoryItems → ℕ → Option PackFault
sized_fault parts d tag = absent_by (size_in d tag) (absent_fault parts tag)

-- the least part that must be there and is absent; where the Header or
-- the Directory is malformed or absent, no sizes are told
abbrev pub missing : List Lent → Result DirectoryItems PackFault → Option PackFault
missing parts (Err fault) = least_of (absent_fault parts) required
missing parts (Ok d) = least_from
    (least_from (least_of (absent_fault parts) required) (sized_fault parts d) optional)
    (sized_fault parts d) (custom_tags d)

-- a custom component that is there breaks its format
abbrev pub form_by : {X : Type 0} → Option (List ℕ) → Result X PackFault → Option PackFault
form_by None read = None
form_by (Some bytes) (Ok x) = None
form_by (Some bytes) (Err fault) = Some fault

unfoldable pub form_fault : List Lent → ℕ → Option PackFault
form_fault parts tag = form_by (held parts tag) (info_in parts tag)

-- the Directory's size of a part and the part's own differ
abbrev pub size_by : ℕ → Option ℕ → Result (List ℕ) PackFault → Option PackFault
size_by tag None info = None
size_by tag (Some said) (Err fault) = None
size_by tag (Some said) (Ok info) = if said == length info then None else Some (SizeDisagrees tag said (length info))

unfoldable pub size_fault : List Lent → DirectoryItems → ℕ → Option PackFault
size_fault parts d tag = size_by tag (size_in d tag) (info_in parts tag)
