-- The component table of a package, as capcheck prints it: the package's identifier in lower-case hexadecimal digits, its version
-- and its format;
-- then for each component of the standard (JCVM 2.2, section 6.1) and each custom component the name of its file, its tag, and the size
-- that the Directory gives, or that it is absent.
use Rattle.std.specs.Prelude.{ℕ, List, [], ◌∷◌, ◌++◌, codes, decimal, unwrap_or, ◌==◌, if◌then◌else◌}
use Rattle.std.specs.List.{concat, flat_map, range_with_len}
use Rattle.hex.specs.Hex.{encode_lower}
use Rattle.cap_bytes.specs.declared.fault.Format.{Format}
use Rattle.cap_bytes.specs.declared.fault.Format.TheVariants.{V21, V22}
use Rattle.cap_files.specs.FileName.{part_name}
use Rattle.cap_frame.specs.DirectoryFormat.{DirectoryItems, Custom}
use Rattle.cap_frame.specs.Directory.{size_in}
use Rattle.cap_frame.specs.PackageFormat.{Package}
use Rattle.cap_package.specs.PackageRecord.{PackageRecord}

-- the version of the format
abbrev pub format_name : Format → List ℕ
format_name V21 = codes "2.1"
format_name V22 = codes "2.2"

unfoldable pub package_line : Format → Package → List ℕ
package_line format p =
    concat (codes "package " ∷ encode_lower p.aid ∷ codes " " ∷ decimal p.major ∷ codes "." ∷ decimal p.minor
    ∷ codes " format " ∷ format_name format ∷ codes "\n" ∷ [])

-- a size of 0 says that the component is absent
abbrev pub component_line : ℕ → ℕ → List ℕ
component_line tag size =
    concat (part_name tag ∷ codes " " ∷ decimal tag ∷ codes " " ∷ (if size == 0 then codes "absent" else decimal size) ∷ codes "\n" ∷ [])

-- the line of the component with a tag
abbrev pub tag_line : DirectoryItems → ℕ → List ℕ
tag_line d tag = component_line tag (unwrap_or (size_in d tag) 0)

-- those of the components of the standard
unfoldable pub component_lines : DirectoryItems → List ℕ
component_lines d = flat_map (tag_line d) (range_with_len 1 12)

-- those of the custom components
unfoldable pub custom_lines : DirectoryItems → List ℕ
custom_lines d = flat_map (λ (c : Custom). component_line c.tag c.size) d.customs

-- the line of the package, with its format, its identifier and its version, and those of its components
abbrev pub component_table : PackageRecord → List ℕ
component_table p = (package_line p.header.format p.header.package_of ++ component_lines p.directory) ++ custom_lines p.directory
