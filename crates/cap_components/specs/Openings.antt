-- The Header and the Directory, in the format that the Header names, with which the reading of a package begins.
use Rattle.std.specs.Prelude.{◌≡◌, List, Result, Ok, Err}
use Rattle.cap_frame.specs.Header.{header_items}
use Rattle.cap_frame.specs.HeaderFormat.{header_info}
use Rattle.cap_frame.specs.Directory.{directory_items}
use Rattle.cap_frame.specs.DirectoryFormat.{directory_info}
use Rattle.cap_components.specs.declared.fault.PackFault.{PackFault}
use Rattle.cap_components.specs.declared.components.Opening.{Opening}
use Rattle.cap_components.specs.Parts.{Lent}
use Rattle.cap_components.specs.Components.{info_in, read_part, read_directory}

-- they are those of the parts
pub record IsOpening (parts : List Lent) (o : Opening) : Type 0 where
  pub header : read_part header_info 1 parts ≡ Ok (header_items o.header)
  pub directory : read_part (directory_info (header_items o.header).format) 2 parts ≡ Ok (directory_items o.directory)
  pub header_bytes : info_in parts 1 ≡ Ok o.header.info.bytes.now
  pub directory_bytes : info_in parts 2 ≡ Ok o.directory.info.bytes.now

-- they were read from the parts, or why not
abbrev pub GivesOpening : List Lent → Result Opening PackFault → Type 0
GivesOpening parts (Ok opening) = IsOpening parts opening
GivesOpening parts (Err fault) = read_directory parts ≡ Err fault
