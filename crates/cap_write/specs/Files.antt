-- The files of a package whose methods are written anew, tag by tag.
use Rattle.std.specs.Prelude.{◌≡◌, ◌≤◌, ℕ, Bool, true, false, List, length, map, Option, Some, None, ◌==◌}
use Rattle.cap_bytes.specs.Spelling.{Stands}
use Rattle.cap_frame.specs.Frame.{component}
use Rattle.cap_frame.specs.AppletFormat.{applets_info}
use Rattle.cap_frame.specs.DirectoryFormat.{directory_info}
use Rattle.cap_pool.specs.PoolFormat.{pool_info}
use Rattle.cap_pool.specs.ExportFormat.{export_info}
use Rattle.cap_class.specs.ClassFormat.{classes_info}
use Rattle.cap_desc.specs.DescriptorFormat.{Descriptor, descriptor_info}
use Rattle.cap_components.specs.Parts.{Lent, held}
use Rattle.cap_components.specs.PackageRecord.{PackageRecord, names_interface}
use Rattle.cap_bytes.specs.Edit.{Edit}
use Rattle.cap_renewal.specs.declared.new_methods.NewMethod.{NewMethod}
use Rattle.cap_renewal.specs.NewMethods.{to}
use Rattle.cap_renewal.specs.AppletEdits.{applets_edits, renewed_applet}
use Rattle.cap_renewal.specs.ClassEdits.{classes_edits, renewed_class}
use Rattle.cap_renewal.specs.DescriptorEdits.{descriptor_edits, renewed_descriptor}
use Rattle.cap_renewal.specs.ExportEdits.{export_edits, renewed_exported}
use Rattle.cap_renewal.specs.PoolEdits.{pool_edits, renewed_entry}
use Rattle.cap_renewal.specs.Files.{IsRenewed, IsRenewedIf, file_bytes}
use Rattle.cap_laying.specs.declared.writing.ComponentSizes.{ComponentSizes}
use Rattle.cap_laying.specs.NewDirectory.{new_directory, own_size}
use Rattle.cap_laying.specs.declared.method_component.Written.{Written}
use Rattle.cap_write.specs.declared.index.NewIndex.{NewIndex}
use Rattle.cap_write.specs.NewIndex.{Index, IsShortIndex, change_of, dropped, index_seen, stays, written}

-- what the Directory tells of components with these infos
abbrev pub sizes_of : List ℕ → List ℕ → Index → ComponentSizes
sizes_of methods references index = record { methods = length methods; references = length references; index = change_of index }

-- the file of the Directory: it tells of these components, and the rest as before
pub record IsDirectoryFile (p : PackageRecord) (methods references : List ℕ) (index : Index) (file : List ℕ) : Type 0 where
  pub info : List ℕ
  pub framed : Stands (component 2) file info
  pub own : length info ≡ own_size (sizes_of methods references index) p.directory
  pub said : Stands (directory_info p.header.format) info (new_directory (sizes_of methods references index) p.directory)

-- the file of a component with this info
pub record IsFramed (tag : ℕ) (info file : List ℕ) : Type 0 where
  pub bytes : file ≡ file_bytes tag info
  pub framed : Stands (component tag) file info

-- there is a file, and it is such
abbrev pub IsPresent : (List ℕ → Type 0) → Option (List ℕ) → Type 0
IsPresent Is None = ⊥
IsPresent Is (Some file) = Is file

-- the file of what has the tag of a target index
abbrev pub index_file : List Lent → Index → Option (List ℕ)
index_file old stays = held old 128
index_file old dropped = None
index_file old (written info) = Some (file_bytes 128 info)

-- one of two things
abbrev pub Either : Bool → Type 0 → Type 0 → Type 0
Either true This That = This
Either false This That = That

-- the files of the components that name methods by their offsets
abbrev pub IsAppletFile : PackageRecord → List (Option NewMethod) → Option (List ℕ) → Type 0
IsAppletFile p news file = IsRenewedIf p.parts 3 applets_info (map (renewed_applet (to news))) (applets_edits (to news)) p.applets file

abbrev pub IsPoolFile : PackageRecord → List (Option NewMethod) → Option (List ℕ) → Type 0
IsPoolFile p news file = IsPresent (IsRenewed p.parts 5 pool_info (map (renewed_entry (to news))) (pool_edits (to news)) p.pool) file

abbrev pub IsClassFile : PackageRecord → List (Option NewMethod) → Option (List ℕ) → Type 0
IsClassFile p news file =
    IsPresent
    (IsRenewed p.parts 6 (classes_info p.header.format) (map (renewed_class (to news))) (classes_edits (to news)) p.classes)
    file

abbrev pub IsExportFile : PackageRecord → List (Option NewMethod) → Option (List ℕ) → Type 0
IsExportFile p news file = IsRenewedIf p.parts 10 export_info (map (renewed_exported (to news))) (export_edits (to news)) p.export file

-- the edits of the methods of classes
abbrev pub edits_of_methods : PackageRecord → List (Option NewMethod) → Descriptor → List Edit
edits_of_methods p news d = descriptor_edits (names_interface p.classes) news d.classes

abbrev pub IsDescriptorFile : PackageRecord → List (Option NewMethod) → Option (List ℕ) → Type 0
IsDescriptorFile p news file =
    IsPresent
    (IsRenewed p.parts 11 descriptor_info
    (renewed_descriptor (names_interface p.classes) news)
    (edits_of_methods p news) p.description.items)
    file

-- the file with a tag, or none, where methods stand at new places and these are the infos of the Method and the
-- ReferenceLocation component; that of any other tag is as it was
abbrev pub IsFile : PackageRecord → List (Option NewMethod) → List ℕ → List ℕ → Index → ℕ → Option (List ℕ) → Type 0
IsFile p news methods references index tag file =
    Either (tag == 2) (IsPresent (IsDirectoryFile p methods references index) file)
    (Either (tag == 3) (IsAppletFile p news file)
    (Either (tag == 5) (IsPoolFile p news file)
    (Either (tag == 6) (IsClassFile p news file)
    (Either (tag == 7) (IsPresent (IsFramed 7 methods) file)
    (Either (tag == 9) (IsPresent (IsFramed 9 references) file)
    (Either (tag == 10) (IsExportFile p news file)
    (Either (tag == 11) (IsDescriptorFile p news file)
    (Either (tag == 12) (file ≡ None)
    (Either (tag == 128) (file ≡ index_file p.parts index)
    (file ≡ held p.parts tag))))))))))

-- the same for values of the program
abbrev pub IsFileOf : PackageRecord → Written → NewIndex → ℕ → Option (List ℕ) → Type 0
IsFileOf p w index tag file = IsFile p w.news w.info.items w.references.items (index_seen index) tag file

-- the infos have at most 65,535 bytes
pub record AreShortInfos (w : Written) (target : NewIndex) : Type 0 where
  pub methods : length w.info.items ≤ 65535
  pub references : length w.references.items ≤ 65535
  pub index : IsShortIndex (index_seen target)
