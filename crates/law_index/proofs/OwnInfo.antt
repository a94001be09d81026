-- The target index that is written is that of the package for which the parts stand.
use Rattle.std.proofs.Common.{◌≡◌, ◌≤◌, ℕ, List, find, length, Option, Some, Ok, option_map, option_and_then, refl, ap, subst}
use Rattle.std.proofs.Common.{◌∙◌, arith}
use Rattle.cap_bytes.proofs.Laws.{reading_where}
use Rattle.cap_bytes.specs.Spelling.{file_of}
use Rattle.cap_components.specs.Components.{info_in, read_part}
use Rattle.cap_components.specs.PackageRecord.{PackageRecord}
use Rattle.cap_components.specs.Parts.{Lent, held}
use Rattle.cap_components.specs.Saying.{AreSaid, Says}
use Rattle.cap_components.proofs.Saying.{part_read}
use Rattle.cap_frame.specs.DirectoryFormat.{Custom, DirectoryItems, directory_info}
use Rattle.cap_frame.specs.Frame.{component}
use Rattle.cap_frame.specs.HeaderFormat.{HeaderItems}
use Rattle.cap_frame.specs.Tags.{index_aid}
use Rattle.cap_index.specs.Component.{index_in, info_with_aid}
use Rattle.cap_index.specs.TargetIndex.{IsIndexOf}
use Rattle.cap_laying.specs.NewDirectory.{new_directory}
use Rattle.cap_package.specs.Customs.{custom_in, info_or_none}
use Rattle.cap_package.specs.StandsFor.{StandsFor}
use Rattle.cap_renewal.proofs.Frames.{file_stands}
use Rattle.cap_renewal.specs.Files.{file_bytes}
use Rattle.cap_write.specs.Files.{IsDirectoryFile, IsPresent, index_file, sizes_of}
use Rattle.cap_write.specs.NewIndex.{Index, IsNewIndex, dropped, stays, written}
use Rattle.cap_write.specs.WrittenPackage.{IsWritten}
use Rattle.cap_write.proofs.Customs.{found_written, has_tag}
use Rattle.cap_write.proofs.Said.{present}
use Rattle.jc_decode.specs.declared.symbols.Laid.{Laid}
use Rattle.law_package.specs.Rewritten.{IsRewritten}
use Rattle.law_index.specs.WrittenIndex.{HasRoomForIndex}

-- ---- the Directory says what is written there

same-items : (parts : List Lent) (format : _) (d e : DirectoryItems) → Says parts 2 (directory_info format) d → Says parts 2 (directory_info format) e
    → d ≡ e
same-items parts format d e s t =
    let first : read_part (directory_info format) 2 parts ≡ Ok d = part_read parts 2 (directory_info format) d s in
    let other : read_part (directory_info format) 2 parts ≡ Ok e = part_read parts 2 (directory_info format) e t in
    cc

directory-is : (p q : PackageRecord) (parts : List Lent) (methods references : List ℕ) (index : Index) → AreSaid parts q → q.header ≡ p.header
    → IsPresent (IsDirectoryFile p methods references index) (held parts 2)
    → q.directory ≡ new_directory (sizes_of methods references index) p.directory
directory-is p q parts methods references index said header there =
    let new = present (IsDirectoryFile p methods references index) (held parts 2) there in
    let was : Says parts 2 (directory_info p.header.format) q.directory = subst
    (λ (h : HeaderItems). Says parts 2 (directory_info h.format) q.directory) header said.directory in
    same-items parts p.header.format q.directory (new_directory (sizes_of methods references index) p.directory) was
    (new.is.info, record { file = new.file; there = new.there; framed = new.is.framed; said = new.is.said })

-- ---- the custom component

info-there : (parts : List Lent) (info : List ℕ) → held parts 128 ≡ Some (file_bytes 128 info) → length info ≤ 65535 → info_in parts 128 ≡ Ok info
unfolding info_in
info-there parts info there short =
    rw (there, reading_where (file_of 128) (component 128) (file_bytes 128 info) info (file_stands 128 info (omega arith) short)) refl

abbrev entry : ℕ → Custom
entry size = record { tag = 128; size = size; aid = index_aid }

info-is : (p q : PackageRecord) (parts : List Lent) (methods references info : List ℕ) → q.parts ≡ parts
    → q.directory ≡ new_directory (sizes_of methods references (written info)) p.directory
    → held parts 128 ≡ Some (file_bytes 128 info) → length info ≤ 65535 → index_in q ≡ Some info
info-is p q parts methods references info same directory there short =
    let found : find (has_tag 128) q.directory.customs ≡ Some (entry (length info)) =
    ap (λ (d : DirectoryItems). find (has_tag 128) d.customs) directory ∙ found_written (length info) p.directory.customs in
    let read : info_in q.parts 128 ≡ Ok info = ap (λ ps. info_in ps 128) same ∙ info-there parts info there short in
    let custom : custom_in q 128 ≡ Some (record { aid = index_aid; info = info }) =
    ap (option_map (λ (c : Custom). record { aid = c.aid; info = info_or_none (info_in q.parts 128) })) found
    ∙ ap (λ r. Some (record { aid = index_aid; info = info_or_none r })) read in
    ap (option_and_then info_with_aid) custom

-- ---- what is written is an index

-- the package has the info of the exact indexes
pub record HasInfo (q : PackageRecord) (laid : List (Option Laid)) : Type 0 where
  pub info : List ℕ
  pub named : index_in q ≡ Some info
  pub of_codes : IsIndexOf laid (Some info)

module _ (p q : PackageRecord) (laid : List (Option Laid)) (parts : List Lent) (t : StandsFor parts q) (r : IsRewritten p laid q)
    (room : HasRoomForIndex p laid) where
  by-index : (methods references : List ℕ) (index : Index) → IsNewIndex p laid index
      → IsPresent (IsDirectoryFile p methods references index) (held parts 2) → held parts 128 ≡ index_file p.parts index
      → HasInfo q laid
  by-index methods references stays new directory there = let free = room.free in absurd (cc)
  by-index methods references dropped new directory there = absurd (room.short new.1)
  by-index methods references (written info) new directory there =
      let items = directory-is p q parts methods references (written info) t.said r.header directory in
      record {
        info = info;
        named = info-is p q parts methods references info t.said.same items there new.1.bytes.1;
        of_codes = new.1;
      }

  pub has-info : IsWritten p laid parts → HasInfo q laid
  has-info w = by-index _ _ w.index w.indexed w.written.files.directory w.written.files.target_index
