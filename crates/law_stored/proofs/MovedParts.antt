-- Which package parts stand for is told by what they hold: their order tells nothing.
use Rattle.std.proofs.Common.{arith}
use Rattle.std.proofs.Common.{◌≡◌, ℕ, List, drop, Option, Some, None, Result, option_map, option_and_then}
use Rattle.std.proofs.Common.{sym, ap, ◌∙◌}
use Rattle.std.specs.Prelude.{if◌then◌else◌, is_some}
use Rattle.cap_bytes.specs.Grammar.{Grammar}
use Rattle.cap_bytes.specs.Spelling.{info_of}
use Rattle.cap_bytes.specs.Reading.{reading}
use Rattle.cap_frame.specs.Directory.{size_in}
use Rattle.cap_frame.specs.DirectoryFormat.{DirectoryItems, directory_info}
use Rattle.cap_frame.specs.HeaderFormat.{header_info}
use Rattle.cap_components.specs.declared.fault.PackFault.{PackFault}
use Rattle.cap_components.specs.declared.fault.PackFault.TheVariants.{MissingPart}
use Rattle.cap_components.specs.Components.{◌>>=◌, formed, framed, info_in, read_part, read_directory}
use Rattle.cap_components.specs.PackageRecord.{PackageRecord}
use Rattle.cap_components.specs.PartChecks.{absent_fault, absent_by, sized_fault, form_by, form_fault}
use Rattle.cap_components.specs.PartChecks.{size_by, size_fault}
use Rattle.cap_components.specs.Parts.{Lent}
use Rattle.cap_components.specs.Saying.{HoldsComponent, Says, SaysIf, AreSaid}
use Rattle.cap_package.specs.FirstFault.{missing_parts, conditions_of}
use Rattle.cap_package.specs.StandsFor.{StandsFor}
use Rattle.cap_index.specs.Component.{index_in}
use Rattle.law_stored.specs.PackedIsInstalled.{HoldTheSame, read_from}

module _ (moved parts : List Lent) (same : HoldTheSame moved parts) where
  -- ---- what is read

  info_same : (tag : ℕ) → info_in moved tag ≡ info_in parts tag
  unfolding info_in
  info_same tag = ap (framed tag) (same tag)

  part_same : {X : Type 0} (g : Grammar X) (tag : ℕ) → read_part g tag moved ≡ read_part g tag parts
  unfolding read_part
  part_same g tag = ap (λ r. r >>= (λ info. formed (reading (info_of tag) g info))) (info_same tag)

  directory_same : read_directory moved ≡ read_directory parts
  unfolding read_directory
  directory_same = λ i. part_same header_info 1 i >>= (λ header. part_same (directory_info header.format) 2 i)

  -- ---- what is said

  holds_same : {X : Type 0} (tag : ℕ) (g : Grammar X) (info : List ℕ) (items : X) → HoldsComponent parts tag g info items
      → HoldsComponent moved tag g info items
  holds_same tag g info items h = record { file = h.file; there = same tag ∙ h.there; framed = h.framed; said = h.said }

  says_same : {X : Type 0} (tag : ℕ) (g : Grammar X) (items : X) → Says parts tag g items → Says moved tag g items
  says_same tag g items h = (h.0, holds_same tag g h.0 items h.1)

  says_if_same : {X : Type 0} (tag : ℕ) (g : Grammar X) (o : Option X) → SaysIf parts tag g o → SaysIf moved tag g o
  says_if_same tag g x h = grind (arith, says_same)

  said_same : (p : PackageRecord) → AreSaid parts p → AreSaid moved (read_from moved p)
  said_same p s = grind (arith, says_same, says_if_same, holds_same)

  -- ---- what is at fault

  absent_same : (tag : ℕ) → absent_fault moved tag ≡ absent_fault parts tag
  unfolding absent_fault
  absent_same tag = ap (λ file. if is_some file then None else Some (MissingPart tag)) (same tag)

  sized_same : (d : DirectoryItems) (tag : ℕ) → sized_fault moved d tag ≡ sized_fault parts d tag
  unfolding sized_fault
  sized_same d tag = ap (absent_by (size_in d tag)) (absent_same tag)

  form_same : (tag : ℕ) → form_fault moved tag ≡ form_fault parts tag
  unfolding form_fault
  form_same tag = λ i. form_by (same tag i) (info_same tag i)

  size_same : (d : DirectoryItems) (tag : ℕ) → size_fault moved d tag ≡ size_fault parts d tag
  unfolding size_fault
  size_same d tag = ap (size_by tag (size_in d tag)) (info_same tag)

  missing_same : (r : Result DirectoryItems PackFault) → missing_parts moved r ≡ missing_parts parts r
  missing_same x = grind (arith, absent_same, sized_same)

  agree_same : (p : PackageRecord) → p.parts ≡ parts → conditions_of moved (read_from moved p) ≡ conditions_of parts p
  agree_same p are = grind (arith, form_same, size_same, drop)

  -- parts that hold the same stand for the same package
  pub stand_moved : (p : PackageRecord) → StandsFor parts p → StandsFor moved (read_from moved p)
  stand_moved p s = grind (arith, said_same p s.said, agree_same p s.said.same, missing_same, directory_same)

  -- so its target index is the same
  index_by : (p : PackageRecord) → index_in (read_from moved p) ≡ index_in (read_from parts p)
  index_by p = grind (arith, option_and_then, option_map, info_same)

  pub index_moved : (p : PackageRecord) → p.parts ≡ parts → index_in (read_from moved p) ≡ index_in p
  index_moved p are = index_by p ∙ ap (λ ps. index_in (read_from ps p)) (sym are)
