-- The parts of a package whose methods are written anew.
use Rattle.std.proofs.Common.{◌≡◌, ◌<◌, ◌⊎◌, ℕ, List, length, Option, subst, arith}
use Rattle.std.proofs.lemmas.Bool.{ne_eqb}
use Rattle.cap_components.specs.Parts.{Lent, held}
use Rattle.cap_components.specs.PackageRecord.{PackageRecord}
use Rattle.jc_decode.specs.declared.symbols.Laid.{Laid}
use Rattle.cap_renewal.specs.declared.new_methods.NewMethod.{NewMethod}
use Rattle.cap_laying.specs.declared.method_component.Written.{Written}
use Rattle.cap_laying.specs.declared.member.WrittenMember.{WrittenMember}
use Rattle.cap_laying.specs.Members.{new_places, written_info}
use Rattle.cap_laying.specs.References.{written_references}
use Rattle.cap_laying.specs.WrittenSeen.{IsWrittenAs}
use Rattle.cap_write.specs.WrittenMethods.{AreMembersFor}
use Rattle.cap_write.specs.NewIndex.{Index, IsNewIndex, IsShortIndex, dropped, stays, written}
use Rattle.cap_write.specs.Files.{IsFile}
use Rattle.cap_write.specs.Filed.{AreFiled}
use Rattle.cap_write.specs.WrittenPackage.{ArePartsOf, AreWritten, IsWritten}
use Rattle.cap_laying.proofs.Standing.{methods_stand}
use Rattle.cap_write.proofs.Spread.{references_stand}
use Rattle.cap_write.proofs.Table.{table_stands}

module _ (p : PackageRecord) (news : List (Option NewMethod)) (methods references : List ℕ) (index : Index) (parts : List Lent)
    (f : AreFiled (IsFile p news methods references index) 256 parts) where
  other_file : (tag : ℕ) → tag < 256 → (tag ≡ 0) ⊎ (12 < tag) → (tag ≡ 128 → ⊥) → held parts tag ≡ held p.parts tag
  other_file tag lt z not_index = grind (arith, ne_eqb)

  pub parts_of : ArePartsOf p news methods references index parts
  parts_of = grind (arith, other_file)

pub are_written : (p : PackageRecord) (laid : List (Option Laid)) (ms : List WrittenMember) (w : Written) (index : Index) (parts : List Lent)
    → AreMembersFor p laid ms → IsWrittenAs (length p.methods.info) (length p.methods.handlers) ms w
    → AreFiled (IsFile p w.news w.info.items w.references.items index) 256 parts → AreWritten p (length p.methods.info) (length p.methods.handlers) ms
    index parts
are_written p laid ms w index parts are seen f =
    let size = length p.methods.info in
    let room = length p.methods.handlers in
    let g : AreFiled (IsFile p (new_places size room ms) w.info.items w.references.items index) 256 parts = subst
    (λ x. AreFiled (IsFile p x w.info.items w.references.items index) 256 parts) seen.news f in
    let h : AreFiled (IsFile p (new_places size room ms) (written_info size room ms) w.references.items index) 256 parts = subst
    (λ x. AreFiled (IsFile p (new_places size room ms) x w.references.items index) 256 parts) seen.info g in
    let k : AreFiled (IsFile p (new_places size room ms) (written_info size room ms) (written_references size room ms) index) 256 parts = subst
    (λ x. AreFiled (IsFile p (new_places size room ms) (written_info size room ms) x index) 256 parts) seen.references h in
    record {
      short = seen.short;
      stand = methods_stand size room ms are.may;
      handlers = table_stands size room ms are.may seen.small;
      locations = references_stand size room ms seen.short;
      files = parts_of p (new_places size room ms) (written_info size room ms) (written_references size room ms) index parts k;
    }

pub written_of : (p : PackageRecord) (laid : List (Option Laid)) (ms : List WrittenMember) (w : Written) (index : Index) (parts : List Lent)
    → AreMembersFor p laid ms → IsWrittenAs (length p.methods.info) (length p.methods.handlers) ms w
    → IsNewIndex p laid index → AreFiled (IsFile p w.news w.info.items w.references.items index) 256 parts → IsWritten p laid parts
written_of p laid ms w index parts are seen i f = grind (arith, are_written p laid ms w index parts are seen f)

pub index_short : (p : PackageRecord) (laid : List (Option Laid)) (index : Index) → IsNewIndex p laid index → IsShortIndex index
index_short p laid stays i = tt
index_short p laid dropped i = tt
index_short p laid (written info) i = i.1.bytes.1
