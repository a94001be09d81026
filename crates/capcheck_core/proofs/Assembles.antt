-- Where a folder has a listing of methods that fit its package, nothing keeps `asm` from its work but a device that fails, or no memory.
use Rattle.std.proofs.Common.{arith}
use Rattle.std.proofs.Common.{◌≡◌, ◌⊎◌, ℕ, List, [], length, Option, Some, refl, ap, subst, inl, inr}
use Rattle.std.specs.Prelude.{Err}
use Rattle.std.specs.FinMap as map
use Rattle.cap_files.specs.Counts.{Rose}
use Rattle.cap_files.specs.Folder.{Parts, Folders, IsAbsent, IsTooLong}
use Rattle.cap_components.specs.declared.fault.PackFault.{PackFault}
use Rattle.cap_components.specs.declared.fault.PackFault.TheVariants as faults
use Rattle.cap_listing.specs.declared.fault.AsmEnd.{AsmEnd}
use Rattle.cap_listing.specs.declared.fault.AsmEnd.TheVariants as ends
use Rattle.cap_listing.specs.declared.fault.AsmFault.{AsmFault}
use Rattle.cap_listing.specs.declared.method.ListedMethod.{ListedMethod}
use Rattle.cap_listing.specs.Assembling.{TellsNotListing}
use Rattle.cap_listing.specs.Placing.{TellsFirst, first_refused, placed}
use Rattle.cap_listing.specs.Placing as placing
use Rattle.cap_listing.specs.Methods.{methods_of}
use Rattle.cap_listing.specs.Text.{Lists}
use Rattle.cap_listing.proofs.Final.{one-list}
use Rattle.cap_listing.proofs.OneFault.{no-listing}
use Rattle.cap_package.specs.PackageRecord.{PackageRecord}
use Rattle.cap_package.specs.Parts.{Lent}
use Rattle.cap_package.specs.StandsFor.{StandsFor}
use Rattle.cap_text.specs.OutOfDir.{OutOfDirRequest}
use Rattle.cap_write.specs.WrittenPackage.{IsPartTooLong}
use Rattle.capcheck_core.specs.declared.verdict.Verdict.{Verdict}
use Rattle.capcheck_core.specs.declared.verdict.Verdict.TheVariants.{Done, Limit, Malformed, StoreFault, Memory}
use Rattle.capcheck_core.specs.Assemble.{AssemblesBeside, AssemblesPackage, AssemblesText, Fit, HasListing, IsUnassembledBy, PutsMethods, StopsAtText}
use Rattle.capcheck_core.specs.Assemble.{listing_key, listing_tag}
use Rattle.capcheck_core.specs.Beside.{LacksFile, StopsAtFile}
use Rattle.capcheck_core.specs.Completeness.{CanAssemble}
use Rattle.capcheck_core.specs.Loads.{AreParts}
use Rattle.capcheck_core.specs.Roles.{HasBadRoles, HasRoles}
use Rattle.capcheck_core.specs.Verdict.{status_of}
use Rattle.capcheck_core.proofs.Loads.{one_list}
use Rattle.capcheck_core.proofs.OnPackages.{bad_lacks}
use Rattle.capcheck_core.proofs.WorldComplete.{no_roles_lack, not_absent, not_long, one_file, one_package}

abbrev Completes : Verdict → Type 0
Completes verdict = (status_of verdict ≡ 0) ⊎ (status_of verdict ≡ 6)

module _ (before : Folders) (held : Parts) (told : before.held ≡ Some held) where
  -- ---- the files beside the package

  listing_lacks : (dir text : List ℕ) (fault : PackFault) → HasListing before dir text → LacksFile before dir listing_tag fault → ⊥
  listing_lacks dir text x has lack = grind (arith, not_absent, not_long)

  absent_short : (key : List ℕ) → IsAbsent before key → IsTooLong before key → ⊥
  absent_short key absent long = grind (arith, length)

  pub no_bad_roles : (dir : List ℕ) (roles : Option (List ℕ)) (fault : PackFault) → HasRoles before dir roles → HasBadRoles before dir fault → ⊥
  no_bad_roles dir x fault has bad = grind (arith, no_roles_lack, bad_lacks, absent_short, not_absent)

-- where nothing is at fault in a file, nothing stops its load
pub unstopped : (before after : Folders) (lacks : PackFault → Type 0) (key : List ℕ) (verdict : Verdict) → ((fault : PackFault) → lacks fault → ⊥)
    → (Rose before.load_faults after.load_faults → ⊥) → StopsAtFile lacks key before after verdict → Completes verdict
unstopped before after lacks key x none calm stops = grind (arith)

-- ---- the methods

unrefused : (fs : List AsmFault) (fault : AsmFault) → fs ≡ [] → first_refused fs ≡ Err fault → ⊥
unrefused fs fault none first = let ok = ap first_refused none in absurd (cc)

puts : (p : PackageRecord) (ms : List ListedMethod) (roles : Option (List ℕ)) (out : List ℕ) (before after : Folders) (verdict : Verdict)
    → Fit p ms → ((n : ℕ) → IsPartTooLong p (placed p ms) n → ⊥) → (Rose before.store_faults after.store_faults → ⊥)
    → PutsMethods p ms roles out before after verdict → Completes verdict
puts p ms roles out before after (Done text) fit short calm own = inl refl
puts p ms roles out before after Memory fit short calm own = inr refl
puts p ms roles out before after StoreFault fit short calm own = absurd (calm own.broken.rose)
puts p ms roles out before after (Malformed text) fit short calm (same, says) = grind (arith, unrefused)
puts p ms roles out before after (Limit text) fit short calm (same, says) = absurd (short says.size says.is)
puts p ms roles out before after _ fit short calm own = absurd own

-- a listing is not refused
unstopped_text : (text : List ℕ) (ms : List ListedMethod) (before after : Folders) (verdict : Verdict) → Lists ms text
    → StopsAtText text before after verdict → Completes verdict
unstopped_text text ms before after Memory lists stops = inr refl
unstopped_text text ms before after (Malformed line) lists (same, says) = absurd (no-listing text says.line ms says.is lists)
unstopped_text text ms before after _ lists stops = absurd stops

reads_text : (p : PackageRecord) (ms : List ListedMethod) (text : List ℕ) (roles : Option (List ℕ)) (out : List ℕ) (before after : Folders)
    (verdict : Verdict) → Lists ms text → Fit p ms → ((n : ℕ) → IsPartTooLong p (placed p ms) n → ⊥)
    → (Rose before.store_faults after.store_faults → ⊥) → AssemblesText p text roles out before after verdict → Completes verdict
reads_text p ms text roles out before after verdict lists fit short calm (inl stops) = unstopped_text text ms before after verdict lists stops
reads_text p ms text roles out before after verdict lists fit short calm (inr of) =
    puts p ms roles out before after verdict fit short calm
    (subst (λ ns. PutsMethods p ns roles out before after verdict) (one-list text of.methods ms of.lists lists) of.holds)

-- ---- the command

over_roles : (o : OutOfDirRequest) (before after : Folders) (can : CanAssemble o before) (verdict : Verdict)
    → (Rose before.load_faults after.load_faults → ⊥) → (Rose before.store_faults after.store_faults → ⊥)
    → AssemblesBeside o can.reads.read can.listing before after verdict → Completes verdict
over_roles o before after can verdict loads stores (inl stops) = grind (arith, unstopped, no_bad_roles)
over_roles o before after can verdict loads stores (inr of) =
    reads_text can.reads.read can.methods can.listing of.file o.out before after verdict can.lists can.fit can.short stores of.holds

goes_on : (o : OutOfDirRequest) (before after : Folders) (can : CanAssemble o before) (parts : List Lent) (verdict : Verdict)
    → (Rose before.load_faults after.load_faults → ⊥) → (Rose before.store_faults after.store_faults → ⊥)
    → AssemblesPackage o parts can.reads.read before after verdict → Completes verdict
goes_on o before after can parts verdict loads stores (inl stops) = grind (arith, unstopped, listing_lacks)
goes_on o before after can parts verdict loads stores (inr of) =
    over_roles o before after can verdict loads stores
    (subst (λ text. AssemblesBeside o can.reads.read text before after verdict)
    (one_file before can.reads.held can.reads.told (listing_key o.dir) of.file can.listing of.there.there can.there.there) of.holds)

pub assembles : (o : OutOfDirRequest) (before after : Folders) (can : CanAssemble o before) (parts : List Lent) (p : PackageRecord)
    → AreParts before o.dir parts → StandsFor parts p → (verdict : Verdict)
    → (Rose before.load_faults after.load_faults → ⊥) → (Rose before.store_faults after.store_faults → ⊥)
    → AssemblesPackage o parts p before after verdict → Completes verdict
assembles o before after can parts p loaded stands verdict loads stores own =
    let same = one_list before can.reads.held o.dir 256 can.reads.parts parts can.reads.told can.reads.loaded loaded in
    let read = one_package parts p can.reads.read stands (subst (λ ps. StandsFor ps can.reads.read) same can.reads.stands) in
    goes_on o before after can parts verdict loads stores (subst (λ q. AssemblesPackage o parts q before after verdict) read own)

-- ---- the verdicts of what is at fault

-- of a text that is no listing
pub not_listing : (listing : List ℕ) (before : Folders) (end : AsmEnd) (verdict : Verdict) → TellsNotListing listing end → IsUnassembledBy end verdict
    → StopsAtText listing before before verdict
not_listing listing before x verdict is says = grind (arith)

-- of methods that do not fit
pub misfits : (p : PackageRecord) (ms : List ListedMethod) (roles : Option (List ℕ)) (out : List ℕ) (before : Folders) (end : AsmEnd)
    (verdict : Verdict) → TellsFirst (placing.faults (methods_of p) ms) end → IsUnassembledBy end verdict
    → PutsMethods p ms roles out before before verdict
misfits p ms roles out before x x2 first says = grind (arith)
