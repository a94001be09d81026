-- Where the parts of packages and the roles beside the first make a world, nothing stops a command before its own last step but a load
-- that fails, or no memory.
use Rattle.std.proofs.Common.{◌≡◌, ◌⊎◌, ◌≤◌, ℕ, suc, List, [], ◌∷◌, length, Some, refl, sym, subst, ◌∙◌, inl, inr}
use Rattle.std.proofs.Common.{arith, length-append}
use Rattle.std.specs.Prelude.{Err, IfSome}
use Rattle.std.specs.FinMap as map
use Rattle.std.specs.List.{AllZip, concat}
use Rattle.std.proofs.lemmas.Slice.Zip.{AllZip-long}
use Rattle.cap_bytes.specs.declared.fault.FormKind.{FormKind}
use Rattle.cap_files.specs.Counts.{Rose}
use Rattle.cap_files.specs.Folder.{Parts, Folders, Holds, IsThere, IsAbsent, IsTooLong}
use Rattle.cap_components.specs.declared.fault.PackFault.{PackFault}
use Rattle.cap_components.specs.declared.fault.PackFault.TheVariants as faults
use Rattle.cap_load.specs.LoadFile.{in_blocks, IsLoadFile, IsLoadFileWithin}
use Rattle.cap_load.proofs.Streams as streams
use Rattle.cap_package.specs.Parts.{Lent}
use Rattle.cap_package.specs.PackageRecord.{PackageRecord}
use Rattle.cap_package.specs.StandsFor.{StandsFor}
use Rattle.cap_package.specs.FirstFault.{Tells}
use Rattle.cap_package.proofs.OneRecord.{stands_told, stands_only}
use Rattle.jc_base.specs.World.{Linked}
use Rattle.jc_link.specs.World.{IsLinked}
use Rattle.jc_link.proofs.OneWorld.{one_world, linked_few, linked_faultless}
use Rattle.capcheck_core.specs.declared.load.FolderFault.{FolderFault}
use Rattle.capcheck_core.specs.declared.load.FolderFault.TheVariants.{Pack, Stream}
use Rattle.capcheck_core.specs.declared.load.Source.{Source}
use Rattle.capcheck_core.specs.declared.load.Source.TheVariants.{Components, LoadFile}
use Rattle.capcheck_core.specs.declared.verdict.Verdict.{Verdict}
use Rattle.capcheck_core.specs.declared.verdict.Verdict.TheVariants.{Done, Refused, Limit, Malformed, Usage, ReadFault, StoreFault, Memory}
use Rattle.capcheck_core.specs.Verdict.{status_of}
use Rattle.capcheck_core.specs.Outside.{Outside}
use Rattle.capcheck_core.specs.Beside.{LacksFile}
use Rattle.capcheck_core.specs.FolderFault.{OfPack}
use Rattle.capcheck_core.specs.InLoadFile.{AreInLoadFile, load_tag, load_key}
use Rattle.capcheck_core.specs.Place.{Place}
use Rattle.capcheck_core.specs.Roles.{AreRolesIn, LacksRoles, BreaksRoles}
use Rattle.capcheck_core.specs.Packages.{ArePartsAt, ArePartsBy, LacksPartsAt, FailsPartsAt, FailsPartsBy}
use Rattle.capcheck_core.specs.Packages.{AreRoleBytes, LacksPackage, IsFirstWhere, IsFirstStop}
use Rattle.capcheck_core.specs.OverFolders.{StopsAtLoad, OfGiven, OverPlaces}
use Rattle.capcheck_core.specs.World.{Own, StopsAtLink, OverWorld}
use Rattle.capcheck_core.specs.Completeness.{CanLink}
use Rattle.capcheck_core.proofs.Loads.{one_list, none_long}

-- ---- packages

-- nothing is told against parts that stand for a package
no_fault : (parts : List Lent) (p : PackageRecord) (fault : PackFault) → StandsFor parts p → Tells parts (Err fault) → ⊥
no_fault parts p fault stands told = let same = stands_told parts p (Err fault) stands told in absurd (cc)

-- parts stand for one package
pub one_package : (parts : List Lent) (p q : PackageRecord) → StandsFor parts p → StandsFor parts q → p ≡ q
one_package parts p q s t = let a = stands_only parts p s in let b = stands_only parts q t in cc

same_packages : (parts : List (List Lent)) (ps qs : List PackageRecord) → AllZip StandsFor parts ps → AllZip StandsFor parts qs → ps ≡ qs
same_packages [] [] [] s t = refl
same_packages [] [] (q ∷ qs) s t = absurd t
same_packages [] (p ∷ ps) qs s t = absurd s
same_packages (lent ∷ parts) [] qs s t = absurd s
same_packages (lent ∷ parts) (p ∷ ps) [] s t = absurd t
same_packages (lent ∷ parts) (p ∷ ps) (q ∷ qs) s t = let head = one_package lent p q s.0 t.0 in let tail = same_packages parts ps qs s.1 t.1 in cc

-- ---- a Load file

block_long : (blocks : List (List ℕ)) → length (concat blocks) ≤ length (in_blocks blocks)
block_long [] = omega arith
block_long (content ∷ blocks) = grind (arith, length-append, block_long blocks)

-- its contents are no longer than the file
within : (room : ℕ) (bytes : List ℕ) (parts : List Lent) → length bytes ≤ room → IsLoadFile bytes parts → IsLoadFileWithin room bytes parts
within room bytes parts short loads = grind (arith, block_long, length-append, length)

module _ (before : Folders) (held : Parts) (told : before.held ≡ Some held) where
  -- ---- files

  pub file_of : (key file : List ℕ) → IsThere before key file → map.get held key ≡ Some file
  file_of key file there = subst (λ h. IfSome h (λ parts. Holds parts key file)) told there

  pub one_file : (key xs ys : List ℕ) → IsThere before key xs → IsThere before key ys → xs ≡ ys
  one_file key xs ys s t = let a = file_of key xs s in let b = file_of key ys t in cc

  pub not_absent : (key file : List ℕ) → IsThere before key file → IsAbsent before key → ⊥
  not_absent key file there absent = grind (arith, file_of)

  pub not_long : (key file : List ℕ) → IsThere before key file → length file ≤ 65538 → IsTooLong before key → ⊥
  not_long key file there short long = grind (arith, length, file_of)

  -- ---- parts

  same_in_file : (dir : List ℕ) (xs ys : List Lent) → AreInLoadFile before dir xs → AreInLoadFile before dir ys → xs ≡ ys
  same_in_file dir xs ys s t =
      let same = one_file (load_key dir) s.stream t.stream s.there t.there in
      streams.one_list t.stream xs ys (subst (λ bytes. IsLoadFile bytes xs) same s.loads) t.loads

  one_place : (source : Source) (dir : List ℕ) (xs ys : List Lent) → ArePartsAt before source dir xs → ArePartsAt before source dir ys → xs ≡ ys
  one_place Components dir xs ys s t = one_list before held dir 256 xs ys told s t
  one_place LoadFile dir xs ys s t = same_in_file dir xs ys s t

  same_parts : (at : List Place) (xs ys : List (List Lent)) → AllZip (ArePartsBy before) at xs → AllZip (ArePartsBy before) at ys → xs ≡ ys
  same_parts [] [] [] s t = refl
  same_parts [] [] (y ∷ ys) s t = absurd t
  same_parts [] (x ∷ xs) ys s t = absurd s
  same_parts (place ∷ at) [] ys s t = absurd s
  same_parts (place ∷ at) (x ∷ xs) [] s t = absurd t
  same_parts (place ∷ at) (x ∷ xs) (y ∷ ys) s t = grind (arith, one_place, same_parts at xs ys s.1 t.1)

  -- ---- packages

  -- a Load file that is there is neither absent nor too long
  no_load_lack : (dir : List ℕ) (parts : List Lent) (fault : PackFault) → AreInLoadFile before dir parts → LacksFile before dir load_tag fault → ⊥
  no_load_lack dir parts x loaded lack = grind (arith, not_absent, not_long)

  -- parts that are had are not lacked
  no_parts_lack : (source : Source) (dir : List ℕ) (parts : List Lent) (fault : FolderFault) → ArePartsAt before source dir parts
      → LacksPartsAt before source dir fault → ⊥
  no_parts_lack Components dir parts (Pack fault) loaded long =
      none_long before held dir 256 long.tag parts told loaded long.first.byte long.first
  no_parts_lack Components dir parts (Stream fault) loaded never = never
  no_parts_lack LoadFile dir parts (Pack fault) loaded lack = no_load_lack dir parts fault loaded lack
  no_parts_lack LoadFile dir parts (Stream fault) loaded bad =
      let same = one_file (load_key dir) loaded.stream bad.stream loaded.there bad.there in
      streams.not_both 65538 bad.stream parts fault
      (subst (λ bytes. IsLoadFileWithin 65538 bytes parts) same (within 65538 loaded.stream parts loaded.short loaded.loads)) bad.refused

  no_refusal : (parts : List Lent) (p : PackageRecord) (fault : FolderFault) → StandsFor parts p → OfPack (λ f. Tells parts (Err f)) fault → ⊥
  no_refusal parts p (Pack fault) stands told_fault = no_fault parts p fault stands told_fault
  no_refusal parts p (Stream fault) stands never = never

  -- where a package is, none is lacked
  pub no_lack : (place : Place) (parts : List Lent) (p : PackageRecord) (fault : FolderFault) → ArePartsBy before place parts → StandsFor parts p
      → LacksPackage before place fault → ⊥
  no_lack place parts p fault loaded stands (inl lacks) = no_parts_lack place.source place.dir parts fault loaded lacks
  no_lack place parts p fault loaded stands (inr refused) =
      let same = one_place place.source place.dir parts refused.parts loaded refused.loaded in
      no_refusal refused.parts p fault (subst (λ ps. StandsFor ps p) same stands) refused.refused

  -- ---- roles

  one_roles : (at : List Place) (rs qs : List ℕ) → AreRoleBytes before at rs → AreRoleBytes before at qs → rs ≡ qs
  one_roles x rs qs r q = grind (arith, one_file)

  no_break : (file : List ℕ) (at : ℕ) (kind : FormKind) → length file ≡ 8 → BreaksRoles file at kind → ⊥
  no_break file at x eight breaks = grind (arith)

  -- a folder with roles lacks none
  pub no_roles_lack : (dir roles : List ℕ) (fault : PackFault) → AreRolesIn before dir roles → LacksRoles before dir fault → ⊥
  no_roles_lack dir roles x r lack = grind (arith, not_absent, not_long, one_file, no_break, length)

  no_roles_lack_by : (dir roles : List ℕ) (fault : FolderFault) → AreRolesIn before dir roles → OfPack (LacksRoles before dir) fault → ⊥
  no_roles_lack_by dir roles x r lack = grind (arith, no_roles_lack)

  -- ---- where nothing stops the loads

  -- no place is the first of which something is true that is true of none with a package
  no_first : (P : ℕ → Place → Type 0)
      → ((n : ℕ) (place : Place) (parts : List Lent) (p : PackageRecord) → ArePartsBy before place parts → StandsFor parts p → P n place → ⊥)
      → (from : ℕ) (at : List Place) (parts : List (List Lent)) (ps : List PackageRecord)
      → AllZip (ArePartsBy before) at parts → AllZip StandsFor parts ps → IsFirstWhere before from at P → ⊥
  no_first P never from [] parts ps loaded stand first = first
  no_first P never from (place ∷ at) [] ps loaded stand first = absurd loaded
  no_first P never from (place ∷ at) (x ∷ xs) [] loaded stand first = absurd stand
  no_first P never from (place ∷ at) (x ∷ xs) (p ∷ ps) loaded stand (inl here) = never from place x p loaded.0 stand.0 here
  no_first P never from (place ∷ at) (x ∷ xs) (p ∷ ps) loaded stand (inr r) = no_first P never (suc from) at xs ps loaded.1 stand.1 r.1

  no_stop : (P : ℕ → Place → Type 0) (R : List ℕ → Type 0)
      → ((n : ℕ) (place : Place) (parts : List Lent) (p : PackageRecord) → ArePartsBy before place parts → StandsFor parts p → P n place → ⊥)
      → ((dir roles : List ℕ) → AreRolesIn before dir roles → R dir → ⊥)
      → (at : List Place) (parts : List (List Lent)) (ps : List PackageRecord) (roles : List ℕ)
      → AllZip (ArePartsBy before) at parts → AllZip StandsFor parts ps → AreRoleBytes before at roles → IsFirstStop before at P R → ⊥
  no_stop P R never none [] parts ps roles loaded stand are stop = stop
  no_stop P R never none (place ∷ at) [] ps roles loaded stand are stop = absurd loaded
  no_stop P R never none (place ∷ at) (x ∷ xs) [] roles loaded stand are stop = absurd stand
  no_stop P R never none (place ∷ at) (x ∷ xs) (p ∷ ps) roles loaded stand are (inl here) = never 0 place x p loaded.0 stand.0 here
  no_stop P R never none (place ∷ at) (x ∷ xs) (p ∷ ps) roles loaded stand are (inr (inl roles_at)) = none place.dir roles are roles_at.holds
  no_stop P R never none (place ∷ at) (x ∷ xs) (p ∷ ps) roles loaded stand are (inr (inr after)) = grind (arith, no_first)

-- ---- a load that failed raised the count

place_rose : (before after : Folders) (source : Source) (dir : List ℕ) → FailsPartsAt before source dir after
    → Rose before.load_faults after.load_faults
place_rose before after x dir fails = grind (arith)

first_rose : (before after : Folders) (from : ℕ) (at : List Place) → IsFirstWhere before from at (λ n place. FailsPartsBy before place after)
    → Rose before.load_faults after.load_faults
first_rose before after from [] first = absurd first
first_rose before after from (place ∷ at) (inl here) = place_rose before after place.source place.dir here
first_rose before after from (place ∷ at) (inr r) = first_rose before after (suc from) at r.1

-- ---- all of it

-- there are as many places as packages, which are few
counted : (at : List Place) (before : Folders) (world : Linked) (can : CanLink at before world) → length at ≡ length can.made.packages
counted at before world can =
    sym (AllZip-long (ArePartsBy before) at can.parts can.given.parts_are) ∙ sym (AllZip-long StandsFor can.parts can.made.packages can.made.stand)

-- the loads do not stop
unstopped : (at : List Place) (before after : Outside) (world : Linked) (verdict : Verdict) → CanLink at before.folders world
    → (Rose before.folders.load_faults after.folders.load_faults → ⊥) → StopsAtLoad at before after verdict → status_of verdict ≡ 6
unstopped at before after world Memory can calm stops = refl
unstopped at before after world ReadFault can calm stops = grind (arith, place_rose, first_rose)
unstopped at before after world (Malformed text) can calm (same, inl many) =
    let few = linked_few can.made.packages can.roles world can.made.linked in
    let count = counted at before.folders world can in
    elim many.many.wrong [
      | inl none ↦ absurd (grind (arith))
      | inr above ↦ absurd (omega (arith, few, count, above))
    ]
unstopped at before after world (Malformed text) can calm (same, inr fault) =
    absurd (no_stop before.folders can.held can.told (λ n place. (fault.number ≡ n) × LacksPackage before.folders place fault.fault)
    (λ dir. (fault.number ≡ 0) × OfPack (LacksRoles before.folders dir) fault.fault)
    (λ n place parts p loaded stands lack. no_lack before.folders can.held can.told place parts p fault.fault loaded stands lack.1)
    (λ dir roles are lack. no_roles_lack_by before.folders can.held can.told dir roles fault.fault are lack.1)
    at can.parts can.made.packages can.roles can.given.parts_are can.made.stand can.given.roles_are fault.is.first)
unstopped at before after world (Done text) can calm stops = absurd stops
unstopped at before after world (Refused text) can calm stops = absurd stops
unstopped at before after world (Limit text) can calm stops = absurd stops
unstopped at before after world Usage can calm stops = absurd stops
unstopped at before after world StoreFault can calm stops = absurd stops

-- the packages are linked
linked : (packages : List PackageRecord) (roles : List ℕ) (world : Linked) (verdict : Verdict) → IsLinked packages roles world
    → StopsAtLink packages roles verdict → status_of verdict ≡ 6
linked packages roles world x is stops = grind (arith, linked_faultless)

-- what is given is what is there
same_given : (at : List Place) (before : Folders) (world : Linked) (can : CanLink at before world)
    (P : List (List Lent) → List ℕ → Type 0) (of : OfGiven before at P) (packages : List PackageRecord) → AllZip StandsFor of.parts packages
    → (can.made.packages ≡ packages) × (can.roles ≡ of.roles)
same_given at before world can P of packages stand =
    let parts = same_parts before can.held can.told at can.parts of.parts can.given.parts_are of.given.parts_are in (
      same_packages of.parts can.made.packages packages (subst (λ xs. AllZip StandsFor xs can.made.packages) parts can.made.stand) stand,
      one_roles before can.held can.told at can.roles of.roles can.given.roles_are of.given.roles_are,
    )

-- the command takes its own last step over the packages, the roles and the world, or there was no memory
pub reaches : (own : Own) (at : List Place) (before after : Outside) (world : Linked) (verdict : Verdict) (can : CanLink at before.folders world)
    → (Rose before.folders.load_faults after.folders.load_faults → ⊥) → OverPlaces (OverWorld own) at before after verdict
    → (status_of verdict ≡ 6) ⊎ own can.made.packages can.roles world before after verdict
reaches own at before after world verdict can calm (inl stops) = inl (unstopped at before after world verdict can calm stops)
reaches own at before after world verdict can calm (inr of) =
    let same = same_given at before.folders world can (λ parts roles. OverWorld own parts roles before after verdict) of of.holds.packages of.holds.stand in
    let is : IsLinked of.holds.packages of.roles world
    = subst (λ qs. IsLinked qs of.roles world) same.0 (subst (λ rs. IsLinked can.made.packages rs world) same.1 can.made.linked) in
    elim of.holds.holds [
      | inl unlinked ↦ inl (linked of.holds.packages of.roles world verdict is unlinked.1)
      | inr l ↦ inr (subst (λ rs. own can.made.packages rs world before after verdict) (sym same.1)
          (subst (λ qs. own qs of.roles world before after verdict) (sym same.0)
          (subst (λ w. own of.holds.packages of.roles w before after verdict) (sym (one_world of.holds.packages of.roles world l.world is l.linked)) l.holds)))
    ]
