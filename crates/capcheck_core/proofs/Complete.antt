-- Where what a command needs is there and no device failed, no other verdict than Done and Memory has its cause.
use Rattle.std.proofs.Common.{◌≡◌, ◌⊎◌, List, ℕ, ℤ, length, map, ap, subst, sym, inl, inr, refl, arith, rules, suc, zero, []}
use Rattle.std.proofs.Common.{◌∷◌, All, FitsSigned, w16}
use Rattle.std.specs.Prelude.{Option, None, IsSomeAnd, string_bytes, slice_get}
use Rattle.std.specs.FinMap as map
use Rattle.cap_files.specs.Folder.{Folders, IsThere, IsTooLong}
use Rattle.cap_bare.specs.Typing.{BareTyping}
use Rattle.vm_step.specs.Arguments.{Argument, number}
use Rattle.vm_step.specs.declared.ending.StartFault.{StartFault}
use Rattle.cap_load.specs.declared.fault.BlocksEnd.TheVariants.{LoadLong}
use Rattle.cap_load.specs.Packing as packing
use Rattle.cap_text.specs.OutOfDir.{OutOfDirRequest}
use Rattle.cap_text.specs.Probe.{ProbeRequest}
use Rattle.cap_text.specs.Run.{RunRequest}
use Rattle.cap_text.specs.OutOfDirs.{OutOfDirsRequest}
use Rattle.cap_text.specs.EntryWords.{EntryRequest}
use Rattle.cap_text.specs.Generate.{GenerateRequest}
use Rattle.xf_pack.specs.Ends.{IsPartLong, IsTypedLast}
use Rattle.capcheck_core.specs.Generate.{generated, GeneratesIn, Generates}
use Rattle.cap_text.specs.Request.{Request, probe, show, list, asm, check, verify, defend, run, transform, share, trial, generate, bound, pack, install}
use Rattle.capcheck_core.specs.declared.load.FolderFault.TheVariants.{Pack}
use Rattle.capcheck_core.specs.declared.verdict.Verdict.{Verdict}
use Rattle.capcheck_core.specs.declared.verdict.Verdict.TheVariants.{Done, Refused, Limit, Malformed, Usage, ReadFault, StoreFault, Memory}
use Rattle.capcheck_core.specs.Verdict.{status_of}
use Rattle.capcheck_core.specs.Check.{ChecksWorld}
use Rattle.xf_share.specs.Ends.{HaveCardTypings}
use Rattle.capcheck_core.specs.Verify.{VerifiesWorld}
use Rattle.capcheck_core.specs.Bounding.{bound_fault, BoundsWorld}
use Rattle.capcheck_core.specs.Defend.{run_fault, DefendsWorld}
use Rattle.capcheck_core.specs.Run.{RunsWorld}
use Rattle.capcheck_core.specs.Transform.{StopsBefore, TransformsWorld}
use Rattle.capcheck_core.specs.Trial.{TriesWorld}
use Rattle.capcheck_core.specs.World.{Own, of_world, OverWorld}
use Rattle.capcheck_core.specs.Outside.{Outside}
use Rattle.capcheck_core.specs.Answers.{Answers, IsVerdict}
use Rattle.capcheck_core.specs.Assemble.{Assembles}
use Rattle.capcheck_core.specs.Completeness.{Needs, CanProbe, CanRead, CanAssemble, CanPack, CanOverPlaces, CanBring}
use Rattle.capcheck_core.specs.Completeness.{CanShare, CanGenerate, AreWithinLimits, CanDo, NoFault, Completes}
use Rattle.capcheck_core.specs.MethodFile.{IsMethodFile}
use Rattle.capcheck_core.specs.Probe.{ProbesFolder, FailsMethodPart, OfMethodPart, OfMethod, IsRefusal, IsUnstarted, IsNoMethod, method_key}
use Rattle.capcheck_core.specs.Report.{Seen, IsReported}
use Rattle.capcheck_core.specs.Shorts.{IsShort, AreShorts, RefusesStart}
use Rattle.capcheck_core.specs.declared.load.Source.TheVariants.{Components, LoadFile}
use Rattle.capcheck_core.specs.OverFolders.{OverPlaces}
use Rattle.capcheck_core.specs.Pack.{PacksInto, PacksPackage, Packs}
use Rattle.capcheck_core.specs.Place.{Place, places, in_components}
use Rattle.capcheck_core.specs.OverPackage.{OwnOne, StopsAtPackage, OverPackage}
use Rattle.capcheck_core.specs.Share.{StopsSharing, SharesWorld}
use Rattle.capcheck_core.specs.Show.{ShowsTable}
use Rattle.capcheck_core.specs.Listed.{ListsMethods}
use Rattle.capcheck_core.proofs.Assembles.{assembles, no_bad_roles, unstopped}
use Rattle.capcheck_core.proofs.Loads.{one_list}
use Rattle.capcheck_core.proofs.MethodFiles.{same_method, no_breach}
use Rattle.capcheck_core.proofs.WorldComplete.{no_lack, reaches}
use Rattle.cap_package.specs.PackageRecord.{PackageRecord}
use Rattle.cap_package.specs.Parts.{Lent}
use Rattle.jc_base.specs.World.{Linked}

-- the command did its work, or there was no memory
abbrev pub Completed : Verdict → Type 0
Completed verdict = (status_of verdict ≡ 0) ⊎ (status_of verdict ≡ 6)

-- the file that was read is the one that is held
same_file : (p : ProbeRequest) (before : Folders) (can : CanProbe p before) (file : List ℕ) → IsThere before (method_key p) file → can.file ≡ file
same_file p before can file there = grind (arith)

-- each of a list of shorts is a short
no_misfit : (values : List ℤ) (n : ℕ) → All (FitsSigned w16) values
    → IsSomeAnd (slice_get (map number values) n) (λ arg. (value : ℤ) → IsShort arg value → ⊥) → ⊥
no_misfit [] n fit misfit = absurd misfit
no_misfit (x ∷ xs) zero fit misfit = misfit x (refl, fit 0 x (search rules))
no_misfit (x ∷ xs) (suc n) fit misfit = no_misfit xs n (λ k d below. fit (suc k) d (omega (arith, below))) misfit

-- arguments that fit are refused for nothing
starts : (args : List Argument) (wanted : ℕ) (values : List ℤ) (fault : StartFault) → AreShorts args wanted values → RefusesStart args wanted fault
    → ⊥
starts args wanted values x fit refused = grind (arith, no_misfit)

unrefused : (p : ProbeRequest) (before : Folders) → CanProbe p before → (text : List ℕ)
    → OfMethodPart p before (λ file. OfMethod file (λ bare code. IsRefusal bare code text)) → ⊥
unrefused p before can text part =
    let of = part.holds in
    let method = subst (λ file. IsMethodFile file can.bare can.code) (same_file p before can part.file part.there) can.method in
    of.holds.untyped (same_method part.file can.bare of.bare can.code of.code method of.method (λ bare code. BareTyping code bare) can.typed)

unbroken : (p : ProbeRequest) (before : Folders) → CanProbe p before → (text : List ℕ)
    → OfMethodPart p before (λ file. IsNoMethod file text ⊎ OfMethod file (λ bare code. IsUnstarted bare code p text)) → ⊥
unbroken p before can text part =
    let method = subst (λ file. IsMethodFile file can.bare can.code) (same_file p before can part.file part.there) can.method in
    elim part.holds [
      | inl none ↦ no_breach part.file can.bare can.code none.fault method none.refused
      | inr of ↦ let fit : AreShorts p.args of.bare.nargs can.values
          = same_method part.file can.bare of.bare can.code of.code method of.method (λ bare code. AreShorts p.args bare.nargs can.values) can.fit in
          starts p.args of.bare.nargs can.values of.holds.fault fit of.holds.refused
    ]

-- the verdicts that stand where a probe can be done
probed : (p : ProbeRequest) (before : Folders) (verdict : Verdict) → CanProbe p before → ProbesFolder p before verdict → Completed verdict
probed p before (Done text) can probes = inl refl
probed p before Memory can probes = inr refl
probed p before (Refused text) can probes = absurd (unrefused p before can (string_bytes text) probes)
probed p before (Malformed text) can (inl missing) = grind (arith, map)
probed p before (Malformed text) can (inr (inl long)) = grind (arith, map, length)
probed p before (Malformed text) can (inr (inr part)) = absurd (unbroken p before can (string_bytes text) part)
probed p before ReadFault can probes = absurd probes
probed p before Usage can probes = absurd probes
probed p before StoreFault can probes = absurd probes
probed p before (Limit text) can probes = absurd probes

unread : (p : ProbeRequest) (before after : Folders) (sink put : Seen) (verdict : Verdict) → NoFault before after sink put
    → FailsMethodPart p before after verdict → ⊥
unread p before after sink put x calm fails = grind (arith)

-- a package that is there lacks nothing
has_read : (dir : List ℕ) (before after : Folders) (sink put : Seen) (verdict : Verdict) → CanRead dir before → NoFault before after sink put
    → StopsAtPackage dir before after verdict → Completed verdict
has_read dir before after sink put Memory can calm stops = inr refl
has_read dir before after sink put ReadFault can calm stops = absurd (calm.loads stops.1.holds.rose)
has_read dir before after sink put (Malformed text) can calm (same, says) =
    absurd (no_lack before can.held can.told (in_components dir) can.parts can.read (Pack says.fault) can.loaded can.stands says.lacks)
has_read dir before after sink put _ can calm stops = absurd stops

-- a command on one package does its work there, where its own step does
pub over_package : (own : OwnOne) (dir : List ℕ) (before after : Folders) (sink put : Seen) (verdict : Verdict)
    → ((parts : List Lent) (p : PackageRecord) → own parts p before after verdict → Completed verdict)
    → CanRead dir before → NoFault before after sink put → OverPackage own dir before after verdict → Completed verdict
over_package own dir before after sink put verdict does can calm (inl stops) = has_read dir before after sink put verdict can calm stops
over_package own dir before after sink put verdict does can calm (inr of) = does of.parts of.read of.holds

-- a table is told
tables : (parts : List Lent) (p : PackageRecord) (before after : Folders) (verdict : Verdict) → ShowsTable parts p before after verdict → Completed verdict
tables parts p before after x own = grind (arith)

-- a listing is told
lists : (parts : List Lent) (p : PackageRecord) (before after : Folders) (verdict : Verdict) → ListsMethods parts p before after verdict → Completed verdict
lists parts p before after x own = grind (arith)

-- methods that fit the package in the folder are put into it
can_assemble : (o : OutOfDirRequest) (before after : Folders) (sink put : Seen) (verdict : Verdict) → CanAssemble o before
    → NoFault before after sink put → Assembles o before after verdict → Completed verdict
can_assemble o before after sink put verdict can calm (inl stops) = has_read o.dir before after sink put verdict can.reads calm stops
can_assemble o before after sink put verdict can calm (inr of) =
    assembles o before after can of.parts of.read of.loaded of.stands verdict calm.loads calm.stores of.holds

-- parts that are not too long for a Load file are packed
packs : (parts : List Lent) (roles : Option (List ℕ)) (out : List ℕ) (before after : Folders) (sink put : Seen) (verdict : Verdict)
    → ((size : ℕ) → packing.IsTooLong parts (LoadLong size) → ⊥) → NoFault before after sink put
    → PacksInto parts roles out before after verdict → Completed verdict
packs parts roles out before after sink put (Done text) short calm own = inl refl
packs parts roles out before after sink put Memory short calm own = inr refl
packs parts roles out before after sink put StoreFault short calm own = absurd (calm.stores own.broken.rose)
packs parts roles out before after sink put (Limit text) short calm (same, says) = absurd (short says.size says.is)
packs parts roles out before after sink put _ short calm own = absurd own

packs_beside : (o : OutOfDirRequest) (before after : Folders) (sink put : Seen) (can : CanPack o before) (p : PackageRecord) (verdict : Verdict)
    → NoFault before after sink put → PacksPackage o can.reads.parts p before after verdict → Completed verdict
packs_beside o before after sink put can p verdict calm x = grind (arith, unstopped, no_bad_roles, packs)

can_pack : (o : OutOfDirRequest) (before after : Folders) (sink put : Seen) (verdict : Verdict) → CanPack o before → NoFault before after sink put
    → Packs o before after verdict → Completed verdict
can_pack o before after sink put verdict can calm (inl stops) = has_read o.dir before after sink put verdict can.reads calm stops
can_pack o before after sink put verdict can calm (inr of) =
    let same = one_list before can.reads.held o.dir 256 can.reads.parts of.parts can.reads.told can.reads.loaded of.loaded in
    packs_beside o before after sink put can of.read verdict calm
    (subst (λ ps. PacksPackage o ps of.read before after verdict) (sym same) of.holds)

-- ---- over a world

-- a command over the world that the folders make does its work, where its last step does
pub over_world : (own : Own) (needs : Needs) (at : List Place) (before after : Outside) (sink put : Seen) (verdict : Verdict)
    → ((packages : List PackageRecord) (roles : List ℕ) (w : Linked) → needs packages roles w → own packages roles w before after verdict
    → Completed verdict)
    → CanOverPlaces needs at before.folders → NoFault before.folders after.folders sink put → OverPlaces (OverWorld own) at before after verdict
    → Completed verdict
over_world own needs at before after sink put verdict does can calm answers =
    elim (reaches own at before after can.world verdict can.links calm.loads answers) [
      | inl memory ↦ inr memory
      | inr here ↦ does can.links.made.packages can.links.roles can.world can.has here
    ]

module _ (before after : Outside) where
  -- the last step of a check refuses no world in which all methods are typed
  types : (w : Linked) (verdict : Verdict) → IsTypedLast w → ChecksWorld w before after verdict → Completed verdict
  types w x typed own = grind (arith)

  -- that of a verifying none in which all have card typings
  cards : (w : Linked) (verdict : Verdict) → HaveCardTypings w → VerifiesWorld w before after verdict → Completed verdict
  cards w x carded own = grind (arith)

  -- that of a run none that nothing keeps from beginning
  defended : (r : RunRequest) (w : Linked) (verdict : Verdict) → run_fault w r ≡ None → DefendsWorld r w before after verdict → Completed verdict
  defended r w x begins own = grind (arith)

  -- nor does that of a run on the machine of verified code, where all methods have card typings
  ran : (r : RunRequest) (w : Linked) (verdict : Verdict) → HaveCardTypings w → run_fault w r ≡ None → RunsWorld r w before after verdict
      → Completed verdict
  ran r w x carded begins own = grind (arith)

  -- nor does that of a bound, where a run of the entry may begin
  bounded : (e : EntryRequest) (w : Linked) (verdict : Verdict) → HaveCardTypings w → bound_fault w e ≡ None → BoundsWorld e w before after verdict
      → Completed verdict
  bounded e w x carded begins own = grind (arith)

  -- nor does a package that can be brought into another form keep from it
  not_stopped : (packages : List PackageRecord) (w : Linked) (verdict : Verdict) → CanBring packages w → StopsBefore packages w verdict
      → Completed verdict
  not_stopped packages w Memory can stops = inr refl
  not_stopped packages w (Refused text) can (inl says) = absurd (says.is.first.lacks (can.accepted says.is.method says.is.first.asked))
  not_stopped packages w (Refused text) can (inr says) = absurd (says.is.first.lacks (can.typed says.is.method says.is.first.asked))
  not_stopped packages w (Limit text) can (inl says) = absurd (can.within says.is.method says.is.of_last says.limit says.is.passes)
  not_stopped packages w (Limit text) can (inr says) = absurd (can.short says.size says.is)
  not_stopped packages w _ can stops = absurd stops

  -- so a transformation where what it needs is there, and no store fails, does its work
  brought : (t : OutOfDirsRequest) (packages : List PackageRecord) (roles : List ℕ) (w : Linked) (sink put : Seen) (verdict : Verdict)
      → NoFault before.folders after.folders sink put → CanBring packages w → TransformsWorld t packages roles w before after verdict
      → Completed verdict
  brought t packages roles w sink put (Done text) calm can own = inl refl
  brought t packages roles w sink put StoreFault calm can own = absurd (calm.stores own.1.broken.rose)
  brought t packages roles w sink put Memory calm can own = not_stopped packages w Memory can own.1.1
  brought t packages roles w sink put (Refused text) calm can own = not_stopped packages w (Refused text) can own.1.1
  brought t packages roles w sink put (Limit text) calm can own = not_stopped packages w (Limit text) can own.1.1
  brought t packages roles w sink put _ calm can own = absurd own.1.1

  -- nor does a package whose methods can share registers keep from it
  unshared : (packages : List PackageRecord) (w : Linked) (verdict : Verdict) → CanShare packages w → StopsSharing packages w verdict
      → Completed verdict
  unshared packages w Memory can stops = inr refl
  unshared packages w (Refused text) can says = absurd (says.first.lacks (can.carded says.method says.first.asked))
  unshared packages w (Limit text) can (inl says) = absurd (can.within says.number says.size says.is)
  unshared packages w (Limit text) can (inr says) = absurd (can.short says.size says.is)
  unshared packages w _ can stops = absurd stops

  shared : (o : OutOfDirsRequest) (packages : List PackageRecord) (roles : List ℕ) (w : Linked) (sink put : Seen) (verdict : Verdict)
      → NoFault before.folders after.folders sink put → CanShare packages w → SharesWorld o packages roles w before after verdict
      → Completed verdict
  shared o packages roles w sink put (Done text) calm can own = inl refl
  shared o packages roles w sink put StoreFault calm can own = absurd (calm.stores own.1.broken.rose)
  shared o packages roles w sink put Memory calm can own = unshared packages w Memory can own.1.1
  shared o packages roles w sink put (Refused text) calm can own = unshared packages w (Refused text) can own.1.1
  shared o packages roles w sink put (Limit text) calm can own = unshared packages w (Limit text) can own.1.1
  shared o packages roles w sink put _ calm can own = absurd own.1.1

  -- and so does a trial whose entry begins
  tried : (r : RunRequest) (packages : List PackageRecord) (roles : List ℕ) (w : Linked) (verdict : Verdict)
      → CanBring packages w → run_fault w r ≡ None → TriesWorld r packages roles w before after verdict → Completed verdict
  tried r packages roles w (Done text) can begins own = inl refl
  tried r packages roles w (Malformed text) can begins own = let first = own.1.unbegun.first in absurd (cc)
  tried r packages roles w Memory can begins own = not_stopped packages w Memory can own.1
  tried r packages roles w (Refused text) can begins own = not_stopped packages w (Refused text) can own.1
  tried r packages roles w (Limit text) can begins own = not_stopped packages w (Limit text) can own.1
  tried r packages roles w _ can begins own = absurd own.1

-- a package is generated and its methods run, where no limit is passed and no store fails
has_generated : (g : GenerateRequest) (w : Linked) (before after : Outside) (sink put : Seen) (verdict : Verdict)
    → AreWithinLimits w → ((n : ℕ) → IsPartLong (generated g.seed) w n → ⊥) → NoFault before.folders after.folders sink put
    → GeneratesIn g w before after verdict → Completed verdict
has_generated g w before after sink put (Done text) within short calm own = inl refl
has_generated g w before after sink put Memory within short calm own = inr refl
has_generated g w before after sink put StoreFault within short calm own = absurd (calm.stores own.0.broken.rose)
has_generated g w before after sink put (Limit text) within short calm (same, inl says) = grind (arith)
has_generated g w before after sink put (Limit text) within short calm (same, inr says) = absurd (short says.size says.is)
has_generated g w before after sink put _ within short calm own = absurd own

can_generate : (g : GenerateRequest) (before after : Outside) (sink put : Seen) (verdict : Verdict) → CanGenerate g
    → NoFault before.folders after.folders sink put → Generates g before after verdict → Completed verdict
can_generate g before after sink put verdict can calm (inl stopped) = inr (ap status_of stopped.1)
can_generate g before after sink put verdict can calm (inr of) =
    let free = can of.world of.linked in
    has_generated g of.world before after sink put verdict free.0 free.1 calm of.holds

can_do : (r : Request) (before after : Outside) (sink put : Seen) (verdict : Verdict) → CanDo r before.folders
    → NoFault before.folders after.folders sink put
    → Answers r before after verdict → Completed verdict
can_do (probe p) before after sink put verdict can calm answers = grind (arith, probed, unread)
can_do (show dir) before after sink put verdict can calm answers =
    over_package ShowsTable dir before.folders after.folders sink put verdict (λ parts p. tables parts p before.folders after.folders verdict) can calm
    answers.0
can_do (list dir) before after sink put verdict can calm answers =
    over_package ListsMethods dir before.folders after.folders sink put verdict (λ parts p. lists parts p before.folders after.folders verdict) can calm
    answers.0
can_do (asm o) before after sink put verdict can calm answers = can_assemble o before.folders after.folders sink put verdict can calm answers.0
can_do (check dirs) before after sink put verdict can calm answers =
    over_world (of_world ChecksWorld) (λ packages roles w. IsTypedLast w) (places Components dirs) before after sink put verdict
    (λ packages roles w. types before after w verdict) can calm answers
can_do (verify dirs) before after sink put verdict can calm answers =
    over_world (of_world VerifiesWorld) (λ packages roles w. HaveCardTypings w) (places Components dirs) before after sink put verdict
    (λ packages roles w. cards before after w verdict) can calm answers
can_do (defend r) before after sink put verdict can calm answers =
    over_world (of_world (DefendsWorld r)) (λ packages roles w. run_fault w r ≡ None) (places Components r.dirs) before after sink put verdict
    (λ packages roles w. defended before after r w verdict) can calm answers
can_do (run r) before after sink put verdict can calm answers =
    over_world (of_world (RunsWorld r)) (λ packages roles w. HaveCardTypings w × (run_fault w r ≡ None)) (places Components r.dirs)
    before after sink put verdict
    (λ packages roles w has. ran before after r w verdict has.0 has.1) can calm answers
can_do (transform t) before after sink put verdict can calm answers =
    over_world (TransformsWorld t) (λ packages roles w. CanBring packages w) (places Components t.dirs) before after sink put verdict
    (λ packages roles w. brought before after t packages roles w sink put verdict calm) can calm answers
can_do (share o) before after sink put verdict can calm answers =
    over_world (SharesWorld o) (λ packages roles w. CanShare packages w) (places Components o.dirs) before after sink put verdict
    (λ packages roles w. shared before after o packages roles w sink put verdict calm) can calm answers
can_do (trial r) before after sink put verdict can calm answers =
    over_world (TriesWorld r) (λ packages roles w. CanBring packages w × (run_fault w r ≡ None)) (places Components r.dirs) before after sink put verdict
    (λ packages roles w has. tried before after r packages roles w verdict has.0 has.1) can calm answers
can_do (generate g) before after sink put verdict can calm answers = can_generate g before after sink put verdict can calm answers
can_do (bound e) before after sink put verdict can calm answers =
    over_world (of_world (BoundsWorld e)) (λ packages roles w. HaveCardTypings w × (bound_fault w e ≡ None)) (places Components e.dirs)
    before after sink put verdict
    (λ packages roles w has. bounded before after e w verdict has.0 has.1) can calm answers
can_do (pack o) before after sink put verdict can calm answers = can_pack o before.folders after.folders sink put verdict can calm answers.0
can_do (install dirs) before after sink put verdict can calm answers =
    over_world (of_world VerifiesWorld) (λ packages roles w. HaveCardTypings w) (places LoadFile dirs) before after sink put verdict
    (λ packages roles w. cards before after w verdict) can calm answers

reported : (verdict : Verdict) (before after : Folders) (sink put : Seen) (status : ℕ) → NoFault before after sink put
    → IsReported verdict sink put status
    → Completed verdict → (status ≡ 0) ⊎ (status ≡ 6)
reported verdict before after sink put status calm x known = grind (arith)

pub completes : (words : List (List ℕ)) (before after : Outside) (sink put : Seen) (verdict : Verdict) (status : ℕ)
    → IsVerdict words before after verdict → IsReported verdict sink put status → Completes words before.folders after.folders sink put status
completes words before after sink put verdict status is report = grind (arith, reported, can_do)
