-- What status 0 promises, command by command. A package is what parts stand for (`StandsFor`), a world what packages make (`IsLinked`);
-- methods have dataflow typings (`HasFlowTyping`) and card typings (`HasCardTyping`); in a world no run may meet a fault (`IsFaultFree`),
-- and the runs of two may end alike (`EndsAlike`). All else here is where these are held and which text tells of them.
use Rattle.std.specs.Prelude.{◌≡◌, ℕ, ◌<◌, ◌≤◌, ◌*◌, List, [], ◌∷◌, length, codes, count_by, Option, Some, IsNone, IfSome, IsSomeAnd}
use Rattle.std.specs.FinMap as map
use Rattle.std.specs.List.{AllZip}
use Rattle.cap_files.specs.Folder.{Folders, IsThere}
use Rattle.cap_bare.specs.declared.format.Bare.{Bare}
use Rattle.cap_gen.specs.Generated.{generated_parts}
use Rattle.cap_gen.specs.Linked.{roles}
use Rattle.cap_index.specs.Indexes.{has_code}
use Rattle.cap_listing.specs.Methods.{methods_of}
use Rattle.cap_listing.specs.Placing.{placed}
use Rattle.cap_listing.specs.Text.{Lists}
use Rattle.cap_load.specs.Packing.{IsPacked}
use Rattle.cap_package.specs.PackageRecord.{PackageRecord}
use Rattle.cap_package.specs.Parts.{Lent, held}
use Rattle.cap_package.specs.StandsFor.{StandsFor}
use Rattle.cap_text.specs.EntryWords.{EntryRequest}
use Rattle.cap_text.specs.Generate.{GenerateRequest}
use Rattle.cap_text.specs.Line.{methods_line}
use Rattle.cap_text.specs.Probe.{ProbeRequest}
use Rattle.cap_text.specs.Request.{Request, probe, show, list, asm, check, verify, defend, run, transform}
use Rattle.cap_text.specs.Request.{share, trial, generate, bound, pack, install, IsRequest}
use Rattle.cap_text.specs.Run.{RunRequest}
use Rattle.cap_text.specs.OutOfDir.{OutOfDirRequest}
use Rattle.cap_text.specs.Packed.{packed_line}
use Rattle.cap_text.specs.Shared.{shared_line}
use Rattle.cap_text.specs.Table.{component_table}
use Rattle.cap_text.specs.OutOfDirs.{OutOfDirsRequest}
use Rattle.cap_text.specs.Trial.{trial_text}
use Rattle.jc_base.specs.World.{Linked}
use Rattle.jc_link.specs.World.{IsLinked}
use Rattle.law_package.specs.Rewritten.{IsRewritten}
use Rattle.law_shared_world.specs.SharedCode.{locals_of_last}
use Rattle.law_sound.specs.Soundness.{IsFaultFree}
use Rattle.xf_pack.specs.Ends.{IsTypedLast}
use Rattle.xf_pack.specs.Transformed.{KeepsBehaviour}
use Rattle.xf_share.specs.Shared.{KeepsRuns}
use Rattle.capcheck_core.specs.declared.load.Source.{Source}
use Rattle.capcheck_core.specs.declared.load.Source.TheVariants.{Components, LoadFile}
use Rattle.capcheck_core.specs.Assemble.{listing_key}
use Rattle.capcheck_core.specs.Bounding.{TellsBound}
use Rattle.capcheck_core.specs.Defend.{IsDefended}
use Rattle.capcheck_core.specs.Generate.{IsTold}
use Rattle.capcheck_core.specs.Loads.{AreParts}
use Rattle.capcheck_core.specs.Outside.{CardWords, Outside}
use Rattle.capcheck_core.specs.Pack.{load_stores}
use Rattle.capcheck_core.specs.Packages.{AreGiven}
use Rattle.capcheck_core.specs.Place.{places}
use Rattle.capcheck_core.specs.MethodFile.{method_tag, IsMethodFile}
use Rattle.capcheck_core.specs.Probe.{IsBareRun}
use Rattle.capcheck_core.specs.Report.{Seen, Received}
use Rattle.capcheck_core.specs.Roles.{HasRoles, roles_tag}
use Rattle.capcheck_core.specs.Run.{IsLeft}
use Rattle.capcheck_core.specs.Transform.{roles_beside}
use Rattle.capcheck_core.specs.Typed.{count_of_last}
use Rattle.xf_share.specs.Ends.{HaveCardTypings}

-- ---- what the folders hold

-- the parts in these folders, those of the last as `last` says, stand for packages, and these make this world with the roles beside the
-- first
pub record HoldWorld (last : Source) (before : Folders) (dirs : List (List ℕ)) (w : Linked) : Type 0 where
  pub parts : List (List Lent)
  pub roles : List ℕ
  pub given : AreGiven before (places last dirs) parts roles
  pub packages : List PackageRecord
  pub stand : AllZip StandsFor parts packages
  pub linked : IsLinked packages roles w

-- these files are in the folder afterwards, and every other file of any folder is as it was, where the folders tell what they hold
pub record StandIn (dir : List ℕ) (stores : List Lent) (before after : Folders) : Type 0 where
  pub there : (tag : ℕ) (bytes : List ℕ) → held stores tag ≡ Some bytes → IsThere after (tag ∷ dir) bytes
  pub others : IfSome after.held (λ now. IsSomeAnd before.held (λ old.
      (key : List ℕ) → ((tag : ℕ) → key ≡ tag ∷ dir → IsNone (held stores tag)) → map.get now key ≡ map.get old key))

-- so are all of these parts, and the roles where some are given
pub record AreKept (dir : List ℕ) (parts : List Lent) (given : Option (List ℕ)) (before after : Folders) : Type 0 where
  pub stores : List Lent
  pub components : (tag : ℕ) → 1 ≤ tag → tag < 256 → held stores tag ≡ held parts tag
  pub roles : held stores roles_tag ≡ given
  pub stand : StandIn dir stores before after

-- ---- what each command promises

-- `verify`: every method with code has a card typing, and no run meets a fault; so it is for `install`, where the last package stands in
-- a Load file
pub record Accepted (last : Source) (dirs : List (List ℕ)) (before : Folders) (text : List ℕ) : Type 0 where
  pub world : Linked
  pub held : HoldWorld last before dirs world
  pub carded : HaveCardTypings world
  pub fault_free : IsFaultFree world
  pub prints : text ≡ methods_line (codes "accepted ") (count_by has_code world.methods)

-- `run`: the same, and the text and the memory of the card tell what comes of the run
pub record Ran (r : RunRequest) (before : Folders) (card : CardWords) (text : List ℕ) : Type 0 where
  pub world : Linked
  pub held : HoldWorld Components before r.dirs world
  pub carded : HaveCardTypings world
  pub fault_free : IsFaultFree world
  pub left : IsLeft world r card text

-- `bound`: every method with code has a card typing, and no run meets a fault. The text tells how much of the stack every run of the entry
-- takes at most, or the least method that stands twice in a chain of calls from it
pub record Bounded (e : EntryRequest) (before : Folders) (text : List ℕ) : Type 0 where
  pub world : Linked
  pub held : HoldWorld Components before e.dirs world
  pub bounded : TellsBound world e text

-- `check`: every method with code of the last package has a dataflow typing
pub record Typed (dirs : List (List ℕ)) (before : Folders) (text : List ℕ) : Type 0 where
  pub world : Linked
  pub held : HoldWorld Components before dirs world
  pub typed : IsTypedLast world
  pub prints : text ≡ methods_line (codes "typed ") (count_of_last world)

-- `transform`: the libraries are accepted and the last package has its typings; what is stored makes a world with the libraries in which
-- every method with code has a card typing, and each run ends there as it does in the source
pub record Transformed (t : OutOfDirsRequest) (before after : Folders) (text : List ℕ) : Type 0 where
  pub source : Linked
  pub held : HoldWorld Components before t.dirs source
  pub parts : List Lent
  pub keeps : KeepsBehaviour held.packages held.roles source parts
  pub kept : AreKept t.out parts (roles_beside held.packages held.roles) before after
  pub prints : text ≡ methods_line (codes "transformed ") (count_of_last source)

-- `share`: every method with code has a card typing. What is stored makes a world with the libraries in which every one has a card typing
-- too, and no more registers than before; and each run ends there in step with that in the source
pub record Shared (o : OutOfDirsRequest) (before after : Folders) (text : List ℕ) : Type 0 where
  pub source : Linked
  pub held : HoldWorld Components before o.dirs source
  pub parts : List Lent
  pub keeps : KeepsRuns held.packages held.roles source parts
  pub kept : AreKept o.out parts (roles_beside held.packages held.roles) before after
  pub prints : text ≡ shared_line (count_of_last source) (locals_of_last source) (locals_of_last keeps.world)

-- `defend`: the run begins, and the text tells what comes of it on a machine that tests what it does
pub record Defended (r : RunRequest) (before : Folders) (text : List ℕ) : Type 0 where
  pub world : Linked
  pub held : HoldWorld Components before r.dirs world
  pub defended : IsDefended world r text

-- `trial`: such a transformation, of which nothing is stored; the text tells what comes of the run in the source, and in the new world
-- within 2,000 times the steps
pub record Tried (r : RunRequest) (before : Folders) (card : CardWords) (text : List ℕ) : Type 0 where
  pub source : Linked
  pub held : HoldWorld Components before r.dirs source
  pub parts : List Lent
  pub keeps : KeepsBehaviour held.packages held.roles source parts
  pub first : List ℕ
  pub defended : IsDefended source r first
  pub second : List ℕ
  pub fault_free : IsFaultFree keeps.world
  pub left : IsLeft keeps.world (record r { budget = 2000 * r.budget }) card second
  pub prints : text ≡ trial_text first second

-- `gen`: such a transformation of the package for which the generated parts stand, and all its methods are run
pub record Generated (g : GenerateRequest) (before : Folders) (after : Outside) (text : List ℕ) : Type 0 where
  pub read : PackageRecord
  pub stands : StandsFor (generated_parts g.seed) read
  pub source : Linked
  pub linked : IsLinked (read ∷ []) roles source
  pub parts : List Lent
  pub keeps : KeepsBehaviour (read ∷ []) roles source parts
  pub kept : AreKept g.out parts (Some roles) before after.folders
  pub told : IsTold g.seed keeps.made keeps.world after.card text

-- `show`: the parts stand for a package, and the text is its component table
pub record Shown (dir : List ℕ) (before : Folders) (text : List ℕ) : Type 0 where
  pub parts : List Lent
  pub loaded : AreParts before dir parts
  pub read : PackageRecord
  pub stands : StandsFor parts read
  pub prints : text ≡ component_table read

-- `list`: the same, and the text is the listing of its methods with code
pub record Listed (dir : List ℕ) (before : Folders) (text : List ℕ) : Type 0 where
  pub parts : List Lent
  pub loaded : AreParts before dir parts
  pub read : PackageRecord
  pub stands : StandsFor parts read
  pub lists : Lists (methods_of read) text

-- `asm`: the parts stand for a package. What is stored stands for one with exactly the methods that the file beside them lists, their
-- code, handlers and three numbers, and is the former package in all else; so are the roles, where they are there
pub record Assembled (o : OutOfDirRequest) (before after : Folders) (text : List ℕ) : Type 0 where
  pub parts : List Lent
  pub loaded : AreParts before o.dir parts
  pub read : PackageRecord
  pub stands : StandsFor parts read
  pub listing : List ℕ
  pub there : IsThere before (listing_key o.dir) listing
  pub roles : Option (List ℕ)
  pub beside : HasRoles before o.dir roles
  pub stored : List Lent
  pub made : PackageRecord
  pub again : StandsFor stored made
  pub lists : Lists (methods_of made) listing
  pub rewritten : IsRewritten read (placed read (methods_of made)) made
  pub kept : AreKept o.out stored roles before after
  pub prints : text ≡ methods_line (codes "assembled ") (length (methods_of made))

-- `pack`: the parts stand for a package. What is stored is a Load file of its components in full blocks, with the roles where they are
-- there, and the text tells how many blocks and bytes it has
pub record Packed (o : OutOfDirRequest) (before after : Folders) (text : List ℕ) : Type 0 where
  pub parts : List Lent
  pub loaded : AreParts before o.dir parts
  pub read : PackageRecord
  pub stands : StandsFor parts read
  pub stream : List ℕ
  pub packed : IsPacked parts stream
  pub short : length stream ≤ 65538
  pub roles : Option (List ℕ)
  pub beside : HasRoles before o.dir roles
  pub stand : StandIn o.out (load_stores stream roles) before after
  pub prints : text ≡ packed_line (length packed.blocks) (length stream)

-- `probe`: the Method part is a bare method with a card typing, and the text is how its run ends
pub record Probed (p : ProbeRequest) (before : Folders) (text : List ℕ) : Type 0 where
  pub file : List ℕ
  pub there : IsThere before (method_tag ∷ p.dir) file
  pub short : length file ≤ 65538
  pub bare : Bare
  pub code : List ℕ
  pub method : IsMethodFile file bare code
  pub run : IsBareRun bare code p text

-- ---- the promise

-- What a command leaves as it was, and what it promises. Where all outside is as before, nothing is stored, no load fails, and the card's
-- memory is as it was
abbrev pub Promise : Request → Outside → Outside → List ℕ → Type 0
Promise (probe p) before after text = (after ≡ before) × Probed p before.folders text
Promise (show dir) before after text = (after ≡ before) × Shown dir before.folders text
Promise (list dir) before after text = (after ≡ before) × Listed dir before.folders text
Promise (asm o) before after text = (after.card ≡ before.card) × Assembled o before.folders after.folders text
Promise (check dirs) before after text = (after ≡ before) × Typed dirs before.folders text
Promise (verify dirs) before after text = (after ≡ before) × Accepted Components dirs before.folders text
Promise (defend r) before after text = (after ≡ before) × Defended r before.folders text
Promise (run r) before after text = (after.folders ≡ before.folders) × Ran r before.folders after.card text
Promise (transform t) before after text = (after.card ≡ before.card) × Transformed t before.folders after.folders text
Promise (share o) before after text = (after.card ≡ before.card) × Shared o before.folders after.folders text
Promise (trial r) before after text = (after.folders ≡ before.folders) × Tried r before.folders after.card text
Promise (generate g) before after text = Generated g before.folders after text
Promise (bound e) before after text = (after ≡ before) × Bounded e before.folders text
Promise (pack o) before after text = (after.card ≡ before.card) × Packed o before.folders after.folders text
Promise (install dirs) before after text = (after ≡ before) × Accepted LoadFile dirs before.folders text

-- where the words ask for something and the status is 0, its promise holds of the text that was received
abbrev pub Promises : List (List ℕ) → Outside → Outside → Seen → Seen → ℕ → Type 0
Promises words before after sink put status =
    (r : Request) → IsRequest words r → status ≡ 0 → (text : List ℕ) × Received sink put text × Promise r before after text
