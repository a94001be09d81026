-- Why the parts of a folder were not loaded, and when.
use Rattle.std.specs.Prelude.{◌≡◌, ◌≤◌, ◌<◌, ℕ, false, List, ◌∷◌, ◌++◌, Result, Ok, Err}
use Rattle.cap_frame.specs.DirectoryFormat.{DirectoryItems}
use Rattle.cap_frame.specs.Directory.{size_in}
use Rattle.cap_files.specs.Folder.{Folders, IsTooLong, LoadFails}
use Rattle.cap_package.specs.Parts.{Lent, held}
use Rattle.capcheck_core.specs.declared.load.LoadStop.{LoadStop}
use Rattle.capcheck_core.specs.declared.load.LoadStop.TheVariants.{TooLong, Failed, Memory}
use Rattle.capcheck_core.specs.Loads.{is_some_size, is_asked, AreLoaded, AreParts, IsPartAdded, IsFirstLong, FailsParts}

-- why the loads of a folder's parts stopped: at the first that did
abbrev pub StopsParts : Folders → Folders → List ℕ → LoadStop → Type 0
StopsParts before after dir (TooLong part) = IsFirstLong before dir part.0
StopsParts before after dir Failed = FailsParts before dir after
StopsParts before after dir Memory = Unit {0}

-- the loads of the Header and the Directory, by their answer
abbrev pub LoadsFirst : Folders → Folders → List ℕ → Result (List Lent) LoadStop → Type 0
LoadsFirst before after dir (Ok first) = AreLoaded before dir 3 first
LoadsFirst before after dir (Err stop) = StopsParts before after dir stop

-- with the Header and the Directory these are all parts that are asked for, and none of the two
pub record AreRest (before : Folders) (dir : List ℕ) (first rest : List Lent) : Type 0 where
  pub loaded : AreParts before dir (first ++ rest)
  pub header : held (first ++ rest) 1 ≡ held first 1
  pub directory : held (first ++ rest) 2 ≡ held first 2

-- the loads of the parts after them, by their answer
abbrev pub LoadsRest : Folders → Folders → List ℕ → List Lent → Result (List Lent) LoadStop → Type 0
LoadsRest before after dir first (Ok rest) = AreRest before dir first rest
LoadsRest before after dir first (Err stop) = StopsParts before after dir stop

-- the loads of all parts, by their answer
abbrev pub LoadsParts : Folders → Folders → List ℕ → Result (List Lent) LoadStop → Type 0
LoadsParts before after dir (Ok parts) = AreParts before dir parts
LoadsParts before after dir (Err stop) = StopsParts before after dir stop

-- the folders after loads: as before, unless one failed
abbrev pub StopLeaves : Folders → Folders → LoadStop → Type 0
StopLeaves before after (TooLong part) = after ≡ before
StopLeaves before after Failed = Unit {0}
StopLeaves before after Memory = after ≡ before

abbrev pub LoadsLeave : {A : Type 0} → Folders → Folders → Result A LoadStop → Type 0
LoadsLeave before after (Ok loaded) = after ≡ before
LoadsLeave before after (Err stop) = StopLeaves before after stop

-- the load of one more part, by its answer
abbrev pub LoadsFile : Folders → Folders → List ℕ → ℕ → List Lent → List Lent → Result (Unit {0}) LoadStop → Type 0
LoadsFile before after dir tag parts more (Ok done) = IsPartAdded before dir tag parts more
LoadsFile before after dir tag parts more (Err (TooLong part)) = (part.0 ≡ tag) × IsTooLong before (tag ∷ dir)
LoadsFile before after dir tag parts more (Err Failed) = LoadFails before (tag ∷ dir) after
LoadsFile before after dir tag parts more (Err Memory) = Unit {0}

-- from this tag on the Directory gives no component a size that is not 0: it is above Debug's
pub record EndsSized (directory : DirectoryItems) (top : ℕ) : Type 0 where
  pub low : 13 ≤ top
  pub high : top ≤ 256
  pub none : (tag : ℕ) → top ≤ tag → tag < 256 → is_some_size (size_in directory tag) ≡ false

-- from this tag on no part is asked for: it is above Debug's
pub record EndsAsked (parts : List Lent) (top : ℕ) : Type 0 where
  pub low : 13 ≤ top
  pub high : top ≤ 256
  pub none : (tag : ℕ) → top ≤ tag → tag < 256 → is_asked parts tag ≡ false
