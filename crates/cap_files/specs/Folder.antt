-- Folders as they are seen from outside, and what a load and a store make of them. A component's file is a tag of one byte, a size of
-- two and at most 65,535 bytes (JCVM 2.2, section 6.1), so 65,538 bytes are the most.
use Rattle.std.specs.Prelude.{◌≡◌, ℕ, ◌<◌, ◌≤◌, Bool, true, false, List, [], ◌∷◌, ◌++◌, length, take, Option}
use Rattle.std.specs.Prelude.{Some, None, IfSome, IsSomeAnd, Result, Ok, Err, ◌⊎◌}
use Rattle.std.specs.Ordering.{nat_cmp}
use Rattle.std.specs.Cmp.Lexicographic.{slice_cmp}
use Rattle.std.specs.FinMap as map
use Rattle.cap_bytes.specs.declared.fault.Part.{Part}
use Rattle.cap_files.specs.declared.folder.LoadEnd.{LoadEnd}
use Rattle.cap_files.specs.declared.folder.LoadEnd.TheVariants.{Failed, TooLong, Memory}
use Rattle.cap_files.specs.declared.folder.StoreFailed.{StoreFailed}
use Rattle.cap_files.specs.Counts.{Rose, CountsFault}

-- the bytes of each part that is held, by the part's number and its folder's word
abbrev pub Parts : Type 0
Parts = map.FinMap (slice_cmp nat_cmp) (List ℕ)

-- folders: what they hold, and the parts whose loads failed, in order, where the device tells either;
-- and how often a load and a store failed
pub record Folders : Type 0 where
  pub held : Option Parts
  pub failed : Option (List (List ℕ))
  pub load_faults : ℕ
  pub store_faults : ℕ

-- the key of a part of the folder that a word names
abbrev pub key_of : Part → List ℕ → List ℕ
key_of part dir = part.0 ∷ dir

-- a part is there, and holds the bytes
abbrev pub Holds : Parts → List ℕ → List ℕ → Type 0
Holds parts key bytes = map.get parts key ≡ Some bytes

-- a part is there, and its bytes begin with `first`
abbrev pub BeginsWith : Parts → List ℕ → List ℕ → Type 0
BeginsWith parts key first = IsSomeAnd (map.get parts key) (λ bytes. first ≡ take (length first) bytes)

-- the part holds these bytes, where the folders tell
abbrev pub IsThere : Folders → List ℕ → List ℕ → Type 0
IsThere folders key bytes = IfSome folders.held (λ parts. Holds parts key bytes)

-- the part is absent, where the folders tell
abbrev pub IsAbsent : Folders → List ℕ → Type 0
IsAbsent folders key = IfSome folders.held (λ parts. map.get parts key ≡ None)

-- the part has more bytes than a component can have, where the folders tell
abbrev pub IsTooLong : Folders → List ℕ → Type 0
IsTooLong folders key = IfSome folders.held (λ parts. IsSomeAnd (map.get parts key) (λ bytes. 65538 < length bytes))

-- ---- loads

-- what a load leaves in `to`, by its answer; where it is told what is held, also what that says of the part
abbrev pub Loads : Option Parts → List ℕ → List ℕ → Result Bool LoadEnd → Type 0
Loads held key to (Ok true) = (length to ≤ 65538) × IfSome held (λ parts. Holds parts key to)
Loads held key to (Ok false) = (to ≡ []) × IfSome held (λ parts. map.get parts key ≡ None)
Loads held key to (Err TooLong) = (length to ≡ 65539) × IfSome held (λ parts. BeginsWith parts key to)
Loads held key to (Err Failed) = to ≡ []
Loads held key to (Err Memory) = to ≡ []

-- the load of a part failed: the count of failed loads rose, the part is the next that failed where that is told, and all else is as before
pub record LoadFails (before : Folders) (key : List ℕ) (after : Folders) : Type 0 where
  pub held : after.held ≡ before.held
  pub stores : after.store_faults ≡ before.store_faults
  pub rises : before.load_faults ≤ after.load_faults
  pub rose : Rose before.load_faults after.load_faults
  pub named : IfSome after.failed (λ now. IsSomeAnd before.failed (λ keys. now ≡ keys ++ key ∷ []))

-- the folders after a load, by its answer: only a failure leaves a trace in them
abbrev pub LoadLeaves : Folders → List ℕ → Folders → Result Bool LoadEnd → Type 0
LoadLeaves before key after (Ok there) = after ≡ before
LoadLeaves before key after (Err TooLong) = after ≡ before
LoadLeaves before key after (Err Memory) = after ≡ before
LoadLeaves before key after (Err Failed) = LoadFails before key after

-- ---- stores

-- what is held after a store, by its answer: the bytes at the part and all else as before; and after a failure all as before, or the
-- first of the bytes at the part. A device may cease to tell what it holds, and never begins to
abbrev pub Stores : Option Parts → List ℕ → List ℕ → Option Parts → Result (Unit {0}) StoreFailed → Type 0
Stores before key bytes after (Ok _) = IfSome after (λ now. IsSomeAnd before (λ parts. now ≡ map.insert parts key bytes))
Stores before key bytes after (Err _) =
    IfSome after (λ now. IsSomeAnd before (λ parts. (now ≡ parts) ⊎ ((n : ℕ) × (now ≡ map.insert parts key (take n bytes)))))

-- the counts after a store: that of failed stores rose where it failed and is else as before, and of loads all is as before
pub record StoreCounts (before after : Folders) (result : Result (Unit {0}) StoreFailed) : Type 0 where
  pub loads : after.load_faults ≡ before.load_faults
  pub failed : after.failed ≡ before.failed
  pub stores : CountsFault before.store_faults after.store_faults result
