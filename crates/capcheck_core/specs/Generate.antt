-- What `gen` may answer, by its number, what it stores, and what it leaves in the memory of the card (JCVM 2.2, chapter 6; Leroy 2002,
-- sections 3 and 4).
use Rattle.std.specs.Prelude.{◌≡◌, ℕ, ℤ, pos, ◌+◌, ◌*◌, ◌/◌, ◌%◌, ◌+ℤ◌, ◌≤ℤ◌, neg_ℤ, List, []}
use Rattle.std.specs.Prelude.{◌∷◌, length, map, IsSomeAnd, string_bytes, ◌⊎◌, ◌<◌, None, Some, fold, slice_get}
use Rattle.cap_gen.specs.Linked.{roles}
use Rattle.cap_gen.specs.Methods.{method_info}
use Rattle.cap_gen.specs.Record.{package_record}
use Rattle.cap_package.specs.PackageRecord.{PackageRecord}
use Rattle.cap_package.specs.Parts.{Lent}
use Rattle.cap_text.specs.Generate.{GenerateRequest, generate_text}
use Rattle.cap_text.specs.Run.{RunRequest}
use Rattle.jc_base.specs.World.{Linked}
use Rattle.law_sound.specs.Soundness.{IsFaultFree}
use Rattle.vm_step.specs.Arguments.{number}
use Rattle.vm_step.specs.Raising.{Outcome, ended}
use Rattle.vm_step.specs.Start.{start_fault}
use Rattle.vm_step.specs.declared.ending.Ending.TheVariants.{Plain}
use Rattle.vm_step.specs.declared.ending.Plain as endings
use Rattle.vm_step.specs.declared.ending.Plain.TheVariants.{Returned}
use Rattle.vm_step.specs.declared.ending.Value.TheVariants.{Short}
use Rattle.vm_store.specs.declared.cell.Cell.{Cell}
use Rattle.xf_pack.specs.Transformed.{IsTransformed}
use Rattle.capcheck_core.specs.declared.verdict.Verdict.{Verdict}
use Rattle.capcheck_core.specs.declared.verdict.Verdict.TheVariants.{Done, Limit, StoreFault, Memory}
use Rattle.capcheck_core.specs.Defend.{ComesTo, method_entered}
use Rattle.capcheck_core.specs.Outside.{CardWords, Outside, Untouched}
use Rattle.capcheck_core.specs.Run.{HoldsWords}
use Rattle.capcheck_core.specs.Stores.{AreStored}
use Rattle.capcheck_core.specs.Transform.{Brings, IsBroughtInPart, SaysLimited, SaysLong}
use Rattle.xf_share.specs.Ends.{HaveCardTypings}
use Rattle.capcheck_core.specs.World.{OfLinked}

-- ---- the runs

-- the run of the method with a number, which is handed this number, and 0 and 1 by fours in turn
abbrev pub run_of : ℕ → RunRequest
run_of k = record {
  budget = 1000;
  entry = record { class_no = 0; method_no = k };
  dirs = [];
  args = number (pos k) ∷ number (pos ((k / 4) % 2)) ∷ [];
}

-- the short that a run which ends so returned, and 0 where it returned none
abbrev pub short_ended : endings.Plain → ℤ
short_ended (Returned (Short n)) = n
short_ended _ = pos 0

abbrev pub short_result : Outcome Cell → ℤ
short_result (ended (Plain ending) s) = short_ended ending
short_result _ = pos 0

-- each is what comes of the run of the method with its number
abbrev pub ComeOfRuns : Linked → List (Outcome Cell) → Type 0
ComeOfRuns w outcomes = (k : ℕ) (o : Outcome Cell) → slice_get outcomes k ≡ Some o → ComesTo w (run_of k) o

-- the two hundred methods are run one after the other, the shorts that they return have this sum, and the memory holds the words of what
-- the last run leaves
pub record AreRun (w : Linked) (c : CardWords) (sum : ℤ) : Type 0 where
  pub outcomes : List (Outcome Cell)
  pub count : length outcomes ≡ 200
  pub come : ComeOfRuns w outcomes
  pub total : sum ≡ fold ◌+ℤ◌ (pos 0) (map short_result outcomes)
  pub holds : IsSomeAnd (slice_get outcomes 199) (HoldsWords w c)

-- the first of them, at least one, are run one after the other, and the memory holds the words of what the last of these leaves
pub record AreBegun (w : Linked) (c : CardWords) : Type 0 where
  pub outcomes : List (Outcome Cell)
  pub last : ℕ
  pub few : last < 200
  pub count : length outcomes ≡ last + 1
  pub come : ComeOfRuns w outcomes
  pub holds : IsSomeAnd (slice_get outcomes last) (HoldsWords w c)

-- the memory is as it was, or they are run in it, as far as they were begun
abbrev pub IsKeptOrBegun : Linked → CardWords → CardWords → Type 0
IsKeptOrBegun w before after = (after ≡ before) ⊎ AreBegun w after

-- ---- the answers

-- the package that is generated, alone
abbrev pub generated : ℕ → List PackageRecord
generated seed = package_record seed ∷ []

-- its parts in the form that a verifier on the card accepts are stored
pub record IsStored (g : GenerateRequest) (w : Linked) (before after : Outside) : Type 0 where
  pub stores : List Lent
  pub brings : Brings (generated g.seed) roles w stores
  pub stored : AreStored g.out stores before.folders after.folders

-- in the world that they make every method with code has a card typing, and no run meets a fault. All are run, and the text tells the
-- sizes of the two Method components and the sum
pub record IsTold (seed : ℕ) (made : PackageRecord) (w : Linked) (c : CardWords) (text : List ℕ) : Type 0 where
  pub carded : HaveCardTypings w
  pub fault_free : IsFaultFree w
  pub sum : ℤ
  pub run : AreRun w c sum
  pub prints : text ≡ generate_text (length (method_info seed)) (length made.methods.info) sum

-- they are stored, and of them is told
pub record IsGenerated (g : GenerateRequest) (w : Linked) (before after : Outside) (text : List ℕ) : Type 0 where
  pub stored : IsStored g w before after
  pub told : IsTold g.seed stored.brings.made.keeps.made stored.brings.made.keeps.world after.card text

-- they are stored, and then there is no memory to run all methods or to tell of them
pub record IsUntold (g : GenerateRequest) (w : Linked) (before after : Outside) : Type 0 where
  pub stored : IsStored g w before after
  pub card : IsKeptOrBegun stored.brings.made.keeps.world before.card after.card

-- the answers where the generated package makes this world. Where a limit were passed, or there is no memory, nothing is stored; but there
-- may be no memory for the rest after all is stored. Before that the card's memory is as it was
abbrev pub GeneratesIn : GenerateRequest → Linked → Outside → Outside → Verdict → Type 0
GeneratesIn g w before after (Done text) = IsGenerated g w before after (string_bytes text)
GeneratesIn g w before after StoreFault =
    IsBroughtInPart (generated g.seed) roles w g.out before.folders after.folders × (after.card ≡ before.card)
GeneratesIn g w before after (Limit text) =
    Untouched before after × (SaysLimited w (string_bytes text) ⊎ SaysLong (generated g.seed) w (string_bytes text))
GeneratesIn g w before after Memory = Untouched before after ⊎ IsUntold g w before after
GeneratesIn g w before after _ = ⊥

-- the outside is as it was when the command began, and as it is afterwards; there may be no memory for the generated package's world
abbrev pub Generates : GenerateRequest → Outside → Outside → Verdict → Type 0
Generates g before after verdict =
    (Untouched before after × (verdict ≡ Memory))
    ⊎ OfLinked (generated g.seed) roles (λ w. GeneratesIn g w before after verdict)

-- ---- on the way there

-- the run of the method with a number begins
pub record BeginsRun (w : Linked) (k : ℕ) : Type 0 where
  pub number : ℕ
  pub entered : method_entered w (run_of k).entry ≡ Some number
  pub begins : start_fault w number (run_of k).args ≡ None

abbrev pub HaveEntries : Linked → Type 0
HaveEntries w = (k : ℕ) → k < 200 → BeginsRun w k

-- this is what comes of the run of the method with a number, and the memory holds its words
pub record ComesOfRun (w : Linked) (k : ℕ) (c : CardWords) (ending : endings.Plain) : Type 0 where
  pub outcome : Outcome Cell
  pub comes : ComesTo w (run_of k) outcome
  pub short : short_result outcome ≡ short_ended ending
  pub holds : HoldsWords w c outcome

-- the sum of so many shorts lies within these bounds
pub record IsSumOfShorts (count : ℕ) (sum : ℤ) : Type 0 where
  pub least : neg_ℤ (pos (32768 * count)) ≤ℤ sum
  pub most : sum ≤ℤ pos (32768 * count)

-- every method with code has a card typing, no run meets a fault, and all are run
abbrev pub RunsAll : Linked → CardWords → ℤ → Type 0
RunsAll w c sum = HaveCardTypings w × IsFaultFree w × AreRun w c sum

-- the parts are those of the generated package in the form that a verifier on the card accepts; they make this world, and their Method
-- component has so many bytes
pub record IsNew (seed : ℕ) (w : Linked) (parts : List Lent) (new : Linked) (size : ℕ) : Type 0 where
  pub made : IsTransformed (generated seed) roles w parts
  pub world : made.keeps.world ≡ new
  pub is_size : size ≡ length made.keeps.made.methods.info

-- the answers where all is stored, by the package that the parts stand for and its world
abbrev pub TellsNew : ℕ → PackageRecord → Linked → CardWords → CardWords → Verdict → Type 0
TellsNew seed made w before after (Done text) = IsTold seed made w after (string_bytes text)
TellsNew seed made w before after Memory = IsKeptOrBegun w before after
TellsNew seed made w before after _ = ⊥

-- the same by the parts
abbrev pub TellsParts : ℕ → Linked → List Lent → CardWords → CardWords → Verdict → Type 0
TellsParts seed w parts before after verdict =
    (made : IsTransformed (generated seed) roles w parts) × TellsNew seed made.keeps.made made.keeps.world before after verdict
