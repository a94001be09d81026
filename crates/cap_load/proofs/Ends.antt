-- What a loader that met no fault answers at the end.
use Rattle.std.proofs.Common.{◌≡◌, ℕ, List, [], ◌∷◌, ◌++◌, Option, None, Result, Ok, Err, sym, ap}
use Rattle.std.proofs.Common.{subst, ◌∙◌, arith}
use Rattle.std.proofs.lemmas.List.{append-nil}
use Rattle.std.specs.List.{AllByRecursion, concat}
use Rattle.cap_components.specs.Parts.{Lent}
use Rattle.cap_load.specs.declared.fault.StreamFault.{StreamFault}
use Rattle.cap_load.specs.declared.fault.StreamFault.TheVariants.{Unfinished}
use Rattle.cap_load.specs.declared.fault.FinishEnd.{FinishEnd}
use Rattle.cap_load.specs.declared.fault.FinishEnd.TheVariants.{Fault, Memory}
use Rattle.cap_load.specs.declared.component.Next.TheVariants.{Tag}
use Rattle.cap_load.specs.declared.component.Reading.{Reading}
use Rattle.cap_load.specs.declared.loader.Block.{Block}
use Rattle.cap_load.specs.declared.loader.Block.TheVariants.{Left, Ended}
use Rattle.cap_load.specs.LoadFile.{IsBlock, stream_of, files_of, IsLoadFileWithin}
use Rattle.cap_load.specs.Fault.{HasEnded, IsUnfinished, IsFirst, IsRefused}
use Rattle.cap_load.specs.Loaded.{Loaded, IsFront, IsRead, StandsBy, StandsFor}
use Rattle.cap_load.specs.Finishing.{Finishes, Gives}
use Rattle.cap_load.proofs.Splits.{one_split, files_split}
use Rattle.cap_load.proofs.Fronts.{not_ended}
use Rattle.cap_load.proofs.Shown.{tail_is}
use Rattle.cap_load.proofs.Streams.{one_list, not_both}

stands_by : (loaded : Loaded) (bytes : List ℕ) (fault : Option StreamFault) → loaded.fault ≡ fault → StandsFor loaded bytes
    → StandsBy fault loaded bytes
stands_by loaded bytes fault e s = subst (λ (o : Option StreamFault). StandsBy o loaded bytes) e s

-- a stream has an ending
stream_ended : (bytes : List ℕ) (blocks : List (List ℕ)) → AllByRecursion IsBlock blocks → bytes ≡ stream_of blocks → HasEnded bytes
stream_ended bytes blocks each e = record { blocks = blocks; more = []; each = each; whole = e ∙ sym (append-nil (stream_of blocks)) }

pub ends_early : (loaded : Loaded) (n : ℕ) → loaded.fault ≡ None → loaded.block ≡ Left n → Finishes loaded (Err (Fault Unfinished))
ends_early loaded n e b bytes s =
    let stands = stands_by loaded bytes None e s in
    let front : IsFront (Left n) bytes loaded.contents = subst (λ (at : Block). IsFront at bytes loaded.contents) b stands.1 in
    (stands.0, λ blocks parts each files whole joined. not_ended n bytes loaded.contents front (stream_ended bytes blocks each whole))

cut : (bytes contents : List ℕ) (reading : Reading) → IsFront Ended bytes contents → (r : IsRead contents reading) → (r.tail ≡ [] → ⊥)
    → IsUnfinished bytes
cut bytes contents reading f r some blocks parts each files whole joined =
    let split = one_split f.blocks blocks (0 ∷ []) (0 ∷ []) f.each each (λ h. absurd (omega arith)) (λ h. absurd (omega arith))
    (sym (grind (arith)) ∙ whole) in
    let same : files_of parts ++ [] ≡ files_of r.files ++ r.tail =
    append-nil (files_of parts) ∙ sym joined ∙ ap concat (sym split.0) ∙ sym (grind (arith, append-nil)) ∙ r.whole in
    some (sym (files_split parts r.files [] r.tail files r.each (tt {0}) (tail_is reading.next r.tail r.next) same).1)

pub ends_cut : (loaded : Loaded) → loaded.fault ≡ None → loaded.block ≡ Ended → IsRead loaded.contents loaded.reading
    → (loaded.reading.next ≡ Tag → ⊥)
    → Finishes loaded (Err (Fault Unfinished))
ends_cut loaded e b r h bytes s =
    let stands = stands_by loaded bytes None e s in
    let front : IsFront Ended bytes loaded.contents = subst (λ (at : Block). IsFront at bytes loaded.contents) b stands.1 in
    (stands.0, cut bytes loaded.contents loaded.reading front r (grind (arith)))

first_refused : (room : ℕ) (bytes : List ℕ) (fault : StreamFault) → IsFirst room bytes fault → IsRefused room bytes fault
first_refused room bytes z f = grind (arith)

-- the answer is the one list of parts, where there is one
pub gives : (loaded : Loaded) (result : Result (List Lent) FinishEnd) (bytes : List ℕ) (parts : List Lent) → Finishes loaded result
    → StandsFor loaded bytes → IsLoadFileWithin loaded.room bytes parts → Gives parts result
gives loaded (Ok others) bytes parts f s w = one_list bytes parts others w.loads (f bytes s).loads
gives loaded (Err (Fault fault)) bytes parts f s w = not_both loaded.room bytes parts fault w (f bytes s)
gives loaded (Err Memory) bytes parts f s w = tt {0}
