-- A loader with one byte more stands for its bytes and that one.
use Rattle.std.proofs.Common.{◌≡◌, ℕ, ◌+◌, ◌<◌, ◌≤◌, List, [], ◌∷◌, ◌++◌, length, take, drop, get_or, Option, Some}
use Rattle.std.proofs.Common.{None, refl, sym, ap, subst, ◌∙◌, arith, length-append, append_assoc}
use Rattle.std.proofs.lemmas.Bool.{eqb-true, eqb-false, cond_both}
use Rattle.std.proofs.lemmas.List.{take-append-drop, take_more}
use Rattle.cap_load.specs.declared.fault.StreamFault.{StreamFault}
use Rattle.cap_load.specs.declared.component.Reading.{Reading}
use Rattle.cap_load.specs.declared.loader.Block.{Block}
use Rattle.cap_load.specs.declared.loader.Block.TheVariants.{Left}
use Rattle.cap_load.specs.Fault.{number, Shows, Faultless, IsFirst}
use Rattle.cap_load.specs.Loaded.{Loaded, IsFront, IsRead, StandsBy, StandsFor}
use Rattle.cap_load.specs.Taking.{fault_by, moved_by, taken_by, taken}
use Rattle.cap_load.proofs.Faults.{behind, before, same, places}
use Rattle.cap_load.proofs.Fronts.{front_open, front_more}
use Rattle.cap_load.proofs.Shown.{Finds, finds}

-- the first fault stays, whatever follows
pub first_more : (room : ℕ) (bytes more : List ℕ) (fault : StreamFault) → IsFirst room bytes fault → IsFirst room (bytes ++ more) fault
first_more room bytes more fault f = grind (arith, append_assoc)

faultless_more : (room : ℕ) (bytes : List ℕ) (byte : ℕ) → Faultless room bytes → ((fault : StreamFault) → Shows room bytes byte fault → ⊥)
    → Faultless room (bytes ++ byte ∷ [])
faultless_more room bytes byte none here front after b fault e shown =
    elim (places bytes front byte b [] after e) [
      | behind m h ↦
          let long = ap length e in
          let long_front = ap length h in
          omega (arith, length-append bytes (byte ∷ []), length-append front (b ∷ after), length-append bytes (byte ∷ m))
      | before m h ↦ none front m b fault h shown
      | same h k ↦ here fault (subst (λ (x : List ℕ). Shows room x byte fault) (sym h) (subst (λ (x : ℕ). Shows room front x fault) (sym k) shown))
    ]

found_first : (room : ℕ) (bytes : List ℕ) (byte : ℕ) (fault : StreamFault) → Faultless room bytes → Finds room bytes byte (Some fault)
    → IsFirst room (bytes ++ byte ∷ []) fault
found_first room bytes byte fault none f = record {
  before = bytes;
  byte = byte;
  after = [];
  whole = refl;
  shown = f.sound fault refl;
  first = none;
  least = least;
}
  where
    least : (other : StreamFault) → Shows room bytes byte other → number fault ≤ number other
    least other shown =
        let found = f.least other shown in
        let is : found.0 ≡ fault = let e = found.1 in cc in
        subst (λ (g : StreamFault). number g ≤ number other) is found.2

kept_fault : (n : ℕ) (loaded : Loaded) (byte : ℕ) → let moved : Loaded =
    moved_by (Left n) loaded byte in (moved.fault ≡ loaded.fault) × (moved.room ≡ loaded.room)
kept_fault n loaded byte = grind (arith, cond_both)

stands_at : (loaded : Loaded) (bytes : List ℕ) → loaded.fault ≡ None → Faultless loaded.room bytes → IsFront loaded.block bytes loaded.contents
    → StandsFor loaded bytes
stands_at loaded bytes e none f = subst (λ (o : Option StreamFault). StandsBy o loaded bytes) (sym e) (none, f)

moved_stands : (at : Block) (loaded : Loaded) (bytes : List ℕ) (byte : ℕ) → loaded.fault ≡ None → byte < 256 → fault_by at loaded byte ≡ None
    → Faultless loaded.room (bytes ++ byte ∷ []) → IsFront at bytes loaded.contents → StandsFor (moved_by at loaded byte) (bytes ++ byte ∷ [])
moved_stands x loaded bytes byte e few found none f = grind (arith, kept_fault, cond_both, front_open, eqb-true, eqb-false, front_more)

taken_by_stands : (found : Option StreamFault) (loaded : Loaded) (bytes : List ℕ) (byte : ℕ) → loaded.fault ≡ None → byte < 256
    → Faultless loaded.room bytes → IsFront loaded.block bytes loaded.contents → Finds loaded.room bytes byte found
    → fault_by loaded.block loaded byte ≡ found → StandsFor (taken_by found loaded byte) (bytes ++ byte ∷ [])
taken_by_stands x loaded bytes byte e few none f s is = grind (arith, moved_stands, faultless_more, found_first)

pub taken_stands : (loaded : Loaded) (bytes : List ℕ) (byte : ℕ) → byte < 256 → IsRead loaded.contents loaded.reading → StandsFor loaded bytes
    → StandsFor (taken loaded byte) (bytes ++ byte ∷ [])
unfolding taken
taken_stands loaded bytes byte few r s = grind (arith, taken_by_stands, finds, first_more)

-- ---- pieces

-- after a fault nothing that follows matters
pub stands_on : (loaded : Loaded) (bytes more : List ℕ) (fault : StreamFault) → loaded.fault ≡ Some fault → StandsFor loaded bytes
    → StandsFor loaded (bytes ++ more)
stands_on loaded bytes more fault e s = grind (arith, first_more)

-- the next byte of a piece
pub piece_step : (loaded new : Loaded) (bytes piece : List ℕ) (i : ℕ) → i < length piece → get_or piece i 0 < 256
    → IsRead loaded.contents loaded.reading → new ≡ taken loaded (get_or piece i 0) → StandsFor loaded (bytes ++ take i piece)
    → StandsFor new (bytes ++ take (i + 1) piece)
piece_step loaded new bytes piece i h few r e s =
    let byte : ℕ = get_or piece i 0 in
    let after : StandsFor (taken loaded byte) ((bytes ++ take i piece) ++ byte ∷ []) = taken_stands loaded (bytes ++ take i piece) byte few r s in
    let regrouped : (bytes ++ take i piece) ++ byte ∷ [] ≡ bytes ++ take (i + 1) piece =
    append_assoc bytes (take i piece) (byte ∷ []) ∙ ap (λ (x : List ℕ). bytes ++ x) (sym (take_more piece i 0 h)) in
    subst (λ (l : Loaded). StandsFor l (bytes ++ take (i + 1) piece)) (sym e)
    (subst (λ (x : List ℕ). StandsFor (taken loaded byte) x) regrouped after)

-- a fault at a byte of a piece
pub piece_end : (new : Loaded) (bytes piece : List ℕ) (i : ℕ) (fault : StreamFault) → new.fault ≡ Some fault
    → StandsFor new (bytes ++ take i piece) → StandsFor new (bytes ++ piece)
piece_end new bytes piece i fault e s =
    let regrouped : (bytes ++ take i piece) ++ drop i piece ≡ bytes ++ piece =
    append_assoc bytes (take i piece) (drop i piece) ∙ ap (λ (x : List ℕ). bytes ++ x) (take-append-drop i piece) in
    subst (λ (x : List ℕ). StandsFor new x) regrouped (stands_on new (bytes ++ take i piece) (drop i piece) fault e s)

pub taken_room : (loaded : Loaded) (byte : ℕ) → (taken loaded byte).room ≡ loaded.room
unfolding taken
taken_room loaded byte = grind (arith, kept_fault)

-- a loader that took nothing
nothing_shown : (room : ℕ) → Faultless room []
nothing_shown room front rest byte fault whole shown = let long = ap length whole in omega (arith, length-append front (byte ∷ rest))

pub new_stands : (room : ℕ) (contents : List ℕ) (reading : Reading) → contents ≡ []
    → (let loaded : Loaded = record { room = room; contents = contents; block = Left 0; reading = reading; fault = None } in StandsFor loaded [])
new_stands room contents reading none = grind (arith, nothing_shown)
