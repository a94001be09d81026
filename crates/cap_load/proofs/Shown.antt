-- The fault that a loader finds at a byte is the one of least number that the byte shows.
use Rattle.std.proofs.Common.{◌≡◌, ℕ, ◌≤◌, Bool, true, false, List, [], ◌∷◌, ◌++◌, length, map}
use Rattle.std.proofs.Common.{Option, Some, None, IsNone, is_none, refl, sym, ap, subst, ◌∙◌, arith, length-append, if◌then◌else◌}
use Rattle.std.proofs.lemmas.List.{append-nil, same_from_push}
use Rattle.std.proofs.lemmas.Bool.{leb-true, le-leb, cond-true, cond-false, eqb-true, eqb-false}
use Rattle.std.specs.Prelude.{nat_le, ◌==◌}
use Rattle.cap_components.specs.Parts.{Lent}
use Rattle.cap_load.specs.declared.fault.StreamFault.{StreamFault}
use Rattle.cap_load.specs.declared.fault.StreamFault.TheVariants.{NoTag, Order, Full, AfterEnd, Unfinished}
use Rattle.cap_load.specs.declared.component.Next.{Next}
use Rattle.cap_load.specs.declared.component.Next.TheVariants.{Tag, High, Low, Info}
use Rattle.cap_load.specs.declared.component.Reading.{Reading}
use Rattle.cap_load.specs.declared.loader.Block.{Block}
use Rattle.cap_load.specs.declared.loader.Block.TheVariants.{Left, Ended}
use Rattle.cap_load.specs.Order.{place, comes_before}
use Rattle.cap_load.specs.LoadFile.{tag_of, files_of}
use Rattle.cap_load.specs.Fault.{number, GoesOn, Begins, Follows, HasEnded, Shows}
use Rattle.cap_load.specs.Reading.{tag_fault, order_fault, shown, shown_by}
use Rattle.cap_load.specs.Loaded.{Loaded, IsNext, IsLast, IsFront, IsRead}
use Rattle.cap_load.specs.Taking.{content_fault, or_full, fault_by}
use Rattle.cap_load.proofs.Splits.{IsTail, files_split}
use Rattle.cap_load.proofs.Faults.{one_content, one_before}
use Rattle.cap_load.proofs.Readings.{tags_push}
use Rattle.cap_load.proofs.Fronts.{IsIdle, not_goes_on, not_ended, goes_not_ended, has_ended}

-- what is found is shown, and nothing of a lesser number is
pub record Finds (room : ℕ) (bytes : List ℕ) (byte : ℕ) (found : Option StreamFault) : Type 0 where
  pub sound : (fault : StreamFault) → found ≡ Some fault → Shows room bytes byte fault
  pub least : (other : StreamFault) → Shows room bytes byte other → (fault : StreamFault) × (found ≡ Some fault) × (number fault ≤ number other)

-- the same of the faults of a component's first byte
record FindsPart (room : ℕ) (bytes : List ℕ) (byte : ℕ) (found : Option StreamFault) : Type 0 where
  sound : (fault : StreamFault) → found ≡ Some fault → Shows room bytes byte fault
  small : (fault : StreamFault) → found ≡ Some fault → number fault ≤ 101
  least : (other : StreamFault) → number other ≤ 101 → Shows room bytes byte other → (fault : StreamFault) × (found ≡ Some fault)
      × (number fault ≤ number other)

-- ---- the first byte of a component

last_part : (files : List Lent) (front : List ℕ) (tag : ℕ) → map tag_of files ≡ front ++ tag ∷ []
    → (parts : List Lent) × (part : Lent) × (files ≡ parts ++ part ∷ []) × (tag ≡ part.part)
last_part [] [] tag e = absurd (cc)
last_part [] (x ∷ front) tag e = absurd (cc)
last_part (p ∷ []) [] tag e = ([], p, refl, cc)
last_part (p ∷ q ∷ ps) [] tag e = absurd (cc)
last_part (p ∷ ps) (x ∷ front) tag e =
    let rest : map tag_of ps ≡ front ++ tag ∷ [] = cc in
    let found = last_part ps front tag rest in
    (p ∷ found.0, found.1, ap (λ (x : List Lent). p ∷ x) found.2, found.3)

-- at the end of whole components
record AtStart (bytes : List ℕ) (last : Option ℕ) : Type 0 where
  files : List Lent
  begins : Begins bytes files
  is_last : IsLast last (map tag_of files)

follows : (bytes : List ℕ) (first : ℕ) → AtStart bytes (Some first) → Follows bytes first
follows bytes first s =
    let found = last_part s.files s.is_last.0 first s.is_last.1 in
    record { parts = found.0; last = found.1; begins = subst (Begins bytes) found.2 s.begins; is_last = found.3 }

last_is : (bytes : List ℕ) (last : Option ℕ) (first : ℕ) → AtStart bytes last → Follows bytes first → last ≡ Some first
last_is bytes None first s f =
    let files = one_before bytes s.files (f.parts ++ f.last ∷ []) s.begins f.begins in
    let none : map tag_of s.files ≡ [] = s.is_last in
    let tags : [] ≡ map tag_of f.parts ++ f.last.part ∷ [] = sym none ∙ ap (map tag_of) files ∙ tags_push f.parts f.last in
    absurd (let lengths = ap length tags in omega (arith, length-append (map tag_of f.parts) (f.last.part ∷ [])))
last_is bytes (Some tag) first s f =
    let files = one_before bytes s.files (f.parts ++ f.last ∷ []) s.begins f.begins in
    let tags : s.is_last.0 ++ tag ∷ [] ≡ map tag_of f.parts ++ f.last.part ∷ [] = sym s.is_last.1 ∙ ap (map tag_of) files
    ∙ tags_push f.parts f.last in
    ap Some ((same_from_push s.is_last.0 (map tag_of f.parts) tag f.last.part tags).1 ∙ sym f.is_last)

order_sound : (room : ℕ) (bytes : List ℕ) (byte : ℕ) (last : Option ℕ) (fault : StreamFault) → AtStart bytes last
    → order_fault last byte ≡ Some fault → Shows room bytes byte fault × (number fault ≤ 101)
order_sound room bytes byte None fault s e = absurd (cc)
order_sound room bytes byte (Some first) fault s e = by (comes_before first byte) refl
  where
    by : (b : Bool) → comes_before first byte ≡ b → Shows room bytes byte fault × (number fault ≤ 101)
    by true h = absurd (cc (e, h))
    by false h =
        let is : Order first byte ≡ fault = cc (e, h) in
        subst (λ (f : StreamFault). Shows room bytes byte f × (number f ≤ 101)) is ((refl, h, follows bytes first s), omega arith)

tag_sound : (room : ℕ) (bytes : List ℕ) (byte : ℕ) (last : Option ℕ) (fault : StreamFault) → AtStart bytes last
    → tag_fault last byte ≡ Some fault → Shows room bytes byte fault × (number fault ≤ 101)
unfolding tag_fault
tag_sound room bytes byte last fault s e = by (place byte) refl
  where
    by : (o : Option ℕ) → place byte ≡ o → Shows room bytes byte fault × (number fault ≤ 101)
    by None p =
        let nothing : Option ℕ = None in
        let found : (if is_none nothing then Some (NoTag byte) else order_fault last byte) ≡ Some fault =
        subst (λ (o : Option ℕ). (if is_none o then Some (NoTag byte) else order_fault last byte) ≡ Some fault) p e in
        let is : NoTag byte ≡ fault = cc (found) in
        subst (λ (f : StreamFault). Shows room bytes byte f × (number f ≤ 101)) is
        ((refl, subst (λ (o : Option ℕ). IsNone o) (sym p) refl, (s.files, s.begins)), omega arith)
    by (Some n) p = order_sound room bytes byte last fault s
        (subst (λ (o : Option ℕ). (if is_none o then Some (NoTag byte) else order_fault last byte) ≡ Some fault) p e)

no_place : (o : Option ℕ) → IsNone o → o ≡ None
no_place x h = grind (arith)

tag_least : (room : ℕ) (bytes : List ℕ) (byte : ℕ) (last : Option ℕ) (other : StreamFault) → AtStart bytes last → number other ≤ 101
    → Shows room bytes byte other → (fault : StreamFault) × (tag_fault last byte ≡ Some fault) × (number fault ≤ number other)
unfolding tag_fault
tag_least room bytes byte last (NoTag tag) s h shown =
    let none : place byte ≡ None = ap place (sym shown.0) ∙ no_place (place tag) shown.1 in
    (NoTag byte, ap (λ (o : Option ℕ). if is_none o then Some (NoTag byte) else order_fault last byte) none, omega arith)
tag_least room bytes byte last (Order first second) s h shown = by (place byte) refl
  where
    not_before : comes_before first byte ≡ false
    not_before = ap (comes_before first) (sym shown.0) ∙ shown.1

    by : (o : Option ℕ) → place byte ≡ o → (fault : StreamFault)
        × ((if is_none (place byte) then Some (NoTag byte) else order_fault last byte) ≡ Some fault) × (number fault ≤ 101)
    by None p = (NoTag byte, ap (λ (o : Option ℕ). if is_none o then Some (NoTag byte) else order_fault last byte) p, omega arith)
    by (Some n) p = (
      Order first byte,
      ap (λ (o : Option ℕ). if is_none o then Some (NoTag byte) else order_fault last byte) p
          ∙ ap (λ (l : Option ℕ). order_fault l byte) (last_is bytes last first s shown.2)
          ∙ ap (λ (b : Bool). if b then None else Some (Order first byte)) not_before,
      omega arith,
    )
tag_least room bytes byte last (Full n) s h shown = absurd (omega arith)
tag_least room bytes byte last AfterEnd s h shown = absurd (omega arith)
tag_least room bytes byte last Unfinished s h shown = absurd shown

tag_finds : (room : ℕ) (bytes : List ℕ) (byte : ℕ) (last : Option ℕ) → AtStart bytes last → FindsPart room bytes byte (tag_fault last byte)
tag_finds room bytes byte last s = record {
  sound = λ fault e. (tag_sound room bytes byte last fault s e).0;
  small = λ fault e. (tag_sound room bytes byte last fault s e).1;
  least = λ other h shown. tag_least room bytes byte last other s h shown;
}

-- ---- any byte of a component

pub tail_is : (next : Next) (tail : List ℕ) → IsNext next tail → IsTail tail
tail_is x tail n = grind (arith)

-- inside a component none begins
none_begins : (bytes contents : List ℕ) (reading : Reading) (parts : List Lent) (r : IsRead contents reading) → GoesOn bytes contents
    → (r.tail ≡ [] → ⊥) → Begins bytes parts → ⊥
none_begins bytes contents reading parts r g some b =
    let same : files_of parts ++ [] ≡ files_of r.files ++ r.tail = append-nil (files_of parts) ∙ one_content bytes (files_of parts) contents b.goes_on g
    ∙ r.whole in
    some (sym (files_split parts r.files [] r.tail b.each r.each (tt {0}) (tail_is reading.next r.tail r.next) same).1)

none_finds : (room : ℕ) (bytes : List ℕ) (byte : ℕ) → ((parts : List Lent) → Begins bytes parts → ⊥) → FindsPart room bytes byte None
none_finds room bytes byte none = record {
  sound = λ fault e. absurd (cc);
  small = λ fault e. absurd (cc);
  least = least;
}
  where
    least : (other : StreamFault) → number other ≤ 101 → Shows room bytes byte other → (fault : StreamFault) × (None ≡ Some fault)
        × (number fault ≤ number other)
    least (NoTag tag) h shown = absurd (none shown.2.0 shown.2.1)
    least (Order first second) h shown = absurd (none (shown.2.parts ++ shown.2.last ∷ []) shown.2.begins)
    least (Full n) h shown = absurd (omega arith)
    least AfterEnd h shown = absurd (omega arith)
    least Unfinished h shown = absurd shown

finds_by : (next : Next) (last : Option ℕ) (room : ℕ) (bytes contents : List ℕ) (byte : ℕ) → IsRead contents (record { last = last; next = next })
    → GoesOn bytes contents → FindsPart room bytes byte (shown_by next last byte)
finds_by Tag last room bytes contents byte r g = grind (arith, append-nil, tag_finds)
finds_by High last room bytes contents byte r g = none_finds room bytes byte (λ parts b.
    none_begins bytes contents (record { last = last; next = High }) parts r g (λ e. let t = r.next.1 in absurd (cc)) b)
finds_by (Low high) last room bytes contents byte r g = none_finds room bytes byte (λ parts b.
    none_begins bytes contents (record { last = last; next = Low high }) parts r g (λ e. let t = r.next.1 in absurd (cc)) b)
finds_by (Info left) last room bytes contents byte r g = none_finds room bytes byte (λ parts b.
    none_begins bytes contents (record { last = last; next = Info left }) parts r g (λ e. let t = r.next.4 in absurd (cc)) b)

-- ---- the room

full_sound : (loaded : Loaded) (bytes : List ℕ) (byte : ℕ) (found : Option StreamFault) → GoesOn bytes loaded.contents
    → FindsPart loaded.room bytes byte found → (fault : StreamFault) → or_full found loaded ≡ Some fault → Shows loaded.room bytes byte fault
full_sound loaded bytes byte (Some f) g p fault e = p.sound fault e
full_sound loaded bytes byte None g p fault e = by (nat_le loaded.room (length loaded.contents)) refl
  where
    by : (b : Bool) → nat_le loaded.room (length loaded.contents) ≡ b → Shows loaded.room bytes byte fault
    by true h =
        let is : Full loaded.room ≡ fault = cc (e, h) in
        subst (Shows loaded.room bytes byte) is (refl, (loaded.contents, g, leb-true loaded.room (length loaded.contents) h))
    by false h = absurd (cc (e, h))

full_least : (loaded : Loaded) (bytes : List ℕ) (byte : ℕ) (found : Option StreamFault) → GoesOn bytes loaded.contents
    → FindsPart loaded.room bytes byte found → (other : StreamFault) → Shows loaded.room bytes byte other
    → (fault : StreamFault) × (or_full found loaded ≡ Some fault) × (number fault ≤ number other)
full_least loaded bytes byte found g p (NoTag tag) shown =
    let part = p.least (NoTag tag) (omega arith) shown in
    (part.0, ap (λ (f : Option StreamFault). or_full f loaded) part.1, part.2)
full_least loaded bytes byte found g p (Order first second) shown =
    let part = p.least (Order first second) (omega arith) shown in
    (part.0, ap (λ (f : Option StreamFault). or_full f loaded) part.1, part.2)
full_least loaded bytes byte (Some f) g p (Full n) shown = (f, refl, let small = p.small f refl in omega arith)
full_least loaded bytes byte None g p (Full n) shown =
    let same : shown.1.0 ≡ loaded.contents = one_content bytes shown.1.0 loaded.contents shown.1.1 g in
    let full : loaded.room ≤ length loaded.contents = subst (λ (c : List ℕ). loaded.room ≤ length c) same shown.1.2 in
    (Full loaded.room, ap (λ (b : Bool). if b then Some (Full loaded.room) else None) (le-leb loaded.room (length loaded.contents) full), omega arith)
full_least loaded bytes byte found g p AfterEnd shown = absurd (goes_not_ended bytes loaded.contents g shown)
full_least loaded bytes byte found g p Unfinished shown = absurd shown

content_finds : (loaded : Loaded) (bytes : List ℕ) (byte : ℕ) → IsRead loaded.contents loaded.reading → GoesOn bytes loaded.contents
    → Finds loaded.room bytes byte (content_fault loaded byte)
unfolding content_fault
content_finds loaded bytes byte r g =
    let part = finds_by loaded.reading.next loaded.reading.last loaded.room bytes loaded.contents byte r g in
    record {
      sound = full_sound loaded bytes byte (shown loaded.reading byte) g part;
      least = full_least loaded bytes byte (shown loaded.reading byte) g part;
    }

-- ---- any byte

idle_finds : (at : Block) (room : ℕ) (bytes contents : List ℕ) (byte : ℕ) → IsFront at bytes contents → IsIdle at → (HasEnded bytes → ⊥)
    → Finds room bytes byte None
idle_finds at room bytes contents byte f i none = record { sound = λ fault e. absurd (cc); least = least }
  where
    least : (other : StreamFault) → Shows room bytes byte other → (fault : StreamFault) × (None ≡ Some fault) × (number fault ≤ number other)
    least (NoTag tag) shown = absurd (not_goes_on at bytes contents (files_of shown.2.0) f i shown.2.1.goes_on)
    least (Order first second) shown = absurd (not_goes_on at bytes contents (files_of (shown.2.parts ++ shown.2.last ∷ [])) f i shown.2.begins.goes_on)
    least (Full n) shown = absurd (not_goes_on at bytes contents shown.1.0 f i shown.1.1)
    least AfterEnd shown = absurd (none shown)
    least Unfinished shown = absurd shown

ended_finds : (room : ℕ) (bytes contents : List ℕ) (byte : ℕ) → IsFront Ended bytes contents → Finds room bytes byte (Some AfterEnd)
ended_finds room bytes contents byte f = record { sound = sound; least = least }
  where
    sound : (fault : StreamFault) → Some AfterEnd ≡ Some fault → Shows room bytes byte fault
    sound fault e = let is : AfterEnd ≡ fault = cc in subst (Shows room bytes byte) is (has_ended bytes contents f)

    least : (other : StreamFault) → Shows room bytes byte other → (fault : StreamFault) × (Some AfterEnd ≡ Some fault) × (number fault ≤ number other)
    least (NoTag tag) shown = absurd (not_goes_on Ended bytes contents (files_of shown.2.0) f (tt {0}) shown.2.1.goes_on)
    least (Order first second) shown =
        absurd (not_goes_on Ended bytes contents (files_of (shown.2.parts ++ shown.2.last ∷ [])) f (tt {0}) shown.2.begins.goes_on)
    least (Full n) shown = absurd (not_goes_on Ended bytes contents shown.1.0 f (tt {0}) shown.1.1)
    least AfterEnd shown = (AfterEnd, refl, omega arith)
    least Unfinished shown = absurd shown

left_finds : (n : ℕ) (loaded : Loaded) (bytes : List ℕ) (byte : ℕ) (b : Bool) → (n == 0) ≡ b → IsFront (Left n) bytes loaded.contents
    → IsRead loaded.contents loaded.reading → Finds loaded.room bytes byte (fault_by (Left n) loaded byte)
left_finds n loaded bytes byte true e f r = subst (Finds loaded.room bytes byte) (sym (cond-true (n == 0) None (content_fault loaded byte) e))
    (idle_finds (Left n) loaded.room bytes loaded.contents byte f (eqb-true n 0 e) (not_ended n bytes loaded.contents f))
left_finds n loaded bytes byte false e f r = grind (arith, eqb-false, cond-false, content_finds)

pub finds : (at : Block) (loaded : Loaded) (bytes : List ℕ) (byte : ℕ) → IsFront at bytes loaded.contents
    → IsRead loaded.contents loaded.reading → Finds loaded.room bytes byte (fault_by at loaded byte)
finds Ended loaded bytes byte f r = ended_finds loaded.room bytes loaded.contents byte f
finds (Left n) loaded bytes byte f r = left_finds n loaded bytes byte (n == 0) refl f r
