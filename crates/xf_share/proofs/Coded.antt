-- A method with code: its numbers, the symbols with these, and what is laid for them.
use Rattle.std.proofs.Common.{◌≡◌, ℕ, ◌+◌, ◌<◌, ◌≤◌, List, [], ◌∷◌, length, drop, All, Option, Some, None, Result, Err}
use Rattle.std.proofs.Common.{IsSomeAnd, refl, sym, subst, arith, length-drop}
use Rattle.std.proofs.lemmas.List.{length-map}
use Rattle.std.proofs.lemmas.Option.{slice_get-get_or}
use Rattle.jc_base.specs.Linked.{IsMethod}
use Rattle.jc_base.specs.World.{Linked, IsWorld}
use Rattle.jc_base.proofs.Lists.{All-slice_get}
use Rattle.jc_control.specs.Method.{Method, IsMethodOf, method_in}
use Rattle.jc_control.specs.WellFormed.{IsWellFormed}
use Rattle.jc_decode.specs.declared.insn.Placed.{Placed}
use Rattle.jc_decode.specs.declared.symbols.Laid.{Laid}
use Rattle.jc_decode.specs.declared.symbols.Symbols.{Symbols}
use Rattle.jc_decode.specs.Laws.{InstructionsAreListed}
use Rattle.jc_decode.specs.Listing.{listing}
use Rattle.jc_decode.specs.Symbols.{IsItem, IsRange, plain_size}
use Rattle.law_renumbered.specs.Numbers.{AreNumbersOf, numbers_kept, numbers_shared}
use Rattle.law_share.specs.Laws.{RegistersAreNoMore}
use Rattle.law_shared_world.specs.SharedCode.{IsSharedFor}
use Rattle.xf_allot.specs.declared.sharing.Sharing.{Sharing}
use Rattle.xf_allot.specs.Sharing.{AnswersSharing}
use Rattle.xf_allot.proofs.Subjects.{its-count}
use Rattle.xf_layout.specs.declared.laying.LayEnd.{LayEnd}
use Rattle.xf_layout.specs.declared.laying.LayEnd.TheVariants.{MethodLong, Memory}
use Rattle.xf_layout.specs.Shortest.{ReachesTooFar, StandsShortest}
use Rattle.xf_share.specs.Numbering.{IsReadable, IsRenumbered, locals_of, number_of}
use Rattle.xf_last.specs.Fits.{FitsMethod}
use Rattle.xf_share.specs.Unlaid.{IsSharedLong, TellsUnlaid}
use Rattle.xf_share.proofs.Fitting.{items-suit, ranges-suit, size-small}
use Rattle.xf_share.proofs.Labels.{Rises, listing-rises}
use Rattle.xf_share.proofs.Placing.{filled, inside}

-- ---- numbers

pub numbers-of : (w : Linked) (m : Method) (s : Option Sharing) → AnswersSharing w m s → AreNumbersOf w m (number_of s) (locals_of m.rec s)
numbers-of w m None kept = numbers_kept kept (λ x. refl)
numbers-of w m (Some s) shares =
    numbers_shared shares.given shares.is
    (λ x lt. shares.numbered x (number_of (Some s) x) (slice_get-get_or s.numbers.items x 0 (let count = shares.count in omega (arith, count, lt))))

few-registers : (w : Linked) → IsWorld w → RegistersAreNoMore → (m : Method) → IsMethodOf w m → (s : Option Sharing) → AnswersSharing w m s
    → m.rec.nargs + locals_of m.rec s ≤ 255
few-registers w world fewer m is None kept = (All-slice_get (IsMethod w.infos w.pools w.classes) w.methods m.number m.rec world.methods is.rec).registers
few-registers w world fewer m is (Some s) shares =
    let own = (All-slice_get (IsMethod w.infos w.pools w.classes) w.methods m.number m.rec world.methods is.rec).registers in
    let count = its-count w world m is shares.is.regs shares.is.typed.stacks shares.is.typed.typing in
    let long = length-drop m.rec.nargs shares.is.regs in
    let end = fewer w m (drop m.rec.nargs shares.is.regs) shares.is.variables shares.given shares.is.are shares.is.allotted in
    let size = shares.is.size in
    omega (arith, own, count, long, end, size)

-- ---- symbols

pub readable-of : InstructionsAreListed → (m : Method) → length m.code ≤ 32767 → IsWellFormed m → IsReadable m.code
readable-of listed m short formed = record { short = short; listed = listed m.code; leads = formed.targets }

module _ (listed : InstructionsAreListed) (w : Linked) (m : Method) (s : Option Sharing) (symbols : Symbols) (known : IsRenumbered w m s symbols)
  where
    readable : IsReadable m.code
    readable = readable-of listed m known.short known.formed

    pub symbols-items : All (IsItem m.code symbols.items) symbols.items
    symbols-items = grind (arith, items-suit, readable)

    pub symbols-ranges : All (IsRange symbols.items) symbols.ranges
    symbols-ranges =
        subst (λ (y : Symbols). All (IsRange y.items) y.ranges) (sym known.are)
        (ranges-suit m.code (number_of s) readable known.formed.ends m.rec.handlers known.formed.handlers)

    pub symbols-small : plain_size symbols.items ≤ 458738
    symbols-small = grind (arith, size-small, readable)

    -- ---- what is laid

    pub shared-for : (laid : Laid) → StandsShortest m.code symbols laid → length laid.code ≤ 32767 → IsSharedFor w m laid
    shared-for laid stands short = grind (arith, numbers-of)

    some-listed : (ps : List Placed) → Rises 0 (length m.code) ps → 0 < length m.code → 0 < length ps
    some-listed [] r some = absurd (omega (arith, r, some))
    some-listed (i ∷ is) r some = omega arith

    has-instruction : 0 < length (listing m.code)
    has-instruction = some-listed (listing m.code) (listing-rises m.code (listed m.code) known.formed.ends) known.method.filled

    pub fits : IsWorld w → RegistersAreNoMore → (laid : Laid) → StandsShortest m.code symbols laid → length laid.code ≤ 32767
        → FitsMethod m.rec laid
    fits world fewer laid stands short = grind (arith, few-registers, length, length-map, filled, has-instruction, inside)

    too-long : (k : ℕ) → ReachesTooFar symbols.items → k ≡ plain_size symbols.items → IsSharedLong w k m
    too-long k long size = grind (arith, numbers-of w m s known.answers)

    pub long-told : (n : ℕ) → ((P : Method → Type 0) → P m → IsSomeAnd (method_in w n) P) → (end : LayEnd)
        → ((k : ℕ) → ◌≡◌ {A = Result Laid LayEnd} (Err end) (Err (MethodLong k)) → ReachesTooFar symbols.items × (k ≡ plain_size symbols.items))
        → TellsUnlaid w n end
    long-told n to (MethodLong k) long = let told = long k refl in to (IsSharedLong w k) (too-long k told.0 told.1)
    long-told n to Memory long = tt {0}
