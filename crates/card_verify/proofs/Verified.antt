-- What the verifier over an index answers.
use Rattle.std.proofs.Common.{◌≡◌, ℕ, ◌+◌, ◌*◌, ◌≤◌, List, length, All, Contains, Result, Ok, Err, IsErr, OnOk, OnErr, IfErr, refl}
use Rattle.std.proofs.Common.{sym, subst, arith}
use Rattle.std.specs.Prelude.{ℤ, pos, negsuc}
use Rattle.std.proofs.lemmas.List.Elements.{All-contains, All-weaker}
use Rattle.jc_base.specs.Index.{IsAscending}
use Rattle.jc_base.specs.declared.ty.Ty.{Ty}
use Rattle.jc_base.specs.World.{Linked}
use Rattle.jc_base.proofs.Lists.{All-slice_get}
use Rattle.jc_decode.specs.Listing.{listing, listing_end, targets}
use Rattle.jc_decode.specs.Laws.{InstructionsAreListed}
use Rattle.jc_decode.specs.declared.insn.Placed.{Placed}
use Rattle.jc_decode.proofs.Elements.{Contains-slice_get}
use Rattle.jc_control.specs.Method.{Method, IsMethodOf}
use Rattle.jc_control.specs.WellFormed.{IsPlace, IsTargetPlace, IsHandlerOf, IsWellFormed}
use Rattle.jc_control.specs.declared.control.Flaw.{Flaw}
use Rattle.jc_rules.specs.Demand.{Frame}
use Rattle.jc_rules.specs.Apply.{frame_of}
use Rattle.card_typing.specs.declared.fault.CardFault.{CardFault}
use Rattle.card_typing.specs.declared.fault.CardKind.{CardKind}
use Rattle.card_typing.specs.Place.{IsTarget}
use Rattle.card_typing.specs.Typing.{IsLeastOver, IsLeastCardTyping}
use Rattle.card_typing.specs.Laws.{FlawsAreTold}
use Rattle.card_typing.specs.Refusal.{IsWrong, IsRefusedAfter, refused_at}
use Rattle.card_typing.specs.Refusal.{refused_flaw, fault_of}
use Rattle.card_typing.proofs.Below.{fault-kind}
use Rattle.card_typing.proofs.Fewer.{typing-fewer}
use Rattle.card_verify.specs.Answers.{TellsFlaw}
use Rattle.card_verify.specs.Counted.{instruction_count, most_passes, AreCountedBeside, AreCountedUpTo}
use Rattle.card_verify.proofs.Costs.{whole-bound}
use Rattle.card_verify.specs.declared.scan.Lacking.{Lacking}
use Rattle.card_verify.specs.Bound.{AreCounted, AreCountedBy, entries_read, target_count, step_bound}
use Rattle.card_verify.specs.IndexTyping.{IsIndex, HasIndexTyping}
use Rattle.card_verify.specs.Lacking.{IsPlaceNumber, IsNotIndexed}
use Rattle.card_verify.specs.OverIndex.{RefusalDeniesOver}
use Rattle.card_verify.specs.Refusal.{IsListedTarget, LeadsToListed, IsFirstLacking, IsFormKind, IsRefusedOver, over_flaw, over_entry, over_target, over_state}
use Rattle.card_verify.proofs.Denying.{no-bad, lacking-target}

-- ---- the form of the method and the index

-- an index of places in ascending order, in which every target is listed, is one
pub whole-index : (m : Method) (index : List ℕ) → IsAscending index → All (IsPlace m.code) index → All (LeadsToListed m.code index) (listing m.code)
    → IsIndex m index
whole-index m index up places leads = grind (arith)

-- a method whose targets are all listed by places of instructions is well formed where the rest of it is
pub formed-by : (m : Method) (index : List ℕ) → listing_end m.code ≡ length m.code → All (IsHandlerOf m.code) m.rec.handlers
    → All (IsPlace m.code) index → All (LeadsToListed m.code index) (listing m.code) → IsWellFormed m
formed-by m index ends handlers places leads = record {
  ends = ends;
  targets =
      λ i there. All-weaker (IsListedTarget index) (IsTargetPlace m.code) place-of (targets m.code i)
      (All-contains (LeadsToListed m.code index) (listing m.code) i leads there);
  handlers = handlers;
}
  where
    place-of : (t : ℤ) → IsListedTarget index t → IsTargetPlace m.code t
    place-of (pos q) c = All-contains (IsPlace m.code) index q places c
    place-of (negsuc n) c = c

-- ---- what a flaw tells

flaw-form : (flaw : Flaw) → IsFormKind (fault_of flaw).kind
flaw-form x = grind (arith)

pub form-of-flaw : (m : Method) (fault : CardFault) → TellsFlaw m fault → IsFormKind fault.kind
form-of-flaw m fault t = subst (λ (f : CardFault). IsFormKind f.kind) (sym t.2) (flaw-form t.0)

pub form-flawed : (m : Method) (r : Result (Unit {0}) CardFault) → IfErr r (λ (fault : CardFault). TellsFlaw m fault)
    → IfErr r (λ (fault : CardFault). IsFormKind fault.kind)
form-flawed m x h = grind (arith, form-of-flaw)

flaw-reads : (entries : ℕ) (flaw : Flaw) → entries_read entries (fault_of flaw).kind ≡ 0
flaw-reads entries x = grind (arith)

-- no entry is read before a flaw is told
pub reads-of-flaw : (m : Method) (entries most : ℕ) (fault : CardFault) → TellsFlaw m fault → entries_read entries fault.kind ≤ most
reads-of-flaw m entries most fault t = grind (arith, flaw-reads)

pub reads-flawed : (m : Method) (entries most : ℕ) (r : Result (Unit {0}) CardFault) → IfErr r (λ (fault : CardFault). TellsFlaw m fault)
    → IfErr r (λ (fault : CardFault). entries_read entries fault.kind ≤ most)
reads-flawed m entries most x h = grind (arith, reads-of-flaw)

-- ---- refusals

module _ (w : Linked) (m : Method) (index : List ℕ) where
  pub over-of-flaw : (fault : CardFault) → TellsFlaw m fault → (kept : Frame) → IsRefusedOver w m index fault kept
  over-of-flaw fault t kept = subst (λ (f : CardFault). IsRefusedOver w m index f kept) (sym t.2) (over_flaw t.0 kept t.1)

  pub over-flawed : (r : Result (Unit {0}) CardFault) → IfErr r (λ (fault : CardFault). TellsFlaw m fault)
      → IfErr r (λ (fault : CardFault). (kept : Frame) → IsRefusedOver w m index fault kept)
  over-flawed x h = grind (arith, over-of-flaw)

  -- the number of a target that is lacked
  by-target : (place : ℕ) (t : ℤ) → IsWellFormed m → IsFirstLacking m.code index place t → IsTargetPlace m.code t
  by-target place t formed first =
      All-slice_get (IsTargetPlace m.code) (targets m.code first.from) first.target_number t
      (formed.targets first.from (Contains-slice_get (listing m.code) first.number first.from first.instruction.here)) first.lacks.here

  number-of : (t : ℤ) → InstructionsAreListed → length m.code ≤ 32767 → IsTargetPlace m.code t → IsPlaceNumber t
  number-of (pos q) ordered short place =
      let inside = (ordered m.code).inside place.0 place.1 in
      omega (arith, inside, short, place.2)
  number-of (negsuc n) ordered short place = place

  pub lacking-number : (f : Lacking) → InstructionsAreListed → length m.code ≤ 32767 → IsWellFormed m
      → IsFirstLacking m.code index f.place f.target → IsPlaceNumber f.target
  lacking-number f ordered short formed first = number-of f.target ordered short (by-target f.place f.target formed first)

  over-by : (f : Lacking) (fault : CardFault) (t : ℤ) → f.target ≡ t → IsWellFormed m → IsAscending index → All (IsPlace m.code) index
      → IsFirstLacking m.code index f.place t → IsTargetPlace m.code t → IsNotIndexed f fault → (kept : Frame)
      → IsRefusedOver w m index fault kept
  over-by f fault (pos q) e formed up places first place told kept =
      subst (λ (g : CardFault). IsRefusedOver w m index g kept) (sym (told q e)) (over_target f.place q kept formed up places first)
  over-by f fault (negsuc n) e formed up places first place told kept = absurd place

  pub over-of-lacking : (f : Lacking) (fault : CardFault) → IsWellFormed m → IsAscending index → All (IsPlace m.code) index
      → IsFirstLacking m.code index f.place f.target → IsNotIndexed f fault → (kept : Frame) → IsRefusedOver w m index fault kept
  over-of-lacking f fault formed up places first told kept =
      over-by f fault f.target refl formed up places first (by-target f.place f.target formed first) told kept

  form-by : (f : Lacking) (fault : CardFault) (t : ℤ) → f.target ≡ t → IsTargetPlace m.code t → IsNotIndexed f fault → IsFormKind fault.kind
  form-by f fault x e place told = grind (arith)

  pub form-of-lacking : (f : Lacking) (fault : CardFault) → IsWellFormed m → IsFirstLacking m.code index f.place f.target → IsNotIndexed f fault
      → IsFormKind fault.kind
  form-of-lacking f fault formed first told = form-by f fault f.target refl (by-target f.place f.target formed first) told

  reads-by : (f : Lacking) (fault : CardFault) (entries : ℕ) (t : ℤ) → f.target ≡ t → IsTargetPlace m.code t → IsNotIndexed f fault
      → entries_read entries fault.kind ≤ entries
  reads-by f fault entries x e place told = grind (arith)

  pub reads-of-lacking : (f : Lacking) (fault : CardFault) (entries : ℕ) → IsWellFormed m → IsFirstLacking m.code index f.place f.target
      → IsNotIndexed f fault
      → entries_read entries fault.kind ≤ entries
  reads-of-lacking f fault entries formed first told = reads-by f fault entries f.target refl (by-target f.place f.target formed first) told

  pub none-over : (regs stack : List Ty) (r : Result (Unit {0}) CardFault) → RefusalDeniesOver w → IsMethodOf w m
      → IfErr r (λ (fault : CardFault). IsRefusedOver w m index fault (frame_of regs stack fault.depth)) → OnErr r (¬ (HasIndexTyping w m index))
  none-over regs stack x denies mo h = grind (arith)

  -- where the method is well formed and the index is one of it, no refusal tells its form
  wrong-never : (i : Placed) (before : Frame) (kind : CardKind) (kept : Frame) → IsWrong w m (Contains index) i before kind kept → ¬ (IsFormKind kind)
  wrong-never i before x x2 x22 h = grind (arith)

  state-never : (visits : ℕ) (fault : CardFault) (kept : Frame) → IsRefusedAfter w m (Contains index) visits fault kept → ¬ (IsFormKind fault.kind)
  state-never visits _ _ (refused_at i before kept kind there met wrong) h = wrong-never i before kind kept wrong h

  form-never : (fault : CardFault) (kept : Frame) → FlawsAreTold w → IsWellFormed m → IsIndex m index → IsRefusedOver w m index fault kept
      → ¬ (IsFormKind fault.kind)
  form-never _ _ told formed whole (over_flaw flaw kept first) h = (told m (fault_of flaw) kept (refused_flaw flaw kept first)).0 (fault-kind flaw) formed
  form-never _ _ told formed whole (over_entry k kept f first) h = no-bad m index whole.ascending whole.places k first.bad
  form-never _ _ told formed whole (over_target place q kept f up places first) h = first.lacks.fails (whole.complete q (lacking-target m index place q first))
  form-never _ _ told formed whole (over_state fault kept f is state) h = state-never state.visits fault kept state.after h

  pub kept-over : (regs stack : List Ty) (r : Result (Unit {0}) CardFault) (P : Type 0) → FlawsAreTold w → IsWellFormed m → IsIndex m index
      → IfErr r (λ (fault : CardFault). IsRefusedOver w m index fault (frame_of regs stack fault.depth))
      → IfErr r (λ (fault : CardFault). IsFormKind fault.kind → P)
  kept-over regs stack x x2 told formed whole h = grind (arith, form-never)

  -- ---- the bound

  pub bound-whole : (b : ℕ) → length index + target_count m * b + most_passes w m * (instruction_count m * (b + 1)) ≡ step_bound w m (length index) b
  bound-whole b = whole-bound (most_passes w m) (instruction_count m) (target_count m) b (length index)

-- ---- the typing

module _ (w : Linked) (m : Method) (index : List ℕ) (whole : IsIndex m index) (regs : List Ty) (least : IsLeastOver w m (Contains index) regs) where
  pub typed-over : HasIndexTyping w m index
  typed-over = record { regs = regs; stacks = least.stacks; typing = record { typing = least.typing; indexed = whole } }

  pub least-over : IsLeastCardTyping w m regs
  least-over = grind (arith, typing-fewer w m (Contains index) (IsTarget m) whole.complete regs least.stacks least.typing)

-- a refusal of the types
pub refused-over :
    (w : Linked) (m : Method) (index : List ℕ) (regs stack : List Ty) (before after : ℕ) → IsWellFormed m → IsIndex m index
    → (r : Result (Unit {0}) CardFault)
    → IfErr r (λ (fault : CardFault). AreCountedUpTo w m (Contains index) fault (frame_of regs stack fault.depth) 0 before after)
    → IfErr r (λ (fault : CardFault). IsRefusedOver w m index fault (frame_of regs stack fault.depth))
refused-over w m index regs stack before after formed whole (Ok t) h = tt
refused-over w m index regs stack before after formed whole (Err fault) h =
    over_state fault (frame_of regs stack fault.depth) formed whole (record { visits = h.visits; after = h.refused })

-- ---- answers

pub not-ok : (P : Type 0) (r : Result (Unit {0}) CardFault) → IsErr r → OnOk r P
not-ok x x2 h = grind (arith)

pub ok-always : (P : Type 0) (r : Result (Unit {0}) CardFault) → P → OnOk r P
ok-always x x2 h = grind (arith)

-- ---- what is counted

-- so many entries are read at the least
pub read-by : (entries most before after : ℕ) (r : Result (Unit {0}) CardFault) → before + most ≤ after
    → IfErr r (λ (fault : CardFault). entries_read entries fault.kind ≤ most)
    → IfErr r (λ (fault : CardFault). before + entries_read entries fault.kind ≤ after)
read-by entries most before after x read few = grind (arith)

-- once each entry of the index was read
module _ (w : Linked) (m : Method) (index : List ℕ) (sooner before after : ℕ) (read : sooner + length index ≤ before) where
  pub counted-sooner : (regs : List Ty) (r : Result (Unit {0}) CardFault) → OnOk r (AreCountedBeside w m (Contains index) regs 0 before after)
      → OnOk r (AreCounted w m index regs sooner after)
  counted-sooner regs x c = grind (arith)

  pub counted-by-state : (regs stack : List Ty) (r : Result (Unit {0}) CardFault)
      → IfErr r (λ (fault : CardFault). AreCountedUpTo w m (Contains index) fault (frame_of regs stack fault.depth) 0 before after)
      → IfErr r (λ (fault : CardFault). AreCountedBy w m index sooner after fault (frame_of regs stack fault.depth))
  counted-by-state regs stack x c = grind (arith)
