-- Words of a typed state are that of one after each step, and its tests, which nothing makes, would all be passed.
use Rattle.std.proofs.Common.{◌≡◌, ℕ, ◌+◌, ◌<◌, ◌≤◌, Bool, true, false, if◌then◌else◌, List, [], ◌∷◌, length, map, reverse}
use Rattle.std.proofs.Common.{refl, sym, ap, ◌∙◌, subst, arith}
use Rattle.std.specs.Prelude.{ℤ, Option, Some, None, Ok, Err, All, IsSome, slice_get}
use Rattle.std.proofs.lemmas.Bool.{ltb-false}
use Rattle.std.proofs.lemmas.Bool.Decides.{nat_tests}
use Rattle.std.proofs.lemmas.List.{length-map, length-append, length-reverse}
use Rattle.std.proofs.lemmas.List.Elements.{All-nil, All-cons, All-head, All-tail, All-map}
use Rattle.jc_base.specs.declared.ty.Ty.{Ty}
use Rattle.jc_base.specs.declared.ty.Ty.TheVariants.{Bottom}
use Rattle.jc_base.specs.declared.record.MethodRec.{MethodRec}
use Rattle.jc_base.specs.Order.{IsKnown}
use Rattle.jc_base.specs.Linked.{IsMethod}
use Rattle.jc_base.specs.World.{Linked, IsWorld}
use Rattle.jc_base.proofs.Lists.{All-slice_get}
use Rattle.jc_decode.specs.declared.insn.Placed.{Placed}
use Rattle.jc_ops.specs.declared.fault.RuleFault.{RuleFault}
use Rattle.jc_ops.specs.declared.operation.Operation.{Operation}
use Rattle.jc_ops.specs.Resolve.{Resolves}
use Rattle.jc_ops.specs.Sound.{OperationsAreSound}
use Rattle.jc_rules.specs.Demand.{AreKnown}
use Rattle.jc_rules.specs.Footprint.{footprint, OperationLeaves}
use Rattle.vm_store.specs.declared.cell.Cell.{Cell}
use Rattle.vm_store.specs.Typing.{least_type}
use Rattle.vm_store.specs.Cells.{tagged, words, word_of}
use Rattle.vm_store.specs.State.{Frame, State, Object, IsRunning, map_frame, erased, top, without_top, register_count_of}
use Rattle.vm_store.specs.Objects.{kinds}
use Rattle.vm_store.specs.Value.{with_value}
use Rattle.vm_store.specs.Erasing.{StatesErase}
use Rattle.vm_step.specs.declared.ending.Value.{Value}
use Rattle.vm_step.specs.declared.ending.Ending.{Ending}
use Rattle.vm_step.specs.declared.ending.Fault.{Fault}
use Rattle.vm_step.specs.declared.ending.Fault.TheVariants.{StackFault, JumpFault}
use Rattle.vm_step.specs.Act.{Act, jumps, gives}
use Rattle.vm_step.specs.Methods.{of_method, code_at, instruction_at, max_stack_of}
use Rattle.vm_step.specs.Performed.{act}
use Rattle.vm_step.specs.Raising.{Outcome, running, ended}
use Rattle.vm_step.specs.Settled.{unless_fault, is_target_place, given_to, settled}
use Rattle.vm_step.specs.Step.{Fetches, Steps, unresolved, performs, performed}
use Rattle.vm_step.specs.Tests.{fault_before}
use Rattle.vm_act.specs.Reaches.{Reaches}
use Rattle.vm_check.specs.Shaped.{IsShaped, IsShapedFrame}
use Rattle.vm_check.specs.Machine.{KnowsTypes, KeepsShape, TestsReach, StepsStay, StepsEnd}
use Rattle.law_sound.specs.Frames.{Typings, types_of_frame, Standing, AreWaiting, result_of}
use Rattle.law_sound.specs.State.{IsTypedState}
use Rattle.law_sound.specs.Soundness.{AreTypings, IsTypedOutcome, StepsAreSafe}
use Rattle.law_erasure.specs.Erasure.{erased_act, erased_outcome, ActsErase, TypedStepsFollow, TypedStatesApply}
use Rattle.vm_run.specs.declared.known.Known.TheVariants.{Verified}
use Rattle.vm_run.specs.Known.{CanResume}
use Rattle.vm_run.specs.Verified.{AreVerified, IsVerified}
use Rattle.vm_offend.specs.Typed.{AreTypedWords}
use Rattle.vm_offend.proofs.Erased.{shaped-erased, finds-erased}
use Rattle.vm_offend.proofs.Jumping.{Stays, jumps-stay}

-- ---- what is kept

pub keeps-shape : (w : Linked) → KeepsShape (AreTypedWords w) w
keeps-shape w s kept = subst (IsShaped w) (sym kept.words) (shaped-erased w kept.state kept.shaped)

pub knows-types : (w : Linked) → KnowsTypes words (AreTypedWords w) w
knows-types w s kept = record { each = λ c. tt {0} }

module _ (w : Linked) (follow : TypedStepsFollow w) (safe : StepsAreSafe w) where
  stays-by : (z : State ℕ) (t : State Cell) (o : Outcome Cell) → running z ≡ erased_outcome o → (typings : Typings)
      → ((n : ℕ) → typings.unset n ≡ Bottom) → AreTypings w typings → IsTypedOutcome w typings o
      → IsShaped w t → Steps tagged w t o → StepsStay tagged (IsShaped w) w → AreTypedWords w z
  stays-by z t x e typings unset are typed shaped step stay = grind (arith)

  pub steps-stay : StepsStay tagged (IsShaped w) w → StepsStay words (AreTypedWords w) w
  steps-stay stay s z kept step =
      let there = follow kept.typings kept.state (running z) kept.methods kept.typed
      (subst (λ (x : State ℕ). Steps words w x (running z)) kept.words step) in
      stays-by z kept.state there.0 there.2 kept.typings kept.unset kept.methods (safe kept.typings kept.state there.0 kept.methods kept.typed there.1)
      kept.shaped there.1 stay

  ends-by : (z : State ℕ) (e : Ending) (t : State Cell) (o : Outcome Cell) → ended e z ≡ erased_outcome o → IsShaped w t → Steps tagged w t o
      → StepsEnd tagged (IsShaped w) w → IsShaped w z
  ends-by z e t (running y) is shaped step last = absurd (cc)
  ends-by z e t (ended ending y) is shaped step last = grind (arith, shaped-erased w y (last t y ending shaped step))

  pub steps-end : StepsEnd tagged (IsShaped w) w → StepsEnd words (AreTypedWords w) w
  steps-end last s z e kept step =
      let there = follow kept.typings kept.state (ended e z) kept.methods kept.typed
      (subst (λ (x : State ℕ). Steps words w x (ended e z)) kept.words step) in
      ends-by z e kept.state there.0 there.2 kept.shaped there.1 last

-- ---- a step of the cells

all-of : {X : Type 0} (P : X → Type 0) → ((x : X) → P x) → (xs : List X) → All P xs
all-of P p [] = All-nil P
all-of P p (x ∷ xs) = All-cons P x xs (p x) (all-of P p xs)

passed : (w : Linked) (assigned : Typings) (s : State Cell) (o : Option Fault) (x : Outcome Cell) → IsTypedOutcome w assigned (unless_fault s o x)
    → (o ≡ None) × IsTypedOutcome w assigned x
passed w assigned s x x2 safe = grind (arith)

module _ (w : Linked) (is : IsWorld w) (erase : StatesErase w.methods w.classes) (safe : StepsAreSafe w) (assigned : Typings)
    (bottom : (n : ℕ) → assigned.unset n ≡ Bottom) (typings : AreTypings w assigned)
    (reach : TestsReach 510 tagged (IsShaped w) w) (known : KnowsTypes tagged (IsShaped w) w)
    (f : Frame Cell) (below : List (Frame Cell)) (heap : List (Object Cell)) (statics : List Cell)
    (typed : IsTypedState w assigned (record { frames = f ∷ below; heap = heap; statics = statics }))
    (shaped : IsShaped w (record { frames = f ∷ below; heap = heap; statics = statics }))
  where
    abbrev now : State Cell
    now = record { frames = f ∷ below; heap = heap; statics = statics }

    fetched-cells : (m : MethodRec) (i : Placed) → Fetches w (erased now) m i → Fetches w now m i
    fetched-cells m i fetched = record { runs = omega arith; method = fetched.method; instruction = fetched.instruction }

    -- the step of the cells is safe, so that the tests before it are passed
    step-safe : (m : MethodRec) (i : Placed) (op : Operation) → Fetches w now m i → Resolves w m i.place i.insn (Ok op)
        → (fault_before tagged w op now ≡ None) × IsTypedOutcome w assigned (settled tagged w (i.place + i.insn.len) now (act tagged w i.insn op now))
    step-safe m i op fetched names =
        passed w assigned now (fault_before tagged w op now) (settled tagged w (i.place + i.insn.len) now (act tagged w i.insn op now))
        (safe assigned now (performed tagged w i op now) typings typed (performs fetched op names refl))

    reached : (m : MethodRec) (i : Placed) (op : Operation) → Fetches w now m i → max_stack_of w f.method ≤ 255
        → Resolves w m i.place i.insn (Ok op) → Reaches 510 tagged w i.insn op now
    reached m i op fetched few names = reach now m i op shaped fetched few names (step-safe m i op fetched names).0

    -- ---- what an operation asks

    here-shaped : IsShapedFrame w f
    here-shaped = All-head (IsShapedFrame w) f below shaped.frames

    method-is : (m : MethodRec) → slice_get w.methods f.method ≡ Some m → IsMethod w.infos w.pools w.classes m
    method-is m e = All-slice_get (IsMethod w.infos w.pools w.classes) w.methods f.method m is.methods e

    all-known : (cs : List Cell) → All (IsKnown w.classes) (map (least_type w.classes Bottom (kinds now)) cs)
    all-known cs =
        All-map (IsKnown w.classes) (least_type w.classes Bottom (kinds now)) cs
        (all-of (λ (c : Cell). IsKnown w.classes (least_type w.classes Bottom (kinds now) c)) (known now shaped).each cs)

    frame-known : (m : MethodRec) → slice_get w.methods f.method ≡ Some m → AreKnown w.classes (types_of_frame w.classes Bottom (kinds now) f)
    frame-known m e =
        let many : length f.registers ≡ m.nargs + m.max_locals = here-shaped.registers ∙ ap register_count_of e in
        let few : m.nargs + m.max_locals ≤ 255 = (method-is m e).registers in
        record {
          few = omega (arith, length-map f.registers (least_type w.classes Bottom (kinds now)), many, few);
          regs = all-known f.registers;
          stack = all-known f.stack;
          object = is.chains.objects;
        }

    room-left : OperationsAreSound w → OperationLeaves w → TypedStatesApply w → (m : MethodRec) (i : Placed) (op : Operation) → Fetches w now m i
        → max_stack_of w f.method ≤ 255
        → Resolves w m i.place i.insn (Ok op) → length f.stack + (footprint w op).given ≤ 255 + (footprint w op).taken
    room-left sound leaves applies m i op fetched few names =
        let a = applies assigned now m i op typed fetched names in
        let before = types_of_frame w.classes (assigned.unset f.method) (kinds now) f in
        let known_frame = subst (λ u. AreKnown w.classes (types_of_frame w.classes u (kinds now) f)) (sym (bottom f.method)) (frame-known m fetched.method) in
        let done = leaves m.max_stack m i.place op _ before a.0 a.1 (sound m i.place i.insn op (method-is m fetched.method).result names) known_frame a.2 in
        let limit : max_stack_of w f.method ≡ m.max_stack = ap (of_method 0 (λ (x : MethodRec). x.max_stack)) fetched.method in
        omega (arith, done.taken, done.depth, a.2.room, few, limit, length-map f.stack (least_type w.classes (assigned.unset f.method) (kinds now)))

    words-reach : OperationsAreSound w → OperationLeaves w → TypedStatesApply w → (m : MethodRec) (i : Placed) (op : Operation)
        → Fetches w (erased now) m i → max_stack_of w f.method ≤ 255
        → Resolves w m i.place i.insn (Ok op) → Reaches 255 words w i.insn op (erased now)
    words-reach sound leaves applies m i op fetched few names =
        let cells = fetched-cells m i fetched in
        let all = reached m i op cells few names in
        let stack : length (map word_of f.stack) ≡ length f.stack = length-map f.stack word_of in
        record {
          registers = omega (arith, all.registers, length-map f.registers word_of);
          cells = omega (arith, all.cells, stack);
          room = omega (arith, stack, room-left sound leaves applies m i op cells few names);
          finds = finds-erased w erase f below heap statics i.insn op all.finds;
        }

    -- ---- where control goes

    standing-there : (g : Frame Cell) (st : Standing w assigned g) → IsSome (instruction_at (code_at w g.method) g.place)
    standing-there g st = grind (arith)

    words-name : (m : MethodRec) (i : Placed) (fault : RuleFault) → Fetches w (erased now) m i → ¬ (Resolves w m i.place i.insn (Err fault))
    words-name m i fault fetched names = safe assigned now _ typings typed (unresolved refl (fetched-cells m i fetched) fault names)

    target-passes : (z : State Cell) (x : Outcome Cell) (over there : Bool)
        → IsTypedOutcome w assigned (unless_fault z (if over then Some StackFault else if there then None else Some JumpFault) x) → there ≡ true
    target-passes z x x2 there h = grind (arith)

    jump-lands : (next : ℕ) (a : Act Cell) (to : ℤ) (z : State ℕ) → IsTypedOutcome w assigned (settled tagged w next now a) → Stays tagged w now a
        → erased_act a ≡ jumps to z → is_target_place (code_at w f.method) to ≡ true
    jump-lands next a to z h stays e = grind (arith, target-passes, length)

    words-land : ActsErase w → (m : MethodRec) (i : Placed) (op : Operation) (to : ℤ) (z : State ℕ) → Fetches w (erased now) m i
        → Resolves w m i.place i.insn (Ok op)
        → act words w i.insn op (erased now) ≡ jumps to z → is_target_place (code_at w f.method) to ≡ true
    words-land acts m i op to z fetched names e =
        jump-lands (i.place + i.insn.len) (act tagged w i.insn op now) to z (step-safe m i op (fetched-cells m i fetched) names).1
        (jumps-stay tagged w now i.insn op)
        (sym (acts i.insn op now (omega arith)) ∙ e)

    next-passes : (s : State Cell) (x : Outcome Cell) (over past : Bool)
        → IsTypedOutcome w assigned (unless_fault s (if over then Some StackFault else if past then Some JumpFault else None) x) → over ≡ false
    next-passes s x x2 past h = grind (arith)

    taken-if : (b : Bool) (x y : Outcome Cell) → b ≡ true → IsTypedOutcome w assigned (if b then x else y) → IsTypedOutcome w assigned x
    taken-if x x2 y e h = grind (arith)

    given-fits : (g : Frame Cell) (gs : List (Frame Cell)) (value : Value) (cs : List Cell)
        → IsTypedOutcome w assigned (given_to tagged w value cs (record { frames = g ∷ gs; heap = heap; statics = statics }))
        → length (with_value cs g.stack) ≤ max_stack_of w g.method
    given-fits g gs value cs h = grind (arith, length, nat_tests, taken-if, ltb-false, next-passes)

    waits-fit :
        (bs : List (Frame Cell)) (next : ℕ) (a : Act Cell) (value : Value) (cells : List ℕ) (result : Option Ty)
        → AreWaiting w assigned (kinds now) result bs → All (IsShapedFrame w) bs
        → erased_act a ≡ gives value cells
        → IsTypedOutcome w assigned (settled tagged w next (record { frames = f ∷ bs; heap = heap; statics = statics }) a)
        → 0 < length (map (map_frame word_of) bs)
        → CanResume 255 w Verified (length cells) (without_top (erased (record { frames = f ∷ bs; heap = heap; statics = statics })))
    waits-fit [] next a value cells result waits shapes e h lt = absurd (omega (arith, lt))
    waits-fit (g ∷ gs) next (gives told cs) value cells result waits shapes e h lt =
        let same : map word_of cs ≡ cells = cc in
        let many : length cells ≡ length cs = ap (λ (ns : List ℕ). length ns) (sym same) ∙ length-map cs word_of in
        let fits : length (with_value cs g.stack) ≤ max_stack_of w g.method = given-fits g gs told cs h in
        let whole : length (with_value cs g.stack) ≡ length cs + length g.stack = length-append (reverse cs) g.stack
        ∙ ap (λ n. n + length g.stack) (length-reverse cs) in
        record {
          method = (All-head (IsShapedFrame w) g gs shapes).known;
          call = standing-there g waits.0.stands;
          room_is = λ most. omega (arith, most, fits, whole, many, length-map g.stack word_of);
        }
    waits-fit (g ∷ gs) next a value cells result waits shapes e h lt = absurd (cc)

    words-resume : ActsErase w → (m : MethodRec) (i : Placed) (op : Operation) (value : Value) (cells : List ℕ) → Fetches w (erased now) m i
        → Resolves w m i.place i.insn (Ok op)
        → act words w i.insn op (erased now) ≡ gives value cells → IsRunning (without_top (erased now))
        → CanResume 255 w Verified (length cells) (without_top (erased now))
    words-resume acts m i op value cells fetched names e runs =
        waits-fit below (i.place + i.insn.len) (act tagged w i.insn op now) value cells (result_of w f.method) typed.frames.1
        (All-tail (IsShapedFrame w) f below shaped.frames)
        (sym (acts i.insn op now (omega arith)) ∙ e) (step-safe m i op (fetched-cells m i fetched) names).1 runs

    words-verified : ActsErase w → IsVerified 255 words w (erased now)
    words-verified acts = record {
      place = standing-there f typed.frames.0.stands;
      resolves = words-name;
      lands = λ m i op to z fetched names e. words-land acts m i op to z fetched names e;
      resumes = λ m i op value cells fetched names e runs. words-resume acts m i op value cells fetched names e runs;
    }

-- ---- in any state

cells-run : (s : State ℕ) (t : State Cell) → s ≡ erased t → IsRunning s → 0 < length t.frames
cells-run s t e runs = grind (arith, length-map)

module _ (w : Linked) (is : IsWorld w) (erase : StatesErase w.methods w.classes) (safe : StepsAreSafe w)
    (reach : TestsReach 510 tagged (IsShaped w) w) (known : KnowsTypes tagged (IsShaped w) w)
  where
    verified-by : ActsErase w → (fs : List (Frame Cell)) (heap : List (Object Cell)) (statics : List Cell) → (assigned : Typings)
        → ((n : ℕ) → assigned.unset n ≡ Bottom) → AreTypings w assigned
        → IsTypedState w assigned (record { frames = fs; heap = heap; statics = statics })
        → IsShaped w (record { frames = fs; heap = heap; statics = statics }) → 0 < length fs
        → IsVerified 255 words w (erased (record { frames = fs; heap = heap; statics = statics }))
    verified-by acts [] heap statics assigned bottom typings typed shaped lt = absurd (omega (arith, lt))
    verified-by acts (f ∷ below) heap statics assigned bottom typings typed shaped lt =
        words-verified w is erase safe assigned bottom typings reach known f below heap statics typed shaped acts

    pub are-verified : ActsErase w → AreVerified 255 words (AreTypedWords w) w
    are-verified acts untested s kept runs = grind (arith, verified-by, cells-run)

    reach-by : OperationsAreSound w → OperationLeaves w → TypedStatesApply w → (fs : List (Frame Cell)) (heap : List (Object Cell))
        (statics : List Cell) (m : MethodRec) (i : Placed) (op : Operation)
        → (assigned : Typings) → ((n : ℕ) → assigned.unset n ≡ Bottom) → AreTypings w assigned
        → IsTypedState w assigned (record { frames = fs; heap = heap; statics = statics })
        → IsShaped w (record { frames = fs; heap = heap; statics = statics }) → 0 < length fs
        → Fetches w (erased (record { frames = fs; heap = heap; statics = statics })) m i
        → max_stack_of w (top (erased (record { frames = fs; heap = heap; statics = statics }))).method ≤ 255
        → Resolves w m i.place i.insn (Ok op) → Reaches 255 words w i.insn op (erased (record { frames = fs; heap = heap; statics = statics }))
    reach-by sound leaves applies [] heap statics m i op assigned bottom typings typed shaped lt fetched few names = absurd (omega (arith, lt))
    reach-by sound leaves applies (f ∷ below) heap statics m i op assigned bottom typings typed shaped lt fetched few names =
        words-reach w is erase safe assigned bottom typings reach known f below heap statics typed shaped sound leaves applies m i op fetched few names

    pub tests-reach : OperationsAreSound w → OperationLeaves w → TypedStatesApply w → TestsReach 255 words (AreTypedWords w) w
    tests-reach sound leaves applies s m i op kept fetched few names none =
        let t : State Cell = kept.state in
        let here : Fetches w (erased t) m i = subst (λ (x : State ℕ). Fetches w x m i) kept.words fetched in
        let most : max_stack_of w (top (erased t)).method ≤ 255 = subst (λ (x : State ℕ). max_stack_of w (top x).method ≤ 255) kept.words few in
        subst (λ (x : State ℕ). Reaches 255 words w i.insn op x) (sym kept.words)
        (reach-by sound leaves applies t.frames t.heap t.statics m i op kept.typings kept.unset kept.methods kept.typed kept.shaped
        (cells-run s t kept.words fetched.runs) here most names)
