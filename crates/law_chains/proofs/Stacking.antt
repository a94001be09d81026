-- The frames of a run stay a chain of calls.
use Rattle.std.proofs.Common.{◌≡◌, ℕ, ◌+◌, ◌≤◌, Bool, true, false, if◌then◌else◌, List, [], ◌∷◌, length, map, refl, sym, ap, subst, arith}
use Rattle.std.specs.Prelude.{ℤ, Option, Some, None, Ok, slice_index, nat_lt}
use Rattle.std.proofs.lemmas.Bool.Decides.{nat_tests}
use Rattle.std.proofs.lemmas.List.{length-map}
use Rattle.jc_base.specs.declared.record.Handler.{Handler}
use Rattle.jc_base.specs.declared.record.MethodRec.{MethodRec}
use Rattle.jc_base.specs.Dispatch.{cells_of}
use Rattle.jc_base.specs.World.{Linked, IsWorld}
use Rattle.jc_decode.specs.declared.insn.Placed.{Placed}
use Rattle.jc_ops.specs.declared.operation.Operation.{Operation}
use Rattle.jc_ops.specs.Resolve.{Resolves}
use Rattle.vm_store.specs.declared.cell.Cell.{Cell}
use Rattle.vm_store.specs.Cells.{tagged}
use Rattle.vm_store.specs.State.{Frame, Object, State, top, with_place, with_stack, without_top, with_call, frame_limit}
use Rattle.vm_store.specs.declared.cell.ObjectKind.{ObjectKind}
use Rattle.vm_store.specs.declared.cell.ObjectKind.TheVariants.{Instance}
use Rattle.vm_store.specs.Objects.{has_room, with_object, new_instance_cells}
use Rattle.vm_store.specs.Value.{with_value}
use Rattle.vm_step.specs.declared.ending.Fault.{Fault}
use Rattle.vm_step.specs.declared.ending.Fault.TheVariants.{StackFault}
use Rattle.vm_step.specs.declared.ending.Value.{Value}
use Rattle.vm_step.specs.declared.ending.Exception.{Exception}
use Rattle.vm_step.specs.declared.ending.Plain.TheVariants.{Returned, TooDeep, HeapFull}
use Rattle.vm_step.specs.declared.ending.Ending.TheVariants.{Plain, Faulted}
use Rattle.vm_step.specs.Act.{Act, calls, role_of}
use Rattle.vm_step.specs.Calls.{class_of}
use Rattle.vm_step.specs.Methods.{code_at, instruction_at}
use Rattle.vm_step.specs.Performed.{act}
use Rattle.vm_step.specs.Raising.{Outcome, running, ended, ends, handler_for, caught, caught_or, has_no_room, unwound, thrown, raised}
use Rattle.vm_step.specs.Run.{Runs, stands, stops, steps}
use Rattle.vm_step.specs.Settled.{unless_fault, fault_next, fault_target, goes_to, jumps_to, with_new, made, entered_call, given_to, settled}
use Rattle.vm_step.specs.Settled.{place_number, return_place}
use Rattle.vm_step.specs.Step.{Steps, misplaced, unresolved, performs, performed, Fetches}
use Rattle.vm_step.specs.Tests.{fault_before}
use Rattle.law_sound.specs.Frames.{Typings}
use Rattle.law_sound.specs.State.{IsTypedState}
use Rattle.law_sound.specs.Soundness.{AreTypings}
use Rattle.law_sound.proofs.Sound.{steps-are-safe}
use Rattle.law_sound.proofs.Starting.{starts-are-typed}
use Rattle.law_chains.specs.Calls.{Calls}
use Rattle.law_chains.specs.Stacked.{methods_on, IsStacked, entry_alone, called_on, AreStacked, KeepsToCalls, RunsKeepToCalls}
use Rattle.law_chains.proofs.Keeping.{KeepsMethods, act-keeps}
use Rattle.law_chains.proofs.Called.{only-called-methods-run}

abbrev methods_of : List (Frame Cell) → List ℕ
methods_of fs = map (λ (f : Frame Cell). f.method) fs

-- the frame on top at another place, or with another stack, is of the same method
place-keeps : (fs : List (Frame Cell)) (m : ℕ) (ms : List ℕ) (place : ℕ) (heap : List (Object Cell)) (statics : List Cell) → methods_of fs ≡ m ∷ ms
    → methods_on (with_place (record { frames = fs; heap = heap; statics = statics }) place) ≡ m ∷ ms
place-keeps x m ms place heap statics is = grind (arith)

module _ (w : Linked) (entry : ℕ) where
  fault-keeps : (s : State Cell) (o : Option Fault) (outcome : Outcome Cell) → KeepsToCalls w entry outcome → KeepsToCalls w entry (unless_fault s o outcome)
  fault-keeps s x outcome h = grind (arith)

  tail-stacked : (m : ℕ) (ms : List ℕ) → IsStacked w entry (m ∷ ms) → AreStacked w entry ms
  tail-stacked m ms entry_alone = tt
  tail-stacked m ms (called_on c more) = more

  tails-stacked : (m : ℕ) (ms : List ℕ) → AreStacked w entry (m ∷ ms) → AreStacked w entry ms
  tails-stacked m ms h = tail-stacked m ms h

  -- ---- exceptions

  caught-keeps : (b : Bool) (hd : Handler) (handle : ℕ) (s : State Cell) (f : Frame Cell) (below : List (Frame Cell))
      → AreStacked w entry (methods_of (f ∷ below))
      → KeepsToCalls w entry (if b then ends (Faulted StackFault) s else running (record s { frames = caught tagged hd handle f ∷ below }))
  caught-keeps x hd handle s f below h = grind (arith)

  unwound-keeps : (class handle : ℕ) (s : State Cell) (fs : List (Frame Cell)) → AreStacked w entry (methods_of fs)
      → KeepsToCalls w entry (unwound tagged w class handle s fs)
  unwound-keeps class handle s [] h = tt
  unwound-keeps class handle s (f ∷ below) h =
      go (handler_for w class f) (unwound-keeps class handle s below (tails-stacked f.method (methods_of below) h))
    where
      go : (o : Option Handler) → KeepsToCalls w entry (unwound tagged w class handle s below)
          → KeepsToCalls w entry (caught_or tagged w handle s f below (unwound tagged w class handle s below) o)
      go None rest = rest
      go (Some hd) rest = caught-keeps (has_no_room tagged w f) hd handle s f below h

  raised-keeps : (exception : Exception) (s : State Cell) → AreStacked w entry (methods_on s) → KeepsToCalls w entry (raised tagged w exception s)
  raised-keeps exception s h = go (has_room s (length (cells_of w.classes (slice_index w.classes.roles (role_of exception)))))
    where
      go : (b : Bool) → KeepsToCalls w entry (if b
          then thrown tagged w (length s.heap + 1) (with_object s (Instance (slice_index w.classes.roles (role_of exception)))
          (new_instance_cells tagged w.classes (slice_index w.classes.roles (role_of exception))))
          else ends (Plain HeapFull) s)
      go true = unwound-keeps (class_of w.classes (with_object s (Instance (slice_index w.classes.roles (role_of exception)))
          (new_instance_cells tagged w.classes (slice_index w.classes.roles (role_of exception)))) (length s.heap + 1)) (length s.heap + 1)
          (with_object s (Instance (slice_index w.classes.roles (role_of exception)))
          (new_instance_cells tagged w.classes (slice_index w.classes.roles (role_of exception))))
          s.frames h
      go false = tt

  -- ---- what an act leads to

  module _ (next : ℕ) (f : Frame Cell) (below : List (Frame Cell)) (heap : List (Object Cell)) (statics : List Cell)
      (stacked : IsStacked w entry (methods_of (f ∷ below)))
    where
      abbrev now : State Cell
      now = record { frames = f ∷ below; heap = heap; statics = statics }

      at-place : (z : State Cell) (place : ℕ) → methods_on z ≡ methods_of (f ∷ below) → AreStacked w entry (methods_on (with_place z place))
      at-place z place is = subst (AreStacked w entry) (sym (place-keeps z.frames f.method (methods_of below) place z.heap z.statics is)) stacked

      goes-keeps : (s z : State Cell) → methods_on z ≡ methods_of (f ∷ below) → KeepsToCalls w entry (goes_to tagged w next s z)
      goes-keeps s z is = fault-keeps s (fault_next tagged w z (length (top z).stack) next) (running (with_place z next)) (at-place z next is)

      jumps-keeps : (to : ℤ) (z : State Cell) → methods_on z ≡ methods_of (f ∷ below) → KeepsToCalls w entry (jumps_to tagged w to z)
      jumps-keeps to z is = fault-keeps z (fault_target tagged w z to) (running (with_place z (place_number to))) (at-place z (place_number to) is)

      new-keeps : (z : State Cell) (kind : ObjectKind) (cells : List Cell) (reference : Cell) → methods_on z ≡ methods_of (f ∷ below)
          → methods_on (with_new z kind cells reference) ≡ methods_of (f ∷ below)
      new-keeps z kind cells reference is = go z.frames is
        where
          go : (fs : List (Frame Cell)) → methods_of fs ≡ methods_of (f ∷ below)
              → methods_on (with_new (record { frames = fs; heap = z.heap; statics = z.statics }) kind cells reference) ≡ methods_of (f ∷ below)
          go [] is = absurd (cc)
          go (g ∷ gs) is = is

      made-keeps : (kind : ObjectKind) (cells : List Cell) (reference : ℕ → Cell) (z : State Cell) → methods_on z ≡ methods_of (f ∷ below)
          → KeepsToCalls w entry (made tagged w next kind cells reference z)
      made-keeps kind cells reference z is = fault-keeps z (fault_next tagged w z (length (top z).stack + 1) next)
          (if has_room z (length cells) then running (with_place (with_new z kind cells (reference (length z.heap + 1))) next) else ends (Plain HeapFull) z)
          (go (has_room z (length cells)))
        where
          go : (b : Bool) → KeepsToCalls w entry (if b
              then running (with_place (with_new z kind cells (reference (length z.heap + 1))) next) else ends (Plain HeapFull) z)
          go true = at-place (with_new z kind cells (reference (length z.heap + 1))) next (new-keeps z kind cells (reference (length z.heap + 1)) is)
          go false = tt

      calls-keeps : (method count : ℕ) (z : State Cell) → methods_on z ≡ methods_of (f ∷ below) → Calls w f.method method
          → KeepsToCalls w entry (entered_call tagged w method count z)
      calls-keeps method count z is call = go (nat_lt (length z.frames) frame_limit) refl
        where
          all : IsStacked w entry (method ∷ methods_of (f ∷ below))
          all = called_on call stacked

          called : (fs : List (Frame Cell)) → methods_of fs ≡ methods_of (f ∷ below)
              → methods_on (with_call tagged w.methods (record { frames = fs; heap = z.heap; statics = z.statics }) method count)
              ≡ method ∷ methods_of (f ∷ below)
          called x e = grind (arith)

          go : (b : Bool) → nat_lt (length z.frames) frame_limit ≡ b
              → KeepsToCalls w entry (if b then running (with_call tagged w.methods z method count) else ends (Plain TooDeep) z)
          go true less = subst (AreStacked w entry) (sym (called z.frames is)) all
          go false full = record {
            methods = method ∷ methods_of (f ∷ below);
            stacked = all;
            long = (let l = length-map z.frames (λ (g : Frame Cell). g.method) in let same = ap length is in
                let most : frame_limit ≤ length z.frames = grind (arith, nat_tests) in omega (arith, l, same));
          }

      -- a caller goes on with what was given
      abbrev callers : Frame Cell → List (Frame Cell) → State Cell
      callers g gs = record { frames = g ∷ gs; heap = heap; statics = statics }

      abbrev after_call : Frame Cell → ℕ
      after_call g = return_place (instruction_at (code_at w g.method) g.place)

      abbrev given : Frame Cell → List (Frame Cell) → List Cell → State Cell
      given g gs cells = with_stack (callers g gs) (with_value cells g.stack)

      returned-keeps : (b : Bool) (value : Value) (cells : List Cell) (g : Frame Cell) (gs : List (Frame Cell)) → AreStacked w entry (methods_of (g ∷ gs))
          → KeepsToCalls w entry (if b
          then goes_to tagged w (after_call g) (callers g gs) (given g gs cells)
          else ends (Plain (Returned value)) (callers g gs))
      returned-keeps x value cells g gs h = grind (arith, fault-keeps, length)

      given-keeps : (value : Value) (cells : List Cell) → KeepsToCalls w entry (given_to tagged w value cells (without_top now))
      given-keeps value cells = go below (tail-stacked f.method (methods_of below) stacked)
        where
          go : (fs : List (Frame Cell)) → AreStacked w entry (methods_of fs)
              → KeepsToCalls w entry (given_to tagged w value cells (record { frames = fs; heap = heap; statics = statics }))
          go [] h = tt
          go (g ∷ gs) h = returned-keeps (nat_lt 0 (length (g ∷ gs))) value cells g gs h

      settled-keeps : (a : Act Cell) → KeepsMethods (methods_of (f ∷ below)) a
          → ((method count : ℕ) (y : State Cell) → a ≡ calls method count y → Calls w f.method method)
          → KeepsToCalls w entry (settled tagged w next now a)
      settled-keeps x kept call = grind (arith, goes-keeps, jumps-keeps, made-keeps, calls-keeps, given-keeps, raised-keeps, unwound-keeps)

  -- ---- steps and runs

  module _ (world : IsWorld w) (typings : Typings) (are : AreTypings w typings) where
    performed-keeps :
        (fs : List (Frame Cell)) (heap : List (Object Cell)) (statics : List Cell) (m : MethodRec) (i : Placed) (op : Operation)
        → IsTypedState w typings (record { frames = fs; heap = heap; statics = statics })
        → Fetches w (record { frames = fs; heap = heap; statics = statics }) m i
        → Resolves w m i.place i.insn (Ok op)
        → AreStacked w entry (methods_of fs)
        → KeepsToCalls w entry (performed tagged w i op (record { frames = fs; heap = heap; statics = statics }))
    performed-keeps [] heap statics m i op typed fetched resolves h = let runs = fetched.runs in absurd (omega (arith, runs))
    performed-keeps (f ∷ below) heap statics m i op typed fetched resolves h =
        fault-keeps (record { frames = f ∷ below; heap = heap; statics = statics })
        (fault_before tagged w op (record { frames = f ∷ below; heap = heap; statics = statics }))
        (settled tagged w (i.place + i.insn.len) (record { frames = f ∷ below; heap = heap; statics = statics })
        (act tagged w i.insn op (record { frames = f ∷ below; heap = heap; statics = statics })))
        (settled-keeps (i.place + i.insn.len) f below heap statics h (act tagged w i.insn op (record { frames = f ∷ below; heap = heap; statics = statics }))
        (act-keeps f below heap statics w i.insn op)
        (λ method count y e. only-called-methods-run w world typings
        (record { frames = f ∷ below; heap = heap; statics = statics }) y m i op method count are typed
        fetched resolves e))

    step-keeps : (s : State Cell) (o : Outcome Cell) → IsTypedState w typings s → AreStacked w entry (methods_on s) → Steps tagged w s o
        → KeepsToCalls w entry o
    step-keeps s o typed h (misplaced checks runs none) = tt
    step-keeps s o typed h (unresolved checks fetched fault resolves) = tt
    step-keeps s o typed h (performs {m = m} {i = i} fetched op resolves is) =
        subst (KeepsToCalls w entry) (sym is) (performed-keeps s.frames s.heap s.statics m i op typed fetched resolves h)

    runs-keep : (n : ℕ) (s : State Cell) (o : Outcome Cell) → IsTypedState w typings s → AreStacked w entry (methods_on s) → Runs tagged w n s o
        → KeepsToCalls w entry o
    runs-keep n s o typed h stands = h
    runs-keep n s o typed h (stops {z = z} {ending = e} step) = step-keeps s (ended e z) typed h step
    runs-keep n s o typed h (steps {n = m} {z = z} step more) =
        runs-keep m z o (steps-are-safe w world typings s (running z) are typed step) (step-keeps s (running z) typed h step) more

pub runs-keep-to-calls : (w : Linked) → IsWorld w → RunsKeepToCalls w
runs-keep-to-calls w world typings entry args s n o are starts runs =
    runs-keep w entry world typings are n s o (starts-are-typed w world typings entry args s are starts)
    (subst (λ x. AreStacked w entry (methods_on x)) (sym starts.state) entry_alone) runs
