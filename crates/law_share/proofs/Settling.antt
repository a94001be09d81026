-- What follows the step of another method in both worlds: a method that is called begins, and one that waits goes on.
use Rattle.std.proofs.Common.{◌≡◌, ℕ, zero, suc, ◌+◌, ◌-◌, ◌<◌, ◌≤◌, inl, inr, ⊎_elim, false, List, [], ◌∷◌}
use Rattle.std.proofs.Common.{◌++◌, length, map, reverse, replicate, refl, sym, ap, ◌∙◌, subst, arith, length-append}
use Rattle.std.specs.Prelude.{Some, None, nat_le, slice_get}
use Rattle.std.proofs.lemmas.Bool.{cases_lt, lt-leb, leb-false}
use Rattle.std.proofs.lemmas.List.{length-map, length-replicate, map-append}
use Rattle.std.proofs.lemmas.Option.{slice_get_past}
use Rattle.jc_base.specs.declared.record.MethodRec.{MethodRec}
use Rattle.jc_base.specs.World.{Linked, code_of}
use Rattle.jc_base.proofs.Lists.{slice_get-front, slice_get-farther, slice_get-some}
use Rattle.jc_decode.specs.declared.insn.Placed.{Placed}
use Rattle.jc_decode.proofs.InstructionLists.{all-are-listed}
use Rattle.jc_control.specs.Control.{falls_through}
use Rattle.jc_control.specs.Method.{Method, IsMethodOf, method_with}
use Rattle.jc_control.specs.WellFormed.{IsPlace}
use Rattle.jc_control.proofs.PlacesWithin.{place-inside}
use Rattle.jc_ops.specs.declared.operation.Operation.TheVariants.{Call}
use Rattle.vm_store.specs.declared.cell.Cell.{Cell}
use Rattle.vm_store.specs.Cells.{tagged}
use Rattle.vm_store.specs.Objects.{kinds}
use Rattle.vm_store.specs.State.{Frame, Object, State, top, entered, register_count_of, register_count}
use Rattle.vm_store.specs.Value.{with_value}
use Rattle.vm_store.proofs.Stacks.{reverse-map}
use Rattle.vm_step.specs.declared.ending.Ending.TheVariants as endings
use Rattle.vm_step.specs.declared.ending.Plain.TheVariants.{Returned}
use Rattle.vm_step.specs.declared.ending.Value.{Value}
use Rattle.vm_step.specs.Methods.{of_method, code_at, instruction_at, max_stack_of}
use Rattle.vm_step.specs.Raising.{Outcome, running}
use Rattle.vm_step.specs.Settled.{given_to, return_place}
use Rattle.law_sound.specs.Frames.{Typings}
use Rattle.law_sound.specs.Handed.{nargs_of}
use Rattle.law_sound.specs.Soundness.{IsTypedOutcome}
use Rattle.law_sound.specs.State.{IsTypedState}
use Rattle.law_sound.proofs.Finish.{has-room}
use Rattle.law_sound.proofs.Going.{goes-on}
use Rattle.law_alike.specs.Alike.{renamed_cell}
use Rattle.law_alike.specs.Simulation.{AreBoth, both_run, both_end}
use Rattle.law_alike.proofs.Settling.{after_call, given_frame}
use Rattle.law_alike.proofs.Standing.{stands-at}
use Rattle.law_alike.proofs.Giving.{IsGiven, is-given, goes-given}
use Rattle.law_share.specs.Live.{IsLiveAt, leads_on}
use Rattle.law_share.specs.Renamed.{IsMatched, IsRenamed, BeginsAlike, register_total}
use Rattle.law_share.specs.Beside.{Renaming, AreRenamed, FrameBeside, WaitBeside, AreUnder, no_frames, more_frames, AreBeside}
use Rattle.law_share.proofs.Knowing.{AreLaws, next-is-place, its, its-code, other-code, same-room, held-after}

-- ---- registers at the start of a method

get-replicate : {X : Type 0} (count n : ℕ) (x : X) → n < count → slice_get (replicate count x) n ≡ Some x
get-replicate zero n x lt = absurd (omega (arith, lt))
get-replicate (suc count) zero x lt = refl
get-replicate (suc count) (suc n) x lt = get-replicate count n x (omega (arith, lt))

-- behind the arguments a register is empty, or is none
empty-there :
    (args : List Cell) (count n : ℕ) → length args ≤ n → n < count
    → slice_get (args ++ replicate (count - length args) tagged.empty) n ≡ Some tagged.empty
empty-there args count n from lt =
    let behind : length args + (n - length args) ≡ n = omega (arith, from) in
    subst (λ k. slice_get (args ++ replicate (count - length args) tagged.empty) k ≡ Some tagged.empty) behind
    (slice_get-farther args (replicate (count - length args) tagged.empty) (n - length args) (length args + (n - length args)) refl
    ∙ get-replicate (count - length args) (n - length args) tagged.empty (omega (arith, from, lt)))

long-as : (args : List Cell) (count : ℕ) → length args ≤ count → length (args ++ replicate (count - length args) tagged.empty) ≡ count
long-as args count le = grind (arith, length-append, replicate, length-replicate)

none-there :
    (args : List Cell) (count n : ℕ) → length args ≤ count → count ≤ n
    → slice_get (args ++ replicate (count - length args) tagged.empty) n ≡ None
none-there args count n le past = grind (arith, slice_get_past, replicate, long-as)

module _ (v w : Linked) (typings : Typings) (r : Renaming) where
  abbrev pub Settles : Outcome Cell → Outcome Cell → Type 0
  Settles o p = AreBoth (AreBeside v w typings r) o p

  pub settles-as : (o p u q : Outcome Cell) → o ≡ u → p ≡ q → Settles u q → Settles o p
  settles-as o p u q k l c = subst (λ n. Settles n p) (sym k) (subst (λ n. Settles u n) (sym l) c)

  module _ (laws : AreLaws v) (pair : AreRenamed v w typings r) where
    -- ---- a method begins

    module _ (m : Method) (is : IsMethodOf v m) (args : List Cell) (many : length args ≡ m.rec.nargs) where
      abbrev k : IsRenamed v w m (r.place m.number) (r.reg m.number)
      k = pair.methods m is

      total-here : register_count v.methods m.number ≡ register_total m
      total-here = ap register_count_of is.rec

      total-there : register_count w.methods m.number ≡ register_total k.target
      total-there = ap register_count_of (ap (slice_get w.methods) (sym k.number) ∙ k.is_target.rec)

      abbrev here : List Cell
      here = args ++ replicate (register_total m - length args) tagged.empty

      abbrev there : List Cell
      there = args ++ replicate (register_total k.target - length args) tagged.empty

      held : (x : ℕ) → BeginsAlike m k.target (r.reg m.number) x → slice_get there (r.reg m.number x) ≡ slice_get here x
      held x b = elim (cases_lt x m.rec.nargs) [
        | inl lt ↦
            let same : r.reg m.number x ≡ x = b.argument lt in
            let arg = slice_get-some args x (omega (arith, lt, many)) in
            ap (slice_get there) same
            ∙ (slice_get-front args (replicate (register_total k.target - length args) tagged.empty) x arg.0 arg.1
            ∙ sym (slice_get-front args (replicate (register_total m - length args) tagged.empty) x arg.0 arg.1))
        | inr ge ↦
            let more = b.variable ge in
            ⊎_elim
            (λ inside. empty-there args (register_total k.target) (r.reg m.number x) (omega (arith, more, many)) inside.1
            ∙ sym (empty-there args (register_total m) x (omega (arith, ge, many)) inside.0))
            (λ past. none-there args (register_total k.target) (r.reg m.number x) (let e = k.nargs in omega (arith, many, e)) past.1
            ∙ sym (none-there args (register_total m) x (omega (arith, many)) past.0)) b.there
      ]

      pub begins-beside : FrameBeside v w r (entered tagged v.methods m.number args) (entered tagged w.methods m.number args)
      begins-beside = record {
        source = m;
        is_source = is;
        number = refl;
        method = refl;
        at = sym k.begins;
        counted = long-as args (register_count v.methods m.number) (let e = total-here in omega (arith, e, many));
        count = long-as args (register_count w.methods m.number) (let e = total-there in let n = k.nargs in omega (arith, e, n, many));
        stack = refl;
        held = λ x live.
            ap (λ c. slice_get (args ++ replicate (c - length args) tagged.empty) (r.reg m.number x)) total-there
            ∙ (held x (k.start x live) ∙ sym (ap (λ c. slice_get (args ++ replicate (c - length args) tagged.empty) x) total-here));
      }

    pub enters :
        (n : ℕ) (args : List Cell) (fs gs : List (Frame Cell)) (heap other : List (Object Cell)) (statics others : List Cell)
        → other ≡ heap → others ≡ statics → AreUnder v w r fs gs
        → IsTypedState v typings (record { frames = entered tagged v.methods n args ∷ fs; heap = heap; statics = statics })
        → length args ≡ nargs_of v n
        → Settles (running (record { frames = entered tagged v.methods n args ∷ fs; heap = heap; statics = statics }))
        (running (record { frames = entered tagged w.methods n args ∷ gs; heap = other; statics = others }))
    enters n args fs gs heap other statics others same_heap same_statics under typed many =
        let begun : State Cell = record { frames = entered tagged v.methods n args ∷ fs; heap = heap; statics = statics } in
        let st = typed.frames.0.stands in
        let inside : 0 < length (code_at v n) = (has-room v typings (kinds begun) (top begun) typed.frames.0).inside in
        let code : code_at v n ≡ code_of v.infos st.rec = ap (of_method [] (code_of v.infos)) st.is_method in
        let is : IsMethodOf v (method_with v n st.rec) =
        record { rec = st.is_method; code = refl; filled = subst (λ (c : List ℕ). 0 < length c) code inside } in
        let words : nargs_of v n ≡ st.rec.nargs = ap (of_method 0 (λ (m : MethodRec). m.nargs)) st.is_method in
        both_run (record {
          first = refl;
          second = refl;
          tops = begins-beside (method_with v n st.rec) is args (many ∙ words);
          under = under;
          heap = same_heap;
          statics = same_statics;
          typed = typed;
        })

    -- ---- a method that waits goes on

    module _ (value : Value) (cells : List Cell) (plain : (e : ℕ → ℕ) → map (renamed_cell e) cells ≡ cells)
        (heap other : List (Object Cell)) (statics others : List Cell) (same_heap : other ≡ heap) (same_statics : others ≡ statics) where
      module _ (f g : Frame Cell) (fs gs : List (Frame Cell)) (under : AreUnder v w r fs gs) (b : WaitBeside v w r f g) where
        abbrev waiting : State Cell
        waiting = record { frames = f ∷ fs; heap = heap; statics = statics }

        abbrev also_waiting : State Cell
        also_waiting = record { frames = g ∷ gs; heap = other; statics = others }

        abbrev given : State Cell
        given = record { frames = given_frame v cells f ∷ fs; heap = heap; statics = statics }

        abbrev also_given : State Cell
        also_given = record { frames = given_frame w cells g ∷ gs; heap = other; statics = others }

        -- ---- the place after the call

        abbrev at : FrameBeside v w r f g
        at = b.beside

        abbrev rename : ℕ → ℕ
        rename = r.place at.source.number

        abbrev call : Placed
        call = b.instruction

        abbrev matched : IsMatched v w at.source (its v w typings laws r pair f g at).target rename (r.reg at.source.number) call (Call b.callee)
        matched = (its v w typings laws r pair f g at).matched call (Call b.callee) b.operates

        after-here : after_call v f ≡ call.place + call.insn.len
        after-here = grind (arith, its-code v w typings laws r pair f g at, stands-at at.source.code f.place call b.operates.stands b.there)

        after-there : after_call w g ≡ rename (after_call v f)
        after-there =
            let other = matched.other in
            let place : other.place ≡ g.place = matched.are.at ∙ (ap rename b.there ∙ sym at.at) in
            ap return_place
            (ap (λ c. instruction_at c g.place) (other-code v w typings laws r pair f g at)
            ∙ stands-at (its v w typings laws r pair f g at).target.code g.place other matched.are.operates.stands place)
            ∙ (matched.are.next ∙ ap rename (sym after-here))

        leads-after : (x : ℕ) → IsLiveAt v at.source x (after_call v f) → slice_get g.registers (r.reg at.source.number x) ≡ slice_get f.registers x
        leads-after x live =
            held-after v w typings laws r pair f g at call (Call b.callee) (call.place + call.insn.len) x b.operates b.there refl
            (leads_on (falls_through (goes-on v at.source.rec call.place call.insn (Call b.callee) b.operates.resolves refl)))
            (subst (IsLiveAt v at.source x) after-here live)

        same-depth : length (with_value cells g.stack) ≡ length (with_value cells f.stack)
        same-depth = grind (arith, length-map, length-append, reverse)

        same-stack : with_value cells g.stack ≡ map (renamed_cell rename) (with_value cells f.stack)
        same-stack =
            let e : Cell → Cell = renamed_cell rename in
            ap (λ cs. reverse cells ++ cs) at.stack
            ∙ (ap (λ cs. cs ++ map e f.stack) (sym (sym (reverse-map e cells) ∙ ap reverse (plain rename)))
            ∙ sym (map-append e (reverse cells) f.stack))

        given-beside : FrameBeside v w r (given_frame v cells f) (given_frame w cells g)
        given-beside = grind (arith, after-there, same-stack, leads-after)

        place-after : nat_le (length (code_at v f.method)) (after_call v f) ≡ false → IsPlace at.source.code (after_call v f)
        place-after inside =
            let code = its-code v w typings laws r pair f g at in
            let lt : after_call v f < length at.source.code =
            leb-false (length at.source.code) (after_call v f) (ap (λ (c : List ℕ). nat_le (length c) (after_call v f)) (sym code) ∙ inside) in
            next-is-place at.source call (after_call v f) (pair.typed at.source at.is_source).formed b.operates.stands after-here lt

        wait-given :
            IsGiven value cells f fs heap statics v typings
            → Settles (given_to tagged v value cells waiting) (given_to tagged w value cells also_waiting)
        wait-given is =
            let target = (its v w typings laws r pair f g at).target in
            let fits : length (with_value cells g.stack) ≤ max_stack_of w g.method =
            (let le = is.fits in let room = same-room v w typings laws r pair f g at in omega (arith, le, room, same-depth)) in
            let there : IsPlace target.code (rename (after_call v f)) =
            (its v w typings laws r pair f g at).places (after_call v f) (place-after is.inside) in
            let lt : rename (after_call v f) < length target.code = place-inside target.code (all-are-listed target.code) (rename (after_call v f)) there in
            let inside : nat_le (length (code_at w g.method)) (after_call w g) ≡ false =
            ap (λ (c : List ℕ). nat_le (length c) (after_call w g)) (other-code v w typings laws r pair f g at)
            ∙ (ap (nat_le (length target.code)) after-there ∙ lt-leb (length target.code) (rename (after_call v f)) lt) in
            settles-as (given_to tagged v value cells waiting) (given_to tagged w value cells also_waiting) (running given) (running also_given)
            is.goes (goes-given value cells g gs other others w fits inside)
            (both_run (record {
              first = refl;
              second = refl;
              tops = given-beside;
              under = under;
              heap = same_heap;
              statics = same_statics;
              typed = is.typed;
            }))

      pub gives :
          {fs gs : List (Frame Cell)} → AreUnder v w r fs gs
          → IsTypedOutcome v typings (given_to tagged v value cells (record { frames = fs; heap = heap; statics = statics }))
          → Settles (given_to tagged v value cells (record { frames = fs; heap = heap; statics = statics }))
          (given_to tagged w value cells (record { frames = gs; heap = other; statics = others }))
      gives no_frames safe = both_end (endings.Plain (Returned value)) same_heap same_statics
      gives (more_frames {f = f} {g = g} {fs = fs} {gs = gs} b rest) safe = wait-given f g fs gs rest b (is-given value cells f fs heap statics v typings safe)
