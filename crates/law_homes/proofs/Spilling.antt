-- The stores of a stack into homes, one after the other.
use Rattle.std.proofs.Common.{◌≡◌, ◌⊎◌, inl, inr, ℕ, suc, ◌+◌, ◌<◌, ◌≤◌, List, [], ◌∷◌, ◌++◌, length, map, reverse}
use Rattle.std.proofs.Common.{refl, sym, ap, ◌∙◌, subst, arith}
use Rattle.std.specs.Prelude.{Some, slice_get}
use Rattle.std.proofs.lemmas.List.{length-reverse}
use Rattle.jc_base.specs.declared.record.MethodRec.{MethodRec}
use Rattle.jc_base.specs.Each.{Each, IsAmong}
use Rattle.jc_base.specs.World.{Linked}
use Rattle.jc_decode.specs.declared.insn.Insn.{Insn}
use Rattle.jc_decode.specs.Listing.{listing}
use Rattle.jc_decode.specs.Standing.{AreSteps}
use Rattle.jc_decode.specs.Symbols.{Step}
use Rattle.jc_control.specs.WellFormed.{IsPlace}
use Rattle.jc_ops.specs.declared.operation.Operation.TheVariants as ops
use Rattle.jc_ops.specs.declared.operation.Sort.{Sort}
use Rattle.jc_ops.specs.declared.operation.Sort.TheVariants as sorts
use Rattle.vm_store.specs.declared.cell.Cell.{Cell}
use Rattle.vm_store.specs.Cells.{tagged}
use Rattle.vm_store.specs.State.{State, Frame, Object, first_frame, top, with_place}
use Rattle.vm_step.specs.Methods.{code_at, max_stack_of}
use Rattle.vm_step.specs.Raising.{running}
use Rattle.vm_step.specs.Run.{Runs, stands, steps as then}
use Rattle.vm_step.specs.Step.{Steps}
use Rattle.vm_step.specs.Values.{with_store}
use Rattle.xf_homes.specs.declared.home.Home.{Home}
use Rattle.xf_homes.specs.Home.{register_count, KeepsStack}
use Rattle.xf_homes.specs.Laws.{HasRegister}
use Rattle.xf_homes.specs.Order.{SlotsFollow as Follow, register_sum}
use Rattle.xf_homes.specs.Value.{type_width}
use Rattle.xf_homes.specs.Source.{Source}
use Rattle.xf_homes.specs.Plan.{stack_homes, register}
use Rattle.xf_emission.specs.Move.{with_byte, store_op, store, spill}
use Rattle.law_rewritten_typing.specs.Planned.{IsPlanned}
use Rattle.law_rewritten_typing.specs.Edges.{CellsFillStack, FillStack}
use Rattle.law_rewritten_typing.proofs.Stacks.{turned-cons}
use Rattle.law_homes.specs.Edges.{insns, IsBeside, AreSpilled, StacksSpill}
use Rattle.law_homes.specs.Held.{HoldsValue, slots}
use Rattle.law_homes.specs.Laws.{AreApart}
use Rattle.law_homes.specs.Moves.{IsExecutable, size, letter_of, InstructionsStandFrom, IsAtStep, OwnRegisters, value_in_register}
use Rattle.jc_decode.specs.Places.{place_after}
use Rattle.law_homes.proofs.Copies.{wide}
use Rattle.law_homes.proofs.Going.{operations-go-on}
use Rattle.law_homes.proofs.Loading.{store-resolves, step-place}
use Rattle.law_homes.proofs.Standing.{steps-execute}
use Rattle.law_homes.proofs.Valued.{asked_types, CellsAt, value-inside}
use Rattle.law_homes.proofs.StackStores.{piled, piled-stack, stored, stored-count, stored-holds, stored-apart, store-asked}
use Rattle.law_homes.proofs.Beside.{each-among, among-each, own, register-inside, register-small}
use Rattle.law_homes.proofs.Beside.{typed, count-registers, count-stack, stack-fits, placed-state}
use Rattle.law_homes.specs.Premises.{AreMoveLaws}
use Rattle.law_homes.proofs.Beside.{cells-valued, held-as}
use Rattle.jc_base.proofs.Eaching.{IsAmong-append_cases}

-- a store into a home
abbrev pub store_of : Source → Home → Insn
store_of s k = with_byte (store_op k.ty) (register s k)

stores-are : (s : Source) (hs : List Home) → insns (map (store s) hs) ≡ map (store_of s) hs
stores-are s [] = refl
stores-are s (h ∷ hs) = ap (λ (is : List Insn). store_of s h ∷ is) (stores-are s hs)

pub insns-spill : (s : Source) (hs : List Home) → insns (spill s hs) ≡ map (store_of s) (reverse hs)
unfolding spill
insns-spill s hs = stores-are s (reverse hs)

module _
    (w : Linked) (world : IsExecutable w) (place : ℕ → ℕ) (steps : List Step) (s : Source) (owns : OwnRegisters s)
    (values : List Cell)
    (method : ℕ) (below : List (Frame Cell)) (heap : List (Object Cell)) (statics : List Cell)
    (m : MethodRec) (is_method : slice_get w.methods method ≡ Some m)
    (are : AreSteps (code_at w method) place 0 steps (listing (code_at w method))) where
  abbrev frame : ℕ → List Cell → List Cell → Frame Cell
  frame p registers stack = record { method = method; place = p; registers = registers; stack = stack }

  abbrev at : ℕ → List Cell → List Cell → State Cell
  at p registers stack = record { frames = frame p registers stack ∷ below; heap = heap; statics = statics }

  store-is :
      (letter : Sort) (slot r p q : ℕ) (registers stack : List Cell)
      → with_place (with_store tagged letter r (at p registers (value_in_register letter slot values ++ stack))) q
      ≡ at q (stored letter values slot r registers) stack
  store-is x slot r p q registers stack = grind (arith)

  store-depth :
      (letter : Sort) (slot r p : ℕ) (registers stack : List Cell)
      → length (top (with_store tagged letter r (at p registers (value_in_register letter slot values ++ stack)))).stack ≡ length stack
  store-depth x slot r p registers stack = grind (arith)

  store-method :
      (letter : Sort) (slot r p : ℕ) (registers stack : List Cell)
      → (top (with_store tagged letter r (at p registers (value_in_register letter slot values ++ stack)))).method ≡ method
  store-method x slot r p registers stack = grind (arith)

  -- what a home has to be for its value to be stored there from the stack
  pub record IsStored (count : ℕ) (k : Home) : Type 0 where
    pub has : HasRegister s.homes k
    pub small : register s k < 256
    pub inside : register s k + type_width k.ty ≤ count
    pub value : CellsAt w.classes (map (λ (o : Object Cell). o.kind) heap) values k.slot (asked_types w.classes (letter_of k.ty))

  pub one-store :
      (n : ℕ) (registers stack : List Cell) (k : Home)
      → slice_get steps n ≡ Some (record { insn = store_of s k; targets = []; keys = [] })
      → suc n < length steps
      → IsStored (length registers) k
      → length stack ≤ max_stack_of w method
      → Steps tagged w (at (place n) registers (value_in_register (letter_of k.ty) k.slot values ++ stack))
      (running (at (place (n + 1)) (stored (letter_of k.ty) values k.slot (register s k) registers) stack))
  one-store n registers stack k stand further is room =
      let letter : Sort = letter_of k.ty in
      let r : ℕ = register s k in
      let t : State Cell = at (place n) registers (value_in_register letter k.slot values ++ stack) in
      let ex = steps-execute w world t m place steps n 0 (record { insn = store_of s k; targets = []; keys = [] }) (ops.Store letter r)
      (omega arith) is_method are stand refl (store-resolves w m 0 r k.ty is.small) in
      let z : State Cell = with_store tagged letter r t in
      let next : IsPlace (code_at w method) (place (n + 1)) = step-place (code_at w method) place steps (n + 1) are (omega (arith, further)) in
      let same_method = store-method letter k.slot r (place n) registers stack in
      let fits : r + size letter ≤ length registers = let i = is.inside in let e = wide k.ty in omega (arith, i, e) in
      let went : Steps tagged w t (running (with_place z (place_after ex.instruction))) =
      operations-go-on w world.chains t z ex.instruction (ops.Store letter r) ex.executes
      (store-asked w (map (λ (o : Object Cell). o.kind) heap) letter values k.slot r registers stack is.value fits) refl
      (let d = store-depth letter k.slot r (place n) registers stack in let e = ap (max_stack_of w) same_method in omega (arith, room, d, e))
      (subst (λ (x : ℕ). IsPlace (code_at w x) (place_after ex.instruction)) (sym same_method)
      (subst (IsPlace (code_at w method)) (sym ex.ends) next)) in
      subst (λ (y : State Cell). Steps tagged w t (running y))
      (ap (λ (q : ℕ). with_place z q) ex.ends ∙ store-is letter k.slot r (place n) (place (n + 1)) registers stack) went

  -- the homes after a list of stores
  pub record Spilled (n : ℕ) (registers stack : List Cell) (ks : List Home) : Type 0 where
    pub after : List Cell
    pub runs : Runs tagged w (length ks) (at (place n) registers (piled values ks stack)) (running (at (place (n + length ks)) after stack))
    pub many : length after ≡ length registers
    pub keeps :
        (a : Home) → HasRegister s.homes a → HoldsValue s values (frame 0 registers []) a → HoldsValue s values (frame 0 after []) a
    pub holds : Each (HoldsValue s values (frame 0 after [])) ks
    pub others :
        (cells : List Cell) (a : Home) → HasRegister s.homes a → ((k : Home) → IsAmong k ks → a ≡ k → ⊥)
        → HoldsValue s cells (frame 0 registers []) a → HoldsValue s cells (frame 0 after []) a

  more-piled : (k : Home) (ks : List Home) (stack : List Cell) → length (piled values ks stack) ≤ length (piled values (k ∷ ks) stack)
  more-piled k ks stack = by (letter_of k.ty)
    where
      by : (letter : Sort) → length (piled values ks stack) ≤ length (value_in_register letter k.slot values ++ piled values ks stack)
      by sorts.Reference = omega arith
      by sorts.Short = omega arith
      by sorts.Int = omega arith

  pub spill-from :
      (n : ℕ) (registers stack : List Cell) (ks : List Home)
      → InstructionsStandFrom steps n (map (store_of s) ks)
      → n + length ks < length steps
      → Each (IsStored (length registers)) ks
      → length (piled values ks stack) ≤ max_stack_of w method
      → Spilled n registers stack ks
  spill-from n registers stack [] stand further are_stored room =
      let e : n ≡ n + 0 = omega arith in
      record {
        after = registers;
        runs = subst (λ (k : ℕ). Runs tagged w 0 (at (place n) registers stack) (running (at (place k) registers stack))) e stands;
        many = refl;
        keeps = λ a has held. held;
        holds = tt;
        others = λ cs a has apart held. held;
      }
  spill-from n registers stack (k ∷ ks) stand further are_stored room =
      let is = are_stored.0 in
      let next : List Cell = stored (letter_of k.ty) values k.slot (register s k) registers in
      let count : length next ≡ length registers = stored-count (letter_of k.ty) values k.slot (register s k) registers in
      let less = more-piled k ks stack in
      let first = one-store n registers (piled values ks stack) k stand.0 (omega (arith, further)) is (omega (arith, room, less)) in
      let rest = spill-from (n + 1) next stack ks stand.1 (omega (arith, further))
      (subst (λ (c : ℕ). Each (IsStored c) ks) (sym count) are_stored.1) (omega (arith, room, less)) in
      let last : n + 1 + length ks ≡ n + suc (length ks) = omega arith in
      let there : k.slot + type_width k.ty ≤ length values =
      let i = value-inside w.classes (map (λ (o : Object Cell). o.kind) heap) (letter_of k.ty) values k.slot is.value in
      let e = wide k.ty in omega (arith, i, e) in
      let written = stored-holds s (frame 0 registers []) k values is.inside there in
      record {
        after = rest.after;
        runs = then first
            (subst (λ (x : ℕ). Runs tagged w (length ks) (at (place (n + 1)) next (piled values ks stack)) (running (at (place x) rest.after stack)))
            last rest.runs);
        many = rest.many ∙ count;
        keeps = λ a has held. rest.keeps a has (by a held (owns a k has is.has) written);
        holds = (rest.keeps k is.has written, rest.holds);
        others = λ cs a has apart held. rest.others cs a has (λ j among. apart j (inr among)) (other cs a held (apart k (inl refl)) (owns a k has is.has));
      }
    where
      by :
          (a : Home) → HoldsValue s values (frame 0 registers []) a → (a ≡ k) ⊎ AreApart (register s a) (type_width a.ty) (register s k)
          (type_width k.ty)
          → HoldsValue s values (frame 0 (stored (letter_of k.ty) values k.slot (register s k) registers) []) k
          → HoldsValue s values (frame 0 (stored (letter_of k.ty) values k.slot (register s k) registers) []) a
      by a held (inl same) written =
          subst (λ (x : Home). HoldsValue s values (frame 0 (stored (letter_of k.ty) values k.slot (register s k) registers) []) x) (sym same) written
      by a held (inr apart) written = stored-apart s (frame 0 registers []) k values are_stored.0.inside values a apart held

      other :
          (cs : List Cell) (a : Home) → HoldsValue s cs (frame 0 registers []) a → (a ≡ k → ⊥)
          → (a ≡ k) ⊎ AreApart (register s a) (type_width a.ty) (register s k) (type_width k.ty)
          → HoldsValue s cs (frame 0 (stored (letter_of k.ty) values k.slot (register s k) registers) []) a
      other cs a held no_same (inl same) = absurd (no_same same)
      other cs a held no_same (inr apart) = stored-apart s (frame 0 registers []) k values are_stored.0.inside cs a apart held

-- ---- a whole stack

among-last : (h : Home) (hs ks : List Home) → IsAmong h hs ⊎ IsAmong h ks → IsAmong h (hs ++ ks)
among-last h [] ks (inl a) = absurd a
among-last h [] ks (inr a) = a
among-last h (k ∷ hs) ks (inl (inl e)) = inl e
among-last h (k ∷ hs) ks (inl (inr a)) = inr (among-last h hs ks (inl a))
among-last h (k ∷ hs) ks (inr a) = inr (among-last h hs ks (inr a))

pub among-reverse : (h : Home) (hs : List Home) → IsAmong h hs → IsAmong h (reverse hs)
among-reverse h [] a = absurd a
among-reverse h (k ∷ hs) (inl e) = subst (IsAmong h) (sym (turned-cons k hs)) (among-last h (reverse hs) (k ∷ []) (inr (inl e)))
among-reverse h (k ∷ hs) (inr b) = subst (IsAmong h) (sym (turned-cons k hs)) (among-last h (reverse hs) (k ∷ []) (inl (among-reverse h hs b)))

pub reverse-among : (h : Home) (hs : List Home) → IsAmong h (reverse hs) → IsAmong h hs
reverse-among h [] a = a
reverse-among h (k ∷ hs) a = by (IsAmong-append_cases h (reverse hs) (k ∷ []) (subst (IsAmong h) (turned-cons k hs) a)) (reverse-among h hs)
  where
    by : IsAmong h (reverse hs) ⊎ IsAmong h (k ∷ []) → (IsAmong h (reverse hs) → IsAmong h hs) → IsAmong h (k ∷ hs)
    by (inl b) rest = inr (rest b)
    by (inr (inl e)) rest = inl e
    by (inr (inr b)) rest = absurd b

-- homes that follow one another have slots from the first on
pub slots-from : (n : ℕ) (hs : List Home) → Follow n hs → (h : Home) → IsAmong h hs → n ≤ h.slot
slots-from n [] follow h a = absurd a
slots-from n (k ∷ hs) follow h (inl e) = omega (arith, follow.0, ap (λ (x : Home). x.slot) e)
slots-from n (k ∷ hs) follow h (inr a) = omega (arith, slots-from (n + type_width k.ty) hs follow.1 h a)

module _ (v w : Linked) (l : AreMoveLaws v w) (place : ℕ → ℕ) (steps : List Step) (s : Source) (is : s.world ≡ v) (plan : IsPlanned s) (q : ℕ)
    (f : Frame Cell) (keeps : KeepsStack s.world s.method s.frames q) where
  spill-by :
      (g : Frame Cell) (below : List (Frame Cell)) (heap : List (Object Cell)) (statics : List Cell) (n : ℕ)
      → IsBeside w s q f (record { frames = g ∷ below; heap = heap; statics = statics })
      → IsAtStep w place steps (record { frames = g ∷ below; heap = heap; statics = statics }) n (length (stack_homes s q))
      → InstructionsStandFrom steps n (insns (spill s (stack_homes s q)))
      → g.stack ≡ f.stack
      → AreSpilled w s q f (record { frames = g ∷ below; heap = heap; statics = statics }) (place (n + length (stack_homes s q)))
  spill-by g below heap statics n beside at stand stack_is =
      let t : State Cell = record { frames = g ∷ below; heap = heap; statics = statics } in
      let hs : List Home = stack_homes s q in
      let filled : FillStack s q (typed v w l s is plan q f t beside).frame =
      (subst CellsFillStack (sym is) l.fill) s refl plan q (typed v w l s is plan q f t beside).frame (typed v w l s is plan q f t beside).at keeps in
      let follow : Follow (length f.registers) hs = subst (λ (k : ℕ). Follow k hs) (sym (count-registers v w l s is plan q f t beside)) filled.follow in
      let sum : register_sum hs ≡ length f.stack = filled.fill ∙ sym (count-stack v w l s is plan q f t beside) in
      let pile : piled (slots f) (reverse hs) [] ≡ f.stack = piled-stack f hs follow sum in
      let count : length (reverse hs) ≡ length hs = length-reverse hs in
      let stored_each : Each (IsStored w l.world place steps s (own v w l s is plan) (slots f) g.method below heap statics at.method at.is_method at.are
      (length g.registers)) (reverse hs) =
      each-among (IsStored w l.world place steps s (own v w l s is plan) (slots f) g.method below heap statics at.method at.is_method at.are
      (length g.registers)) (reverse hs)
      (λ k a.
      let c = cells-valued v w l s is plan q f t beside keeps k (reverse-among k hs a) in
      record {
        has = c.0.has;
        small = register-small v w l s is plan k c.0.has;
        inside = omega (arith, register-inside v w l s is plan k c.0.has, beside.count);
        value = c.1;
      }) in
      let ran = spill-from w l.world place steps s (own v w l s is plan) (slots f) g.method below heap statics at.method at.is_method at.are
      n g.registers [] (reverse hs) (subst (InstructionsStandFrom steps n) (insns-spill s hs) stand) (omega (arith, at.further, count)) stored_each
      (omega (arith, ap length pile, stack-fits v w l s is plan q f t beside, beside.room)) in
      let whole : piled (slots f) (reverse hs) [] ≡ g.stack = pile ∙ sym stack_is in
      let begins : record {
        frames = record { method = g.method; place = place n; registers = g.registers; stack = piled (slots f) (reverse hs) [] } ∷ below;
        heap = heap;
        statics = statics;
      } ≡ t =
      ap
      (λ (cs : List Cell). record {
        frames = record { method = g.method; place = place n; registers = g.registers; stack = cs } ∷ below;
        heap = heap;
        statics = statics;
      }) whole
      ∙ placed-state g below heap statics (place n) at.at in
      record {
        registers = ran.after;
        runs = grind (arith, reverse);
        count = ran.many;
        cells = grind (arith, each-among, held-as, among-each, reverse, among-reverse);
        others = λ cs h has low held.
            held-as s cs (record { method = g.method; place = 0; registers = ran.after; stack = [] }) (record g { registers = ran.after }) h refl
            (ran.others cs h has
            (λ k a e. let far = slots-from (register_count s.method.rec) hs filled.follow k (reverse-among k hs a) in
            absurd (omega (arith, far, low, ap (λ (x : Home). x.slot) e)))
            (held-as s cs g (record { method = g.method; place = 0; registers = g.registers; stack = [] }) h refl held));
      }

  spill-frames :
      (fs : List (Frame Cell)) (heap : List (Object Cell)) (statics : List Cell) (n : ℕ)
      → IsBeside w s q f (record { frames = fs; heap = heap; statics = statics })
      → IsAtStep w place steps (record { frames = fs; heap = heap; statics = statics }) n (length (stack_homes s q))
      → InstructionsStandFrom steps n (insns (spill s (stack_homes s q)))
      → (first_frame fs).stack ≡ f.stack
      → AreSpilled w s q f (record { frames = fs; heap = heap; statics = statics }) (place (n + length (stack_homes s q)))
  spill-frames x heap statics n beside at stand e = grind (arith, spill-by)

pub stacks-spill : (v w : Linked) → AreMoveLaws v w → StacksSpill v w
stacks-spill v w l place steps t n s q f is plan beside keeps at stand e =
    spill-frames v w l place steps s is plan q f keeps t.frames t.heap t.statics n beside at stand e
