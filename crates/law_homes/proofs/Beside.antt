-- What is known of a state beside a frame of the source: its homes, and the types of the cells that stand in them.
use Rattle.std.proofs.Common.{◌≡◌, inl, inr, ℕ, ◌+◌, ◌<◌, ◌≤◌, List, [], ◌∷◌, length, reverse}
use Rattle.std.proofs.Common.{refl, sym, ap, ◌∙◌, subst, arith, length-append}
use Rattle.std.specs.Prelude.{Option, Some, None, IsSomeAnd, is_some}
use Rattle.std.proofs.lemmas.List.{length-map, map-append}
use Rattle.jc_base.specs.declared.ty.Ty.{Ty}
use Rattle.jc_base.specs.declared.ty.Ty.TheVariants.{Bottom, Top}
use Rattle.jc_base.specs.Class.{ClassTable}
use Rattle.jc_base.specs.Each.{Each, IsAmong}
use Rattle.jc_base.specs.Laws.{ClassesAreObjects, IsOrderOfTypes}
use Rattle.jc_base.specs.Order.{IsKnown}
use Rattle.jc_base.specs.World.{Linked}
use Rattle.jc_rules.specs.Demand.{Frame as Types}
use Rattle.jc_rules.specs.Flow.{CellsBelow, FrameBelow, IsFit}
use Rattle.jc_rules.specs.FlowLaws.{IsOrderOfCells}
use Rattle.vm_store.specs.declared.cell.Cell.{Cell}
use Rattle.vm_store.specs.declared.cell.ObjectKind.{ObjectKind}
use Rattle.vm_store.specs.Objects.{kinds}
use Rattle.vm_store.specs.State.{State, Frame, Object, top}
use Rattle.vm_store.proofs.Stacks.{reverse-map}
use Rattle.law_sound.specs.Frames.{least_types, types_of_frame}
use Rattle.xf_homes.specs.declared.home.Home.{Home}
use Rattle.xf_homes.specs.Home.{register_count, KeepsStack}
use Rattle.xf_homes.specs.Laws.{HasRegister, Serve, HomesServe}
use Rattle.xf_homes.specs.Order.{register_sum}
use Rattle.xf_homes.specs.Value.{value_in_cells, type_width}
use Rattle.xf_homes.specs.Source.{Source}
use Rattle.xf_homes.specs.Plan.{stack_homes, needed, register}
use Rattle.law_rewritten_typing.specs.Planned.{IsPlanned, KeepsValues}
use Rattle.law_rewritten_typing.specs.Edges.{NeededHaveHomes, slot_types, CellsFillStack}
use Rattle.law_rewritten_typing.proofs.Registers.{both-below}
use Rattle.law_homes.specs.Edges.{IsBeside}
use Rattle.law_homes.specs.Held.{HoldsValue, slots}
use Rattle.law_homes.specs.Moves.{letter_of, CanLoad, OwnRegisters}
use Rattle.law_homes.specs.Premises.{AreMoveLaws}
use Rattle.law_homes.proofs.Copies.{homes-own-registers, wide}
use Rattle.law_homes.proofs.Valued.{asked_types, asked-size, CellsAt, cells-moved, load-asked, load-filled, value-cells}
use Rattle.jc_base.proofs.Lists.{slice_get-left}

pub some-width : (ty : Ty) → 0 < type_width ty
some-width ty = grind (arith)

pub each-among : (P : Home → Type 0) (hs : List Home) → ((h : Home) → IsAmong h hs → P h) → Each P hs
each-among P [] all = tt
each-among P (h ∷ hs) all = (all h (inl refl), each-among P hs (λ k a. all k (inr a)))

pub among-each : (P : Home → Type 0) (hs : List Home) (h : Home) → Each P hs → IsAmong h hs → P h
among-each P [] h all a = absurd a
among-each P (k ∷ ks) h all (inl e) = subst P e all.0
among-each P (k ∷ ks) h all (inr a) = among-each P ks h all.1 a

-- a state whose frame on top is at this place
pub placed-state :
    (g : Frame Cell) (below : List (Frame Cell)) (heap : List (Object Cell)) (statics : List Cell) (p : ℕ)
    → g.place ≡ p
    → ◌≡◌ {A = State Cell}
    (record {
      frames = record { method = g.method; place = p; registers = g.registers; stack = g.stack } ∷ below;
      heap = heap;
      statics = statics;
    })
    (record { frames = g ∷ below; heap = heap; statics = statics })
placed-state g below heap statics p at = grind (arith)

-- ---- held values, whatever else the frame has

pub held-as : (s : Source) (values : List Cell) (g k : Frame Cell) (h : Home) → k.registers ≡ g.registers → HoldsValue s values g h
    → HoldsValue s values k h
held-as s values g k h e held = grind (arith)

-- a local among all slots
pub held-in-slots : (s : Source) (f g : Frame Cell) (h : Home) → HoldsValue s f.registers g h → HoldsValue s (slots f) g h
held-in-slots s f g h held = record {
  known = let le = held.known in omega (arith, le, length-append f.registers (reverse f.stack));
  there = held.there;
  equal = λ n lt. held.equal n lt ∙ sym (slice_get-left f.registers (reverse f.stack) (h.slot + n) (let le = held.known in omega (arith, le, lt)));
}

pub held-in-registers : (s : Source) (f g : Frame Cell) (h : Home) → h.slot + type_width h.ty ≤ length f.registers → HoldsValue s (slots f) g h
    → HoldsValue s f.registers g h
held-in-registers s f g h inside held = record {
  known = inside;
  there = held.there;
  equal = λ n lt. held.equal n lt ∙ slice_get-left f.registers (reverse f.stack) (h.slot + n) (omega (arith, inside, lt));
}

module _ (v w : Linked) (l : AreMoveLaws v w) (s : Source) (is : s.world ≡ v) (plan : IsPlanned s) where
  pub serve : Serve s.world s.method s.frames s.homes
  serve = (subst HomesServe (sym is) l.serve) s.method s.frames s.homes plan.homes

  pub own : OwnRegisters s
  own = homes-own-registers s serve

  -- the registers of a home are there, and their numbers are of one byte
  pub register-inside : (h : Home) → HasRegister s.homes h → register s h + type_width h.ty ≤ register_sum s.homes
  register-inside h has = grind (arith, serve)

  pub register-small : (h : Home) → HasRegister s.homes h → register s h < 256
  register-small h has = omega (arith, register-inside h has, some-width h.ty, plan.few)

  module _ (q : ℕ) (f : Frame Cell) (t : State Cell) (beside : IsBeside w s q f t) where
    abbrev ks : List ObjectKind
    ks = kinds t

    -- both worlds have the same classes
    classes-are : v.classes ≡ w.classes
    classes-are = ap (λ (u : Linked). u.classes) (sym is) ∙ sym beside.classes

    order : IsOrderOfCells w.classes
    order = subst IsOrderOfCells classes-are l.rules.order

    pub types : IsOrderOfTypes w.classes
    types = subst IsOrderOfTypes classes-are l.rules.types

    pub objects : ClassesAreObjects w.classes
    objects = subst ClassesAreObjects classes-are l.objects

    -- the types of the source's frame at the place
    pub record Typed : Type 0 where
      pub frame : Types
      pub at : s.frames q ≡ Some frame
      pub below : FrameBelow w.classes (types_of_frame w.classes Top (kinds t) f) frame

    pub typed : Typed
    typed = by (s.frames q) refl beside.typed
      where
        by : (o : Option Types) → s.frames q ≡ o → IsSomeAnd o (FrameBelow w.classes (types_of_frame w.classes Top (kinds t) f)) → Typed
        by None e h = absurd h
        by (Some g) e h = record { frame = g; at = e; below = h }

    -- as many registers and cells as there are types
    pub count-registers : length f.registers ≡ register_count s.method.rec
    count-registers = grind (arith, length-map)

    pub count-stack : length f.stack ≡ length typed.frame.stack
    count-stack = grind (arith, length-map)

    -- the stack has room
    pub stack-fits : length f.stack ≤ s.method.rec.max_stack
    stack-fits = by (s.frames q) typed.at (plan.typing.fit q ((plan.frames.reached q).0 (ap is_some typed.at)))
      where
        by : (o : Option Types) → o ≡ Some typed.frame → IsSomeAnd o (IsFit s.method) → length f.stack ≤ s.method.rec.max_stack
        by None e h = absurd h
        by (Some g) e h = let own : g ≡ typed.frame = cc in omega (arith, h.room, ap (λ (k : Types). length k.stack) own, count-stack)

    -- all cells by slot have types below those of the frame
    pub slots-below : CellsBelow w.classes (least_types w.classes Top (kinds t) (slots f)) (slot_types typed.frame)
    slots-below = grind (arith, reverse, map-append, reverse-map, both-below)

    known-there : (h : Home) → KeepsValues s h → IsKnown w.classes h.ty
    known-there h keeps = subst (λ (c : ClassTable). IsKnown c h.ty) (sym beside.classes) keeps.known

    -- the values of a stack that is kept are of the types of their homes
    pub cells-valued :
        KeepsStack s.world s.method s.frames q → (h : Home) → IsAmong h (stack_homes s q)
        → KeepsValues s h × CellsAt w.classes (kinds t) (slots f) h.slot (asked_types w.classes (letter_of h.ty))
    cells-valued keeps h a =
        let filled = (subst CellsFillStack (sym is) l.fill) s refl plan q typed.frame typed.at keeps in
        let k = among-each (KeepsValues s) (stack_homes s q) h filled.keep a in
        let value = among-each (λ k. value_in_cells (slot_types typed.frame) k.slot ≡ Some k.ty) (stack_homes s q) h filled.values a in
        (k, value-cells w.classes types objects (kinds t) (slots f) (slot_types typed.frame) slots-below h.slot h.ty value k.kept (known-there h k))

    -- and so are those of locals that are needed
    pub needed-valued :
        (x : ℕ) (h : Home) → IsAmong h (needed s q x)
        → (h.slot ≡ x) × KeepsValues s h × CellsAt w.classes (kinds t) f.registers h.slot (asked_types w.classes (letter_of h.ty))
    needed-valued x h a =
        let n = (subst NeededHaveHomes (sym is) l.needed) s refl plan q x typed.frame h typed.at a in
        let above : CellsBelow w.classes typed.frame.regs n.types = subst (λ (c : ClassTable). CellsBelow c typed.frame.regs n.types) (sym beside.classes)
        n.above in (
          n.slot,
          n.keeps,
          value-cells w.classes types objects (kinds t) f.registers n.types (order.through typed.below.regs above) h.slot h.ty n.value n.keeps.kept
              (known-there h n.keeps),
        )

-- a value that stands in a home can be loaded
pub held-can-load :
    (w : Linked) (s : Source) (values : List Cell) (t : State Cell) (h : Home) → register s h < 256
    → HoldsValue s values (top t) h → CellsAt w.classes (kinds t) values h.slot (asked_types w.classes (letter_of h.ty)) → CanLoad w s t h
held-can-load w s values t h small held value =
    let there : CellsAt w.classes (kinds t) (top t).registers (register s h) (asked_types w.classes (letter_of h.ty)) =
    cells-moved w.classes (kinds t) values (top t).registers h.slot (register s h) (asked_types w.classes (letter_of h.ty))
    (λ n lt. held.equal n (let e = wide h.ty in let a = asked-size w.classes (letter_of h.ty) in omega (arith, lt, e, a))) value in (
      small,
      record {
        asked = load-asked w (kinds t) (letter_of h.ty) (register s h) (top t).registers (least_types w.classes Bottom (kinds t) (top t).stack) there;
        filled = load-filled w.classes (kinds t) (letter_of h.ty) (register s h) (top t).registers there;
      },
    )
