-- Cells of a stack that are copied from homes to others, and the arguments at a method's start.
use Rattle.std.proofs.Common.{◌≡◌, ◌⊎◌, inl, inr, ℕ, ◌+◌, ◌<◌, ◌≤◌, List, [], ◌∷◌, length, replicate, refl, sym, ap}
use Rattle.std.proofs.Common.{◌∙◌, subst, arith, length-append}
use Rattle.std.specs.Prelude.{Option, Some, None, IfSome, slice_get}
use Rattle.jc_base.specs.declared.ty.Ty.{Ty}
use Rattle.jc_base.specs.declared.ty.Ty.TheVariants.{IntHigh}
use Rattle.jc_base.specs.Each.{Each, IsAmong}
use Rattle.jc_base.specs.World.{Linked}
use Rattle.jc_decode.specs.Symbols.{Step}
use Rattle.jc_ops.specs.declared.operation.Sort.TheVariants as sorts
use Rattle.vm_store.specs.declared.cell.Cell.{Cell}
use Rattle.vm_store.specs.declared.cell.Cell.TheVariants.{Empty}
use Rattle.vm_store.specs.State.{State, Frame, Object, first_frame}
use Rattle.vm_step.specs.Methods.{max_stack_of}
use Rattle.xf_homes.specs.declared.home.Home.{Home}
use Rattle.xf_homes.specs.Home.{argument_types, KeepsStack}
use Rattle.xf_homes.specs.Laws.{HomesServe}
use Rattle.xf_homes.specs.Value.{value_in_cells, type_width}
use Rattle.xf_homes.specs.Source.{Source}
use Rattle.xf_homes.specs.Plan.{stack_homes, home_of, or_first, register}
use Rattle.xf_emission.specs.Edge.{cell_copies}
use Rattle.law_rewritten_typing.specs.Planned.{IsPlanned}
use Rattle.law_rewritten_typing.proofs.Ready.{IsValueAt, value-is}
use Rattle.law_rewritten_typing.proofs.Moves.{get-inside}
use Rattle.law_rewritten_typing.specs.Edges.{AreMatched, none_matched, more_matched}
use Rattle.law_homes.specs.Edges.{insns, IsBeside, AreMoved, CellsRun, StartsHold}
use Rattle.law_homes.specs.Held.{HoldsValue, slots}
use Rattle.law_homes.specs.Moves.{letter_of, InstructionsStandFrom, IsAtStep}
use Rattle.law_homes.proofs.Beside.{each-among, among-each, own, register-inside, register-small}
use Rattle.law_homes.proofs.Beside.{cells-valued, held-as, placed-state}
use Rattle.law_homes.specs.Premises.{AreMoveLaws}
use Rattle.law_homes.proofs.Carrying.{same-letter, same-or-reference, ArePairs, no_pairs, more_pairs, cells-run}
use Rattle.law_homes.proofs.Edging.{home-same}
use Rattle.jc_base.proofs.Lists.{slice_get-left}

module _ (v w : Linked) (l : AreMoveLaws v w) (place : ℕ → ℕ) (steps : List Step) (s : Source) (is : s.world ≡ v) (plan : IsPlanned s) (q : ℕ)
    (f : Frame Cell) (keeps : KeepsStack s.world s.method s.frames q) where
  module _
      (g : Frame Cell) (below : List (Frame Cell)) (heap : List (Object Cell)) (statics : List Cell) (n count : ℕ)
      (beside : IsBeside w s q f (record { frames = g ∷ below; heap = heap; statics = statics }))
      (at : IsAtStep w place steps (record { frames = g ∷ below; heap = heap; statics = statics }) n count)
      (low : length g.stack ≤ s.method.rec.max_stack) where
    abbrev t : State Cell
    t = record { frames = g ∷ below; heap = heap; statics = statics }

    room : 1 + length g.stack ≤ max_stack_of w g.method
    room = omega (arith, low, beside.room)

    pairs-of :
        {hs ks : List Home} → AreMatched s hs ks → Each (HoldsValue s (slots f) g) hs → ((k : Home) → IsAmong k ks → IsAmong k (stack_homes s q))
        → ArePairs w l.world place steps s (own v w l s is plan) (slots f) g.method g.stack below heap statics at.method at.is_method at.are room
        g.registers hs ks
    pairs-of none_matched held inside = no_pairs
    pairs-of (more_matched {h = h} {k = k} slot of_h of_k loads more) held inside =
        let letter : letter_of h.ty ≡ letter_of k.ty = same-letter h.ty k.ty loads in
        let valued = (cells-valued v w l s is plan q f t beside keeps k (inside k (inl refl))).1 in
        more_pairs
        (record {
          stood =
              grind (
                arith,
                register-small v w l s is plan h of_h.has,
                held-as s (slots f) g (record { method = g.method; place = 0; registers = g.registers; stack = g.stack }) h refl held.0,
              );
          copies = grind (arith, register-small, register-inside);
          single = by slot (same-or-reference h.ty k.ty loads);
        }) (pairs-of more held.1 (λ j a. inside j (inr a)))
      where
        by : {h k : Home} → h.slot ≡ k.slot → (k.ty ≡ h.ty) ⊎ (letter_of h.ty ≡ sorts.Reference) → (k ≡ h)
            ⊎ (letter_of h.ty ≡ sorts.Reference)
        by {h = h} {k = k} slot (inl same) = inl (home-same k h (sym slot) same)
        by slot (inr reference) = inr reference

    run-cells :
        (hs ks : List Home) → AreMatched s hs ks → Each (HoldsValue s (slots f) g) hs → ((k : Home) → IsAmong k ks → IsAmong k (stack_homes s q))
        → count ≡ length (insns (cell_copies s hs ks)) → InstructionsStandFrom steps n (insns (cell_copies s hs ks))
        → AreMoved w s f t ks (length (insns (cell_copies s hs ks))) (place (n + length (insns (cell_copies s hs ks))))
    run-cells hs ks matched held inside is_count stand =
        let ran = cells-run w l.world place steps s (own v w l s is plan) (slots f) g.method g.stack below heap statics at.method at.is_method at.are room
        l.same_is g.registers g.registers (pairs-of matched held inside) n (record { many = refl; keeps = λ a has held. held }) stand
        (omega (arith, at.further, is_count)) in
        let begins = placed-state g below heap statics (place n) at.at in
        record {
          registers = ran.after;
          runs = grind (arith);
          count = ran.many;
          cells = grind (arith, each-among, held-as, among-each);
          others = λ h has held.
              held-as s (slots f) (record { method = g.method; place = 0; registers = ran.after; stack = g.stack }) (record g { registers = ran.after }) h refl
              (ran.keeps h has (held-as s (slots f) g (record { method = g.method; place = 0; registers = g.registers; stack = g.stack }) h refl held));
        }

  cells-frames :
      (fs : List (Frame Cell)) (heap : List (Object Cell)) (statics : List Cell) (n : ℕ) (hs ks : List Home)
      → IsBeside w s q f (record { frames = fs; heap = heap; statics = statics })
      → AreMatched s hs ks
      → IsAtStep w place steps (record { frames = fs; heap = heap; statics = statics }) n (length (insns (cell_copies s hs ks)))
      → InstructionsStandFrom steps n (insns (cell_copies s hs ks))
      → length (first_frame fs).stack ≤ s.method.rec.max_stack
      → ((k : Home) → IsAmong k ks → IsAmong k (stack_homes s q))
      → Each (HoldsValue s (slots f) (first_frame fs)) hs
      → AreMoved w s f (record { frames = fs; heap = heap; statics = statics }) ks (length (insns (cell_copies s hs ks)))
      (place (n + length (insns (cell_copies s hs ks))))
  cells-frames x heap statics n hs ks beside matched at stand low inside held = grind (arith, run-cells)

pub cells-all-run : (v w : Linked) → AreMoveLaws v w → CellsRun v w
cells-all-run v w l place steps t n s q f hs ks is plan beside matched at stand low inside keeps held =
    cells-frames v w l place steps s is plan q f keeps t.frames t.heap t.statics n hs ks beside matched at stand low inside held

-- ---- the start

value-width : (types : List Ty) (x : ℕ) (ty : Ty) → IsValueAt types x ty → x + type_width ty ≤ length types
value-width types x IntHigh is = let b = get-inside types (x + 1) _ (is.second refl) in omega (arith, b)
value-width types x ty is = one ty (get-inside types x ty is.first)
  where
    one : (u : Ty) → x < length types → x + 1 ≤ length types
    one u lt = omega (arith, lt)

pub starts-hold : (v : Linked) → HomesServe v → StartsHold v
starts-hold v serves s f g args a b is plan left right count x = by (value_in_cells (argument_types s.method.rec) x) refl
  where
    by : (o : Option Ty) → value_in_cells (argument_types s.method.rec) x ≡ o → IfSome (home_of x o) (HoldsValue s f.registers g)
    by None e = tt
    by (Some ty) e =
        let h : Home = record { slot = x; ty = ty } in
        let inside = value-width (argument_types s.method.rec) x ty (value-is (argument_types s.method.rec) x ty e) in
        let own : register s h ≡ x = ap or_first ((subst HomesServe (sym is) serves s.method s.frames s.homes plan.homes).arguments h e) in
        let first : (n : ℕ) → n < type_width ty → slice_get f.registers (x + n) ≡ slice_get args (x + n) =
        λ n lt. ap (λ (rs : List Cell). slice_get rs (x + n)) left ∙ slice_get-left args (replicate a Empty) (x + n) (omega (arith, lt, inside, count)) in
        let second : (n : ℕ) → n < type_width ty → slice_get g.registers (x + n) ≡ slice_get args (x + n) =
        λ n lt. ap (λ (rs : List Cell). slice_get rs (x + n)) right ∙ slice_get-left args (replicate b Empty) (x + n) (omega (arith, lt, inside, count)) in
        record {
          known = omega (arith, inside, count, ap length left, length-append args (replicate a Empty));
          there = omega (arith, own, inside, count, ap length right, length-append args (replicate b Empty));
          equal = λ n lt. ap (λ (r : ℕ). slice_get g.registers (r + n)) own ∙ second n lt ∙ sym (first n lt);
        }
