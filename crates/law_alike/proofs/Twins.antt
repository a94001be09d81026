-- Two states that are alike, side by side, and acts over them that come to the same.
use Rattle.std.proofs.Common.{◌≡◌, ℕ, suc, ◌+◌, ◌<◌, ◌≤◌, ◌⊎◌, ◌==◌, Bool, true, false, if◌then◌else◌, List, ◌∷◌}
use Rattle.std.proofs.Common.{length, map, drop, refl, sym, subst, arith}
use Rattle.std.specs.Prelude.{ℤ, Option, Some, None, slice_get}
use Rattle.jc_rules.specs.Footprint.{Footprint}
use Rattle.vm_store.specs.declared.cell.Cell.{Cell}
use Rattle.vm_store.specs.declared.cell.ObjectKind.{ObjectKind}
use Rattle.vm_store.specs.Cells.{tagged}
use Rattle.vm_store.specs.State.{State, Frame, Object, map_object, top, arguments}
use Rattle.vm_store.specs.Value.{with_value}
use Rattle.vm_step.specs.declared.ending.Value.{Value}
use Rattle.vm_step.specs.declared.ending.Exception.{Exception}
use Rattle.vm_step.specs.declared.ending.Exception.TheVariants as exceptions
use Rattle.vm_step.specs.Act.{Act, goes, jumps, makes, calls, gives, raises, throws, lacks, unless_null, if_some}
use Rattle.vm_step.specs.Numbers.{replaced}
use Rattle.law_alike.specs.Alike.{ArePlain, renamed_cell, StayAlike}
use Rattle.law_alike.proofs.Cells.{replaced-renamed}

-- the two states before the step: of the second what is not in the first. The footprints of the two operations, whether the second
-- falls
-- through, and the targets of both
pub record Pair : Type 0 where
  pub rename : ℕ → ℕ
  pub frame : Frame Cell
  pub below : List (Frame Cell)
  pub heap : List (Object Cell)
  pub statics : List Cell
  pub method : ℕ
  pub place : ℕ
  pub registers : List Cell
  pub under : List (Frame Cell)
  pub depth : length under ≡ length below
  pub heap_stays : map (map_object (renamed_cell rename)) heap ≡ heap
  pub statics_stay : map (renamed_cell rename) statics ≡ statics
  pub print : Footprint
  pub other_print : Footprint
  pub falls : Bool
  pub targets : List ℤ
  pub other_targets : List ℤ

-- the first state with other registers, stack, objects and static fields
abbrev pub one : Pair → List Cell → List Cell → List (Object Cell) → List Cell → State Cell
one x registers stack heap statics =
    record {
      frames = record { method = x.frame.method; place = x.frame.place; registers = registers; stack = stack } ∷ x.below;
      heap = heap;
      statics = statics;
    }

-- the second
abbrev pub two : Pair → List Cell → List Cell → List (Object Cell) → List Cell → State Cell
two x registers stack heap statics =
    record {
      frames = record { method = x.method; place = x.place; registers = registers; stack = stack } ∷ x.under;
      heap = heap;
      statics = statics;
    }

abbrev pub first : Pair → State Cell
first x = one x x.frame.registers x.frame.stack x.heap x.statics

abbrev pub second : Pair → State Cell
second x = two x x.registers (map (renamed_cell x.rename) x.frame.stack) x.heap x.statics

-- registers after a step of this footprint
pub record Kept (p : Footprint) (before after : List Cell) : Type 0 where
  pub count : length after ≡ length before
  pub others : (n : ℕ) → (n < p.register) ⊎ (p.register + p.written ≤ n) → slice_get after n ≡ slice_get before n

pub kept-same : (p : Footprint) (registers : List Cell) → Kept p registers registers
kept-same p registers = record { count = refl; others = λ n out. refl }

-- what an operation comes to in the first state and in the second
pub data Does (x : Pair) : Act Cell → Act Cell → Type 0 where
  goes_both :
      {z y : State Cell} → x.falls ≡ true → StayAlike (renamed_cell x.rename) x.print x.other_print (first x) z (second x) y
      → Does x (goes z) (goes y)
  leads_both :
      (n : ℕ) {to on : ℤ} {z y : State Cell}
      → slice_get x.targets n ≡ Some to → slice_get x.other_targets n ≡ Some on
      → StayAlike (renamed_cell x.rename) x.print x.other_print (first x) z (second x) y
      → Does x (jumps to z) (jumps on y)
  makes_both :
      {kind : ObjectKind} {cs : List Cell} {reference other : ℕ → Cell} {z y : State Cell}
      → x.falls ≡ true
      → ((h : ℕ) → other h ≡ renamed_cell x.rename (reference h))
      → map (renamed_cell x.rename) cs ≡ cs
      → StayAlike (renamed_cell x.rename) x.print x.other_print (first x) z (second x) y
      → Does x (makes kind cs reference z) (makes kind cs other y)
  calls_both :
      (method count : ℕ) {z y : State Cell}
      → StayAlike (renamed_cell x.rename) x.print x.other_print (first x) z (second x) y
      → (top z).place ≡ x.frame.place
      → (top y).place ≡ x.place
      → arguments count (top y).stack ≡ arguments count (top z).stack
      → Does x (calls method count z) (calls method count y)
  gives_both : (value : Value) (cs : List Cell) → ArePlain tagged cs → Does x (gives value cs) (gives value cs)
  raises_both : (exception : Exception) → Does x (raises exception) (raises exception)
  throws_both : (handle : ℕ) → Does x (throws handle) (throws handle)
  lacks_both : (class : ℕ) → Does x (lacks class) (lacks class)

module _ (x : Pair) where
  -- ---- states that stay alike

  pub twins :
      (registers others stack : List Cell) (heap : List (Object Cell)) (statics : List Cell)
      → Kept x.print x.frame.registers registers
      → Kept x.other_print x.registers others
      → ((n : ℕ) → n < x.print.written → slice_get others (x.other_print.register + n) ≡ slice_get registers (x.print.register + n))
      → map (map_object (renamed_cell x.rename)) heap ≡ heap
      → map (renamed_cell x.rename) statics ≡ statics
      → StayAlike (renamed_cell x.rename) x.print x.other_print
      (first x) (one x registers stack heap statics)
      (second x) (two x others (map (renamed_cell x.rename) stack) heap statics)
  twins registers others stack heap statics kept also written objects fields = grind (arith, suc)

  -- where no register is written
  pub stack-twins :
      x.print.written ≡ 0 → (stack : List Cell) (heap : List (Object Cell)) (statics : List Cell)
      → map (map_object (renamed_cell x.rename)) heap ≡ heap
      → map (renamed_cell x.rename) statics ≡ statics
      → StayAlike (renamed_cell x.rename) x.print x.other_print
      (first x) (one x x.frame.registers stack heap statics)
      (second x) (two x x.registers (map (renamed_cell x.rename) stack) heap statics)
  stack-twins none stack heap statics objects fields = grind (arith)

  -- ---- acts

  -- another stack
  pub stack-does :
      x.print.written ≡ 0 → x.falls ≡ true → (stack other : List Cell) → other ≡ map (renamed_cell x.rename) stack
      → Does x (goes (one x x.frame.registers stack x.heap x.statics)) (goes (two x x.registers other x.heap x.statics))
  stack-does none falls stack other e =
      subst (λ cs. Does x (goes (one x x.frame.registers stack x.heap x.statics)) (goes (two x x.registers cs x.heap x.statics)))
      (sym e)
      (goes_both falls (stack-twins none stack x.heap x.statics x.heap_stays x.statics_stay))

  -- a value in place of so many cells
  pub replaced-does :
      x.print.written ≡ 0 → x.falls ≡ true → (count : ℕ) (value other : List Cell) → map (renamed_cell x.rename) value ≡ other
      → Does x (goes (replaced (first x) count value)) (goes (replaced (second x) count other))
  replaced-does none falls count value other e =
      stack-does none falls (with_value value (drop count x.frame.stack))
      (with_value other (drop count (map (renamed_cell x.rename) x.frame.stack)))
      (replaced-renamed x.rename count value other x.frame.stack e)

  pub null-does : (h k : ℕ) (a b : ℕ → Act Cell) → k ≡ h → Does x (a h) (b h) → Does x (unless_null h a) (unless_null k b)
  null-does h k a b e d = subst (λ n. Does x (unless_null h a) (unless_null n b)) (sym e) (go (h == 0))
    where
      go :
          (test : Bool) → Does x (if test then raises exceptions.NullPointer else a h)
          (if test then raises exceptions.NullPointer else b h)
      go true = raises_both exceptions.NullPointer
      go false = d

  pub some-does :
      {X : Type 0} (exception : Exception) (o p : Option X) (a b : X → Act Cell) → p ≡ o → ((y : X) → Does x (a y) (b y))
      → Does x (if_some exception o a) (if_some exception p b)
  some-does {X} exception o p a b e d =
      subst (λ (r : Option X). Does x (if_some exception o a) (if_some exception r b)) (sym e) (go o)
    where
      go : (r : Option X) → Does x (if_some exception r a) (if_some exception r b)
      go None = raises_both exception
      go (Some y) = d y
