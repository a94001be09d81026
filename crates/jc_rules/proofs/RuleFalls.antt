-- The rule of an instruction that applies to a frame applies in the dataflow to each lesser one, with a lesser result.
use Rattle.std.proofs.Common.{ℕ, zero, suc, ◌+◌, ◌≤◌, List, [], ◌∷◌, length, arith}
use Rattle.std.proofs.Common.{reverse, get_or, Option, Some, None, IsSomeAnd, slice_get, All, refl, sym, subst}
use Rattle.jc_base.specs.declared.ty.Ty.{Ty}
use Rattle.jc_base.specs.declared.ty.Ty.TheVariants.{Short, Top}
use Rattle.jc_base.specs.declared.ty.Kind.{Kind}
use Rattle.jc_base.specs.Laws.{IsOrderOfTypes}
use Rattle.jc_base.specs.World.{Linked}
use Rattle.jc_ops.specs.declared.operation.Sort.{Sort}
use Rattle.jc_ops.specs.declared.operation.Sort.TheVariants as sorts
use Rattle.jc_ops.specs.declared.operation.Operation.{Operation}
use Rattle.jc_ops.specs.declared.operation.Operation.TheVariants as ops
use Rattle.jc_ops.specs.declared.operation.Want.{Want}
use Rattle.jc_rules.specs.declared.demand.Demand.TheVariants.{Cell}
use Rattle.jc_rules.specs.declared.effect.Mode.{Mode}
use Rattle.jc_rules.specs.declared.effect.Mode.TheVariants.{Flow}
use Rattle.jc_rules.specs.declared.rule.Outcome.{Outcome}
use Rattle.jc_rules.specs.Effect.{changed, raises_register}
use Rattle.jc_rules.specs.Demand.{Frame, Meets, SatisfiesAll}
use Rattle.jc_ops.specs.Next.{falls_from, ends_at}
use Rattle.jc_rules.specs.Rule.{cell, ready_with, call_demands, call_effect, cells_wanted, args_at, result_at, result_given, load_demands}
use Rattle.jc_rules.specs.Rule.{load_effect, store_effect, array_read_demands, array_read_effect, wrote, demands, effect}
use Rattle.jc_rules.specs.Flow.{CellsBelow, FrameBelow, IsNotTop}
use Rattle.jc_rules.specs.Laws.{IsNotBottom, OperationFalls, OperationFallsTo, RuleFalls}
use Rattle.jc_rules.specs.Apply.{OperationApplies}
use Rattle.jc_rules.proofs.CellLists.{Each, each-from_All, cells-or, cells-length}
use Rattle.jc_rules.proofs.Demands.{SatisfiesAll-rest}
use Rattle.jc_rules.proofs.Falls.{ReferenceDown, ReferencesDown, reference-down, references-down}
use Rattle.jc_rules.proofs.Falls.{all-falls, change-same, effect-same, changed-falls}
use Rattle.jc_rules.proofs.Falls.{store-flow, or_null-falls, element-falls, ready_with-falls}
use Rattle.jc_rules.proofs.Falls.{GivenBelow, ChangeBelow, EffectBelow, StoresBelow}

-- what is read of a cell that is there
pub some-or : (P : Ty → Type 0) (xs : List Ty) (n : ℕ) → IsSomeAnd (slice_get xs n) P → P (get_or xs n Top)
some-or P [] n h = absurd h
some-or P (x ∷ xs) zero h = h
some-or P (x ∷ xs) (suc n) h = some-or P xs n h

each-or : (P : Ty → Type 0) (xs : List Ty) (n : ℕ) → P Top → Each P xs → P (get_or xs n Top)
unfolding Each
each-or P [] n top h = top
each-or P (x ∷ xs) zero top h = h.0
each-or P (x ∷ xs) (suc n) top h = each-or P xs n top h.1

module _ (w : Linked) (are : IsOrderOfTypes w.classes) (f g : Frame) (regs : CellsBelow w.classes f.regs g.regs)
    (stack : CellsBelow w.classes f.stack g.stack) (no_bottom : Each IsNotBottom f.stack) where
  load-falls : (s : Sort) (x : ℕ) → SatisfiesAll w.classes g (load_demands w.classes s x) → EffectBelow w.classes (load_effect s x f) (load_effect s x g)
  unfolding ChangeBelow GivenBelow ReferenceDown
  load-falls x x2 h = grind (arith, or_null-falls, cells-or, reference-down, some-or, effect-same)

  store-falls : (s : Sort) (x : ℕ) → EffectBelow w.classes (store_effect s x f) (store_effect s x g)
  unfolding ChangeBelow GivenBelow
  store-falls sorts.Reference x = record { change = (refl, tt); register = refl; cells = cells-or w.classes 0 stack }
  store-falls sorts.Short x = effect-same w.classes are (store_effect sorts.Short x g)
  store-falls sorts.Int x = effect-same w.classes are (store_effect sorts.Int x g)

  array-falls : (k : Kind) → SatisfiesAll w.classes g (array_read_demands w.classes k)
      → EffectBelow w.classes (array_read_effect k f) (array_read_effect k g)
  unfolding ChangeBelow GivenBelow ReferencesDown
  array-falls x h = grind (arith, element-falls, cells-or, references-down, some-or, effect-same)

  call-falls : (args : List Ty) (result : Option Ty) (receiver : Option Want) → SatisfiesAll w.classes g (call_demands args receiver)
      → EffectBelow w.classes (call_effect args result receiver f) (call_effect args result receiver g)
  unfolding GivenBelow
  call-falls args result None h = effect-same w.classes are (call_effect args result None g)
  call-falls args result (Some want) h = record {
    change = subst (λ c. ChangeBelow w.classes c (ready_with (length args + 1) (result_given result) (cell g.stack (length args)) want))
        (sym (ready_with-falls w.classes are (length args + 1) (result_given result) want (cell f.stack (length args)) (cell g.stack (length args))
        (cells-or w.classes (length args) stack)
        (each-or IsNotBottom f.stack (length args) tt no_bottom)
        (some-or (Meets w.classes want) g.stack (length args)
        (SatisfiesAll-rest w.classes g (cells_wanted 0 (reverse args)) (Cell (length args) want ∷ []) h).0)))
        (change-same w.classes are (ready_with (length args + 1) (result_given result) (cell g.stack (length args)) want));
    register = refl;
    cells = tt;
  }

  effect-falls : (op : Operation) → SatisfiesAll w.classes g (demands w op) → EffectBelow w.classes (effect w op f) (effect w op g)
  effect-falls (ops.Load s x) h = load-falls s x h
  effect-falls (ops.Store s x) h = store-falls s x
  effect-falls (ops.ArrayRead k) h = array-falls k h
  effect-falls (ops.Call c) h = call-falls (args_at (slice_get w.methods c.method)) (result_at (slice_get w.methods c.method)) c.receiver h
  effect-falls (ops.Constant c) h = effect-same w.classes are (effect w (ops.Constant c) g)
  effect-falls (ops.Increment width x amount) h = effect-same w.classes are (effect w (ops.Increment width x amount) g)
  effect-falls (ops.Move m) h = effect-same w.classes are (effect w (ops.Move m) g)
  effect-falls (ops.Arithmetic a) h = effect-same w.classes are (effect w (ops.Arithmetic a) g)
  effect-falls (ops.ArrayWrite k) h = effect-same w.classes are (effect w (ops.ArrayWrite k) g)
  effect-falls ops.ArrayLength h = effect-same w.classes are (effect w ops.ArrayLength g)
  effect-falls (ops.Branch b) h = effect-same w.classes are (effect w (ops.Branch b) g)
  effect-falls (ops.Switch width) h = effect-same w.classes are (effect w (ops.Switch width) g)
  effect-falls (ops.StaticRead field) h = effect-same w.classes are (effect w (ops.StaticRead field) g)
  effect-falls (ops.StaticWrite field) h = effect-same w.classes are (effect w (ops.StaticWrite field) g)
  effect-falls (ops.FieldRead field holder) h = effect-same w.classes are (effect w (ops.FieldRead field holder) g)
  effect-falls (ops.FieldWrite field holder) h = effect-same w.classes are (effect w (ops.FieldWrite field holder) g)
  effect-falls (ops.New place c) h = effect-same w.classes are (effect w (ops.New place c) g)
  effect-falls (ops.NewArray ty) h = effect-same w.classes are (effect w (ops.NewArray ty) g)
  effect-falls ops.Throw h = effect-same w.classes are (effect w ops.Throw g)
  effect-falls (ops.TypeTest test ty) h = effect-same w.classes are (effect w (ops.TypeTest test ty) g)
  effect-falls (ops.Return result) h = effect-same w.classes are (effect w (ops.Return result) g)

-- an operation applies to a frame, and here is a lesser one
module _ (w : Linked) (are : IsOrderOfTypes w.classes) (limit : ℕ) (op : Operation) (mode : Mode) (greater lesser after : Frame) (o : Outcome)
    (below : FrameBelow w.classes lesser greater)
    (no_top : All IsNotTop greater.stack) (no_bottom : All IsNotBottom lesser.stack) (a : OperationApplies w limit op mode greater after o) where
  -- what is asked is met
  pub asked-falls : SatisfiesAll w.classes lesser (demands w op)
  asked-falls = grind (arith, all-falls, each-from_All)

  -- what is done is lesser
  pub doing-falls : EffectBelow w.classes (effect w op lesser) (effect w op greater)
  doing-falls = effect-falls w are lesser greater below.regs below.stack (each-from_All IsNotBottom lesser.stack no_bottom) op a.asked

  -- where the store can be made, the operation applies
  pub applies-falls : (target : Mode) → StoresBelow w.classes target (effect w op lesser).store lesser.regs after.regs
      → OperationFallsTo w limit op target lesser after
  applies-falls target s =
      let e = effect w op lesser in
      let stack : CellsBelow w.classes (changed e.change lesser.stack) after.stack =
      subst (CellsBelow w.classes (changed e.change lesser.stack)) (sym a.stack)
      (changed-falls w.classes are e.change (effect w op greater).change doing-falls.change below.stack) in
      record {
        below = record { regs = s.below; stack = changed e.change lesser.stack };
        outcome =
            record {
              falls = falls_from op;
              ends = ends_at op;
              depth = length (changed e.change lesser.stack);
              wrote = wrote e.store.register e.store.cells;
              rose = raises_register w.classes target e.store lesser.regs;
            };
        applies = record {
          asked = asked-falls;
          regs = s.stores;
          stack = refl;
          room = subst (λ n. n ≤ limit) (sym (cells-length w.classes stack)) a.room;
          falls = refl;
          ends = refl;
          depth = refl;
          wrote_is = refl;
          rose_is = refl;
        };
        lower = record { regs = s.lower; stack = stack };
      }

pub operation-falls : (w : Linked) → IsOrderOfTypes w.classes → OperationFalls w
operation-falls w are limit op mode greater lesser after o below no_top no_bottom a =
    let d = effect w op lesser in
    let e = effect w op greater in
    let less : EffectBelow w.classes d e = doing-falls w are limit op mode greater lesser after o below no_top no_bottom a in
    applies-falls w are limit op mode greater lesser after o below no_top no_bottom a Flow
    (store-flow w.classes are mode lesser.regs greater.regs after.regs d.store.register e.store.register d.store.cells e.store.cells less.register
    less.cells below.regs a.regs)

pub rule-falls : (w : Linked) → IsOrderOfTypes w.classes → RuleFalls w
rule-falls w are site i mode greater lesser after o below no_top no_bottom a =
    let r = a.rule in
    let falls : OperationFallsTo w a.method.max_stack r.operation Flow lesser after =
    operation-falls w are a.method.max_stack r.operation mode greater lesser after o below no_top no_bottom r.does in
    record {
      below = falls.below;
      outcome = falls.outcome;
      applies = record { method = a.method; is_method = a.is_method; rule = record { operation = r.operation; resolves = r.resolves; does = falls.applies } };
      lower = falls.lower;
    }
