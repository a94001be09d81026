-- An operation whose demands are met passes the tests before it, in a world whose classes are as they should be.
use Rattle.std.proofs.Common.{◌≡◌, ◌≤◌, Bool, true, false, if◌then◌else◌, List, [], ◌∷◌, length, map, refl, subst, arith}
use Rattle.std.specs.Prelude.{Option, Some, None, nat_lt, MatchBool}
use Rattle.std.specs.List.{list_all}
use Rattle.std.proofs.lemmas.Bool.{false≢true, le-ltb, and_from}
use Rattle.std.proofs.lemmas.List.{length-map}
use Rattle.jc_base.specs.declared.ty.Ty.TheVariants.{Bottom}
use Rattle.jc_base.specs.Class.{AreClasses}
use Rattle.jc_base.specs.World.{Linked}
use Rattle.jc_base.proofs.Orders.{order-of-types}
use Rattle.jc_ops.specs.declared.operation.Operation.{Operation}
use Rattle.jc_rules.specs.declared.demand.Demand.{Demand}
use Rattle.jc_rules.specs.Demand.{Frame as Types, SatisfiesAll, Satisfies, satisfies}
use Rattle.jc_rules.specs.Footprint.{registers_asked, cells_asked}
use Rattle.jc_rules.specs.Rule.{demands}
use Rattle.jc_rules.proofs.DecidedDemands.{are-decided}
use Rattle.jc_rules.proofs.Footprints.{met-is-there, asked-is-there}
use Rattle.vm_store.specs.declared.cell.Cell.{Cell}
use Rattle.vm_store.specs.Typing.{least_type}
use Rattle.vm_store.specs.Cells.{tagged}
use Rattle.vm_store.specs.State.{Frame, Object}
use Rattle.vm_step.specs.declared.ending.Fault.TheVariants.{TypeFault, StackFault, LocalFault}
use Rattle.vm_step.specs.Tests.{fault_before}
use Rattle.law_sound.specs.Frames.{types_of_frame}

module _ (w : Linked) (chains : AreClasses w.classes) where
  pick : {X : Type 0} (x y z : Option X) (a b c : Bool) → a ≡ false → b ≡ false → c ≡ true
      → (if a then x else if b then y else if c then None else z) ≡ None
  pick x y z u b c h k l = grind (arith, false≢true)

  true-of : (b : Bool) (P : Type 0) → MatchBool b P (¬ P) → P → b ≡ true
  true-of x y decided h = grind (arith)

  hold-tests : (types : Types) (ds : List Demand) → SatisfiesAll w.classes types ds → list_all (satisfies w.classes types) ds ≡ true
  hold-tests types [] h = refl
  hold-tests types (d ∷ ds) h =
      and_from (satisfies w.classes types d) (list_all (satisfies w.classes types) ds)
      (true-of (satisfies w.classes types d) (Satisfies w.classes types d) ((are-decided w.classes (order-of-types w.classes chains)).demand types d) h.0)
      (hold-tests types ds h.1)

  pub passes-before :
      (f : Frame Cell) (below : List (Frame Cell)) (heap : List (Object Cell)) (statics : List Cell) (op : Operation)
      → SatisfiesAll w.classes (types_of_frame w.classes Bottom (map (λ (o : Object Cell). o.kind) heap) f) (demands w op)
      → fault_before tagged w op (record { frames = f ∷ below; heap = heap; statics = statics }) ≡ None
  passes-before f below heap statics op asked =
      let ks = map (λ (o : Object Cell). o.kind) heap in
      let types = types_of_frame w.classes Bottom ks f in
      let ds = demands w op in
      let there = met-is-there w types ds asked in
      let are = asked-is-there (length types.regs) (length types.stack) ds in
      let regs : registers_asked ds ≤ length f.registers =
      subst (λ n. registers_asked ds ≤ n) (length-map f.registers (least_type w.classes Bottom ks)) (are.registers there) in
      let stack : cells_asked ds ≤ length f.stack =
      subst (λ n. cells_asked ds ≤ n) (length-map f.stack (least_type w.classes Bottom ks)) (are.cells there) in
      pick (Some LocalFault) (Some StackFault) (Some TypeFault) (nat_lt (length f.registers) (registers_asked ds)) (nat_lt (length f.stack) (cells_asked ds))
      (list_all (satisfies w.classes types) ds) (le-ltb (length f.registers) (registers_asked ds) regs) (le-ltb (length f.stack) (cells_asked ds) stack)
      (hold-tests types ds asked)
