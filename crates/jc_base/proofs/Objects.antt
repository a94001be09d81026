-- Every class is below object, an instance begins with what its superclasses have, and runs a method at their public tokens.
use Rattle.std.proofs.Common.{arith}
use Rattle.std.proofs.Common.{ℕ, List}
use Rattle.jc_base.specs.declared.ty.Ty.TheVariants.{Class}
use Rattle.jc_base.specs.declared.record.MethodRec.{MethodRec}
use Rattle.jc_base.specs.Class.{ClassTable, IsClass, AreClasses, object}
use Rattle.jc_base.specs.Order.{Below, is_below}
use Rattle.jc_base.specs.Linked.{AreLinkedClasses}
use Rattle.jc_base.specs.Laws.{ClassesAreObjects, InstancesExtend, PublicMethodsRun}
use Rattle.jc_base.proofs.Climbs.{on_chain-object}
use Rattle.jc_base.proofs.Subtypes.{Below-from_is_below}
use Rattle.jc_base.proofs.Instances.{cells-on_chain}
use Rattle.jc_base.proofs.Dispatches.{on_chain-from_Below, runs_public}

object-above : (t : ClassTable) → AreClasses t → (c : ℕ) → IsClass t c → Below t (Class c) (Class (object t))
unfolding is_below
object-above t are c is = Below-from_is_below t are (Class c) (Class (object t)) (on_chain-object t are c is)

pub classes-are_objects : (t : ClassTable) → AreClasses t → ClassesAreObjects t
classes-are_objects t are = object-above t are

pub instances-extend : (t : ClassTable) → AreClasses t → InstancesExtend t
instances-extend t are = grind (arith, cells-on_chain, on_chain-from_Below)

pub public-methods_run : (packages : ℕ) (t : ClassTable) (methods : List MethodRec) → AreClasses t → AreLinkedClasses packages t methods
    → PublicMethodsRun t methods
public-methods_run packages t methods are linked = λ r c token n below at.
    let run = runs_public packages t methods are linked r c token n (on_chain-from_Below t are r c below) at in
    record { method = run.method; found = run.found; signature = run.signature; inherited = run.inherited }
