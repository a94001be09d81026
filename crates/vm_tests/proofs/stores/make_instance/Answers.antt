use Rattle.vm_tests.proofs.Made.{is_class}
use Rattle.vm_tests.proofs.stores.make_instance.Goals as goal

pub make_instance-requires-clause-class : goal.make_instance-requires-clause-class
make_instance-requires-clause-class g c = is_class c.args.world.now.classes c.requires.classes
