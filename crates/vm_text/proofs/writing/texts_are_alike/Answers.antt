use Rattle.vm_text.proofs.Alike.{texts_alike}
use Rattle.vm_text.proofs.writing.texts_are_alike.Goals as goal

pub returns : goal.returns
returns c = texts_alike c.args.world.now
