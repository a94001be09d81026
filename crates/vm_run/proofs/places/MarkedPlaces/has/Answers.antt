use Rattle.vm_step.specs.Methods.{code_at}
use Rattle.vm_run.proofs.Found.{flag-tells}
use Rattle.vm_run.proofs.places.MarkedPlaces.has.Goals as goal

pub returns-clause-found : goal.returns-clause-found
returns-clause-found c =
    let code = code_at c.args.world.now c.args.method in
    flag-tells code c.args.place (c.instructions_are_listed.ensures code) c.is_marked.result c.is_marked.ensures.0 c.is_marked.ensures.1
