use Rattle.jc_resolve.proofs.NamesInPackages.{answer_right, answer_apart}
use Rattle.jc_resolve.proofs.NamesTold.{names_told}
use Rattle.jc_resolve.proofs.naming.names.Goals as goal

pub returns-clause-tells : goal.returns-clause-tells
returns-clause-tells c = names_told c.args.packages.now c.args.roles c.names_or_fault.result c.names_or_fault.ensures.value

pub returns-clause-named : goal.returns-clause-named
returns-clause-named c =
    answer_right c.args.packages.now c.args.roles c.names_or_fault.result c.names_or_fault.ensures.value c.names_or_fault.ensures.sized
    c.names_or_fault.ensures.agreed c.names_or_fault.ensures.few

pub returns-clause-own : goal.returns-clause-own
returns-clause-own c = answer_apart c.args.packages.now c.args.roles c.names_or_fault.result c.names_or_fault.ensures.value c.names_or_fault.ensures.agreed
