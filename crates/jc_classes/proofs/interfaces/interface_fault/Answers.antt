use Rattle.std.proofs.Common.{length, sym, ◌∙◌}
use Rattle.jc_classes.specs.TableConditions.{Implementation}
use Rattle.jc_classes.proofs.Implementing.{fault_none, fault_some}
use Rattle.jc_classes.proofs.interfaces.interface_fault.Goals as goal

pub returns-then-serves_all : goal.returns-then-serves_all
returns-then-serves_all c =
    let x : Implementation = record { class = c.args.c; public = c.args.public.now; iface = c.args.iface.now } in
    fault_none (length c.args.groups.now) c.args.methods.now c.args.groups.now x c.index-groups-iface.result c.requires.grouped c.requires.known
    c.index-groups-iface.is (sym c.if-serves_all.true ∙ c.serves_all.ensures)

pub returns-else-serves_all : goal.returns-else-serves_all
returns-else-serves_all c =
    let x : Implementation = record { class = c.args.c; public = c.args.public.now; iface = c.args.iface.now } in
    fault_some (length c.args.groups.now) c.args.methods.now c.args.groups.now x c.index-groups-iface.result c.requires.grouped c.requires.known
    c.index-groups-iface.is (sym c.if-serves_all.false ∙ c.serves_all.ensures)
