use Rattle.std.proofs.Common.{arith}
use Rattle.cap_gen.specs.Methods.{entry_table}
use Rattle.cap_gen.proofs.Loops.{each_more, each_all}
use Rattle.cap_gen.proofs.methods.put_table.Goals as goal

pub methods-preserved : goal.methods-preserved
methods-preserved c =
    each_more entry_table c.methods.number c.methods.out.items c.put_entries.new.out.items _ (omega arith) c.in_ok-put_entries.ensures c.methods.invariant

pub returns : goal.returns
returns c = each_all entry_table c.methods.number c.methods.out.items _ (omega arith) c.methods.invariant
