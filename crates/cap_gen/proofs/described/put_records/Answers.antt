use Rattle.std.proofs.Common.{arith}
use Rattle.cap_gen.specs.Described.{described_bytes}
use Rattle.cap_gen.proofs.Loops.{each_more, each_all}
use Rattle.cap_gen.proofs.described.put_records.Goals as goal

pub methods-preserved : goal.methods-preserved
methods-preserved c =
    each_more described_bytes c.methods.number c.methods.out.items c.put_described.new.out.items _ (omega arith) c.in_ok-put_described.ensures
    c.methods.invariant

pub returns : goal.returns
returns c = each_all described_bytes c.methods.number c.methods.out.items _ (omega arith) c.methods.invariant
