use Rattle.std.proofs.Common.{arith}
use Rattle.cap_gen.specs.Methods.{method_bytes}
use Rattle.cap_gen.proofs.Loops.{each_more, each_all}
use Rattle.cap_gen.proofs.methods.put_methods.Goals as goal

pub methods-preserved : goal.methods-preserved
methods-preserved c =
    each_more (method_bytes c.args.seed) c.methods.number c.methods.out.items c.put_method.new.out.items _ (omega arith) c.in_ok-put_method.ensures
    c.methods.invariant

pub returns : goal.returns
returns c = each_all (method_bytes c.args.seed) c.methods.number c.methods.out.items _ (omega arith) c.methods.invariant
