use Rattle.cap_gen.proofs.OfProgram.{method_steps}
use Rattle.cap_gen.proofs.methods.method_file.Goals as goal

pub returns : goal.returns
returns c =
    method_steps c.args.seed c.new-out.result.items c.extend_from_slice.new.self.items c.put_table.new.out.items c.put_methods.new.out.items
    c.new-out.ensures.items c.in_ok-extend_from_slice.ensures.items c.in_ok-put_table.ensures c.in_ok-put_methods.ensures
