use Rattle.cap_gen.proofs.OfProgram.{parts_steps}
use Rattle.cap_gen.proofs.generating.generate.Goals as goal

pub returns : goal.returns
returns c =
    parts_steps c.args.seed c.in_ok-parts.parts c.put.new.self c.put_copy.new.parts c.put_copy-2.new.parts c.put-2.new.self
    c.in_ok-method_file.field-0.items c.in_ok-descriptor_file.field-0.items c.in_ok-parts.ensures c.in_ok-method_file.ensures c.in_ok-put.ensures.ok
    c.in_ok-put_copy.ensures c.in_ok-put_copy-2.ensures c.in_ok-descriptor_file.ensures c.in_ok-put-2.ensures.ok
