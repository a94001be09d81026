use Rattle.cap_gen.proofs.OfProgram.{descriptor_steps}
use Rattle.cap_gen.proofs.described.descriptor_file.Goals as goal

pub returns : goal.returns
returns c =
    descriptor_steps c.new-out.result.items c.extend_from_slice.new.self.items c.put_records.new.out.items c.extend_from_slice-2.new.self.items
    c.new-out.ensures.items c.in_ok-extend_from_slice.ensures.items c.in_ok-put_records.ensures c.in_ok-extend_from_slice-2.ensures.items
