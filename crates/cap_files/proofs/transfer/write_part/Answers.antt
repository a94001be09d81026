use Rattle.std.proofs.Common.{◌∙◌, arith}
use Rattle.std.proofs.lemmas.Grind.{common_steps}
use Rattle.cap_files.proofs.Transfers.{written_no_more, written_on}
use Rattle.cap_files.proofs.transfer.write_part.Goals as goal

pub returns-in-Err-clause-bytes : goal.returns-in-Err-clause-bytes
returns-in-Err-clause-bytes g c =
    let known = g.D.Disk.written in
    let so_far = c.pieces.invariant.bytes in
    written_no_more (known c.args.disk.now) (known c.pieces.disk) (known c.write.new.self) c.args.bytes.now c.pieces.left.now so_far.0
    so_far.1 so_far.2 c.in-Err.ensures.bytes

pub pieces-preserved : goal.pieces-preserved
pieces-preserved g c =
    let known = g.D.Disk.written in
    let so_far = c.pieces.invariant.bytes in
    record {
      bytes =
          written_on (known c.args.disk.now) (known c.pieces.disk) (known c.write.new.self) c.args.bytes.now c.pieces.left.now so_far.0 _ c.in-Ok.taken
          so_far.1 so_far.2 c.in-Ok.ensures.bytes (grind (arith, common_steps));
      held = cc;
      write_faults = c.in-Ok.ensures.write_faults ∙ c.pieces.invariant.write_faults;
      read_faults = cc;
    }
