use Rattle.cap_files.proofs.Transfers.{taken_ended}
use Rattle.cap_files.proofs.transfer.read_part.Goals as goal

pub returns-in-Err-clause-bytes : goal.returns-in-Err-clause-bytes
returns-in-Err-clause-bytes g c =
    let left = g.D.Disk.left in
    taken_ended c.in-Err.end (left c.chunks.disk) (left c.read_more.new.disk) c.chunks.to.items c.read_more.new.to.items (left c.args.disk.now)
    c.in-Err.ensures.bytes
