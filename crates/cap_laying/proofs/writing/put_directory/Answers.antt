use Rattle.std.proofs.Common.{◌+◌, ◌*◌, arith}
use Rattle.cap_frame.specs.Directory.{directory_items}
use Rattle.cap_laying.proofs.Kept.{directory_steps}
use Rattle.cap_laying.proofs.writing.put_directory.Goals as goal

pub returns : goal.returns
returns c =
    let d = directory_items c.args.directory.now in
    directory_steps c.args.new d (2 * c.from.result + 9 + (c.measure-kept.result.size + c.index_extent-added.result.size))
    (c.measure-kept.result.count + c.index_extent-added.result.count)
    c.args.out.now.items c.put_head.new.out.items c.push.new.self.items c.put_customs.new.out.items c.put_index.new.out.items (omega arith) (omega arith)
    c.in_ok-put_head.ensures c.in_ok-push.ensures.items c.in_ok-put_customs.ensures c.in_ok-put_index.ensures
