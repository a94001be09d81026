use Rattle.std.proofs.Common.{◌≡◌, Some, rules}
use Rattle.cap_frame.specs.Directory.{directory_items, size_in}
use Rattle.cap_laying.proofs.Kept.{size_known}
use Rattle.cap_laying.proofs.writing.old_size.Goals as goal

pub returns-in-Some : goal.returns-in-Some
returns-in-Some c =
    let e : size_in (directory_items c.args.directory.now) c.args.tag ≡ Some c.in-Some.size = first_of (cc, search rules) in
    size_known (directory_items c.args.directory.now) c.args.tag c.in-Some.size c.requires.first c.requires.last e
