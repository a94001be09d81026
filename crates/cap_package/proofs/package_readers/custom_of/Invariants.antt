use Rattle.std.proofs.Common.{◌≡◌}
use Rattle.std.specs.Prelude.{◌==◌, find}
use Rattle.cap_frame.specs.DirectoryFormat.{Custom}
use Rattle.cap_frame.specs.Directory.{directory_items, customs_left}
use Rattle.cap_package.proofs.package_readers.custom_of.Given as goal

abbrev pub invariant-customs : goal.invariant-customs
invariant-customs l =
    find (λ (c : Custom). c.tag == l.tag) (customs_left l.custom-iterator) ≡ find (λ (c : Custom). c.tag == l.tag)
    (directory_items l.all.directory).customs
