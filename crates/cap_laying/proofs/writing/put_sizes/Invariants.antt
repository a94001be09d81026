use Rattle.std.proofs.Common.{◌≡◌, ◌+◌, ◌++◌, drop}
use Rattle.std.specs.List.{flat_map}
use Rattle.byteorder.specs.Endian.{big_bytes}
use Rattle.cap_frame.specs.Directory.{directory_items}
use Rattle.cap_laying.specs.NewDirectory.{sizes_from}
use Rattle.cap_laying.proofs.writing.put_sizes.Given as goal

abbrev pub invariant-sizes : goal.invariant-sizes
invariant-sizes l = record {
  tag : l.tag ≡ l.counter + 1;
  so_far : l.out.items ++ flat_map (big_bytes 2) (sizes_from l.own l.new l.tag (drop l.counter (directory_items l.directory).sizes))
      ≡ l.initial.out.items ++ flat_map (big_bytes 2) (sizes_from l.own l.new 1 (directory_items l.directory).sizes);
}
