use Rattle.std.proofs.Common.{◌≡◌, ◌≤◌, ◌+◌, ◌*◌, length}
use Rattle.cap_desc.specs.MemberLists.{methods_left}
use Rattle.cap_bytes.specs.Edit.{patched_all}
use Rattle.cap_renewal.specs.DescriptorEdits.{methods_edits}
use Rattle.cap_renewal.proofs.descriptors.write_methods.Given as goal

abbrev pub invariant-methods : goal.invariant-methods
invariant-methods l = record {
  room : l.at + 12 * length (methods_left l.method-iterator) ≤ length l.info;
  long : length l.info ≡ length l.initial.info;
  so_far : patched_all (methods_edits l.news l.at (methods_left l.method-iterator)) l.info
      ≡ patched_all (methods_edits l.news l.start (methods_left l.fn.methods)) l.initial.info;
}
