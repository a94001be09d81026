use Rattle.std.proofs.Common.{◌≡◌, ◌++◌, ap, ◌∙◌}
use Rattle.cap_laying.specs.Component.{component_bytes}
use Rattle.cap_laying.specs.Distances.{distances}
use Rattle.cap_laying.specs.References.{block_catches, method_indices, references_info}
use Rattle.cap_laying.proofs.ReferenceLaws.{told_first, told_both}
use Rattle.cap_laying.proofs.location_component.references.Goals as goal

pub returns : goal.returns
unfolding references_info
returns c =
    let ones = method_indices 1 c.args.start c.args.table.now in
    let catches = block_catches 1 c.args.blocks.now in
    let twos = method_indices 2 c.args.start c.args.table.now in
    let byte : c.tell_methods.new.told.bytes.items ≡ distances 0 ones = told_first c.new-byte.result c.tell_methods.new.told ones c.new-byte.ensures.last
    c.new-byte.ensures.bytes c.in_ok-tell_methods.ensures.told in
    let byte2 : c.tell_methods-2.new.told.bytes.items ≡ distances 0 (catches ++ twos) = told_both c.new-byte2.result c.tell_blocks.new.told
    c.tell_methods-2.new.told catches twos c.new-byte2.ensures.last c.new-byte2.ensures.bytes c.in_ok-tell_blocks.ensures.told
    c.in_ok-tell_methods-2.ensures.told in
    c.in_ok-info.ensures
    ∙ ap (λ x. component_bytes x c.tell_methods-2.new.told.bytes.items) byte ∙ ap (λ y. component_bytes (distances 0 ones) y) byte2
