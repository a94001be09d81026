-- one more element
use Rattle.std.proofs.Common.{◌≡◌, ◌+◌, ◌*◌, to_z, of_z, w32, subst, sym, ◌∙◌, arith, rules, take}
use Rattle.std.specs.Prelude.{None}
use Rattle.std.specs.List.{flat_map}
use Rattle.cap_text.specs.Ending.{element_text}
use Rattle.cap_text.specs.Room.{Writes, WritesAtMost}
use Rattle.vm_text.specs.Left.{elements_at}
use Rattle.vm_text.proofs.Told.{element_found, one_element, counted, not_missing}
use Rattle.vm_text.proofs.writing.write_elements.Goals.{in-Some, in_default}
use Rattle.vm_text.proofs.writing.write_elements.Goals as goal

pub elements-preserved : goal.elements-preserved
elements-preserved g c =
    let left = g.L.Leaves.left c.args.world.now c.args.left.now in
    let xs = elements_at left c.args.handle in
    let found = element_found (left.array c.args.handle) c.elements.element c.array_value.result c.array_value.ensures in
    let long = counted (left.array c.args.handle) c.args.count c.requires.count in
    let before = c.elements.invariant.few in
    elim c.match-array_value.branch [
      | in-Some w ↦
          let more = w.write_element.ensures.few in
          let same : to_z w32 (of_z w32 w.in-Some.n) ≡ w.in-Some.n = search rules in
          record {
            writes = subst (λ r. Writes c.args.room.now r (flat_map element_text (take (c.elements.element + 1) xs))) (sym w.room-is)
                (one_element c.args.room.now c.elements.room w.write_element.new.room xs c.elements.element w.in-Some.n (found ∙ w.in-Some.is)
                c.elements.invariant.writes
                (subst (λ z. Writes c.elements.room w.write_element.new.room (element_text z)) same w.write_element.ensures.writes));
            few = subst (λ r. WritesAtMost c.args.room.now r (12 * (c.elements.element + 1))) (sym w.room-is) (omega (arith, before, more));
          }
      | in_default w ↦
          let none : c.array_value.result ≡ None = search rules in
          let below = c.elements-test.true in
          absurd (not_missing xs c.elements.element (omega (arith, long, below)) (found ∙ none))
    ]
