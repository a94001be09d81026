use Rattle.std.proofs.Common.{◌≡◌, ◌≤◌, ◌<◌, ◌+◌, ◌++◌, ◌∷◌, drop, length, arith, ap, sym, subst, ◌∙◌, rules}
use Rattle.std.specs.Prelude.{slice_index_or}
use Rattle.std.proofs.lemmas.List.{drop_more}
use Rattle.jc_decode.specs.PoolIndex.{bytes_of_index}
use Rattle.cap_laying.specs.Distances.{distances, last_of}
use Rattle.cap_laying.proofs.Tellings.{told_more, last_more}
use Rattle.cap_laying.specs.Member.{methods_end_from, size_if}
use Rattle.cap_laying.specs.NewPlaces.{AreSmallBodies}
use Rattle.cap_laying.specs.References.{indices_if, method_indices}
use Rattle.cap_laying.proofs.PlaceLaws.{end_slot}
use Rattle.cap_laying.proofs.location_component.tell_methods.Goals as goal

pub tell_slot-requires-clause-end : goal.tell_slot-requires-clause-end
tell_slot-requires-clause-end c =
    let table = c.args.table.now in
    let n = c.methods.slot-index in
    let slot = c.slot-item.result in
    let lt : n < length table = first_of (omega arith, search rules) in
    let is : slice_index_or table n slot ≡ slot = first_of (cc, search rules) in
    let least : c.methods.at + size_if slot ≤ methods_end_from c.methods.at (drop n table) = subst
    (λ s. c.methods.at + size_if s ≤ methods_end_from c.methods.at (drop n table)) is (end_slot c.methods.at table n slot lt) in
    let end = c.methods.invariant.end in
    omega arith

pub methods-preserved : goal.methods-preserved
methods-preserved c =
    let table = c.args.table.now in
    let n = c.methods.slot-index in
    let slot = c.slot-item.result in
    let rest = drop (n + 1) table in
    let at = c.methods.at in
    let next = c.in_ok-at.at in
    let w = bytes_of_index c.args.width in
    let lt : n < length table = first_of (omega arith, search rules) in
    let is : slice_index_or table n slot ≡ slot = first_of (cc, search rules) in
    let steps : drop n table ≡ slot ∷ rest = drop_more table n slot lt ∙ ap (λ s. s ∷ rest) is in
    let end : next ≡ at + size_if slot = c.in_ok-at.ensures.end in
    let xs = indices_if w at slot in
    let ys = method_indices w next rest in
    let e : method_indices w at (drop n table) ≡ xs ++ ys = ap (method_indices w at) steps ∙ ap (λ k. xs ++ method_indices w k rest) (sym end) in
    let within : methods_end_from at (slot ∷ rest) ≤ 65535 = subst (λ t. methods_end_from at t ≤ 65535) steps c.methods.invariant.end in
    let small : AreSmallBodies (slot ∷ rest) = subst AreSmallBodies steps c.methods.invariant.small in
    record {
      small = small.1;
      end = subst (λ k. methods_end_from k rest ≤ 65535) (sym end) within;
      order = subst (λ k. c.tell_slot.new.told.last ≤ k) (sym end) c.in_ok-at.ensures.last;
      few = c.in_ok-at.ensures.few;
      bytes =
          told_more c.methods.told c.tell_slot.new.told xs ys (method_indices w at (drop n table))
          (c.args.told.now.bytes.items ++ distances c.args.told.now.last (method_indices w c.args.start table)) e c.in_ok-at.ensures.told
          c.methods.invariant.bytes;
      last =
          last_more c.methods.told c.tell_slot.new.told xs ys (method_indices w at (drop n table))
          (last_of c.args.told.now.last (method_indices w c.args.start table)) e c.in_ok-at.ensures.told c.methods.invariant.last;
    }
