use Rattle.std.proofs.Common.{◌<◌, refl, sym, ap, subst, length, arith}
use Rattle.cap_files.proofs.Pieces.{length-records, end_within, cut-taken, records-cut, laid-cut}
use Rattle.cap_files.specs.declared.records.Entry.{Entry}
use Rattle.cap_files.proofs.pile.Pile.remove.Goals as goal

pub end_of-start-requires-clause-within : goal.end_of-start-requires-clause-within
end_of-start-requires-clause-within c =
    let there = subst (λ p. c.args.n < length p.records) (sym c.self.view_is) c.requires in
    omega (arith, there, length-records c.self.inside.entries.items c.self.inside.buffer.items, c.self.inside.entries.ok.0)

pub end_of-start-requires-clause-fits : goal.end_of-start-requires-clause-fits
end_of-start-requires-clause-fits c =
    let there = subst (λ p. c.args.n < length p.records) (sym c.self.view_is) c.requires in
    let here : c.args.n < length c.self.inside.entries.items = omega (arith, there, length-records c.self.inside.entries.items c.self.inside.buffer.items) in
    let within = end_within c.self.inside.entries.items c.args.n (record { part = record { 0 = 0 }; word = 0; size = 0 }) c.self.inside.buffer.items
    c.self.invariant.laid here in
    omega (arith, within, c.len-filled.ensures, c.len-filled.type_inv, c.self.inside.buffer.ok.0)

pub remove-entry-requires : goal.remove-entry-requires
remove-entry-requires c =
    let there = subst (λ p. c.args.n < length p.records) (sym c.self.view_is) c.requires in
    omega (arith, there, length-records c.self.inside.entries.items c.self.inside.buffer.items, c.self.inside.entries.ok.0)

pub cut_out-requires : goal.cut_out-requires
cut_out-requires c =
    let there = subst (λ p. c.args.n < length p.records) (sym c.self.view_is) c.requires in
    let here : c.args.n < length c.self.inside.entries.items = omega (arith, there, length-records c.self.inside.entries.items c.self.inside.buffer.items) in
    let within = end_within c.self.inside.entries.items c.args.n c.remove-entry.result c.self.inside.buffer.items c.self.invariant.laid here in
    omega (arith, within, c.end_of-start.ensures, ap (λ (e : Entry). e.size) c.remove-entry.ensures.value, c.self.inside.buffer.ok.0)

pub invariant_of-self : goal.invariant_of-self
invariant_of-self c =
    let there = subst (λ p. c.args.n < length p.records) (sym c.self.view_is) c.requires in
    let here : c.args.n < length c.self.inside.entries.items = omega (arith, there, length-records c.self.inside.entries.items c.self.inside.buffer.items) in
    let size = ap (λ (e : Entry). e.size) c.remove-entry.ensures.value in
    let left = cut-taken c.self.inside.entries.items c.args.n c.remove-entry.result c.self.inside.buffer.items c.self.invariant.laid here in
    record {
      laid = rw (c.remove-entry.ensures.items, c.cut_out.ensures.items, c.end_of-start.ensures, size, left) (laid-cut _ _ _ c.self.invariant.laid here);
      parts = omega (arith, c.self.invariant.parts, c.remove-entry.ensures.capacity);
      bytes = omega (arith, c.self.invariant.bytes, c.cut_out.ensures.capacity);
    }

pub returns : goal.returns
returns c =
    let there = subst (λ p. c.args.n < length p.records) (sym c.self.view_is) c.requires in
    let here : c.args.n < length c.self.inside.entries.items = omega (arith, there, length-records c.self.inside.entries.items c.self.inside.buffer.items) in
    let size = ap (λ (e : Entry). e.size) c.remove-entry.ensures.value in
    let left = cut-taken c.self.inside.entries.items c.args.n c.remove-entry.result c.self.inside.buffer.items c.self.invariant.laid here in
    rw (← c.self.view_is)
    (rw (c.remove-entry.ensures.items, c.cut_out.ensures.items, c.end_of-start.ensures, size, left, records-cut _ _ _ c.self.invariant.laid here) refl)
