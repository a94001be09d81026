use Rattle.std.proofs.Common.{◌≤◌, ◌<◌, ◌+◌, refl, sym, ap, subst, length, sum_by, arith}
use Rattle.cap_files.specs.Room.{size_of}
use Rattle.cap_files.proofs.Pieces.{length-records, sizes, records-push, laid-push}
use Rattle.cap_files.proofs.pile.Pile.push.Goals as goal

pub append-requires : goal.append-requires
append-requires c =
    let room = subst (λ p. sum_by size_of p.records + length c.args.dir.now + length c.args.bytes.now ≤ p.most_bytes) (sym c.self.view_is)
    c.requires.bytes in
    omega (arith, room, sizes _ _ c.self.invariant.laid, c.self.inside.buffer.ok.0, c.self.invariant.bytes, ap length c.as_bytes.ensures.value)

pub append-requires-2 : goal.append-requires-2
append-requires-2 c =
    let room = subst (λ p. sum_by size_of p.records + length c.args.dir.now + length c.args.bytes.now ≤ p.most_bytes) (sym c.self.view_is)
    c.requires.bytes in
    omega (
      arith,
      room,
      sizes _ _ c.self.invariant.laid,
      c.self.inside.buffer.ok.0,
      c.self.invariant.bytes,
      ap length c.as_bytes.ensures.value,
      c.append.ensures.len,
      c.append.ensures.capacity,
    )

pub push_reserved-requires : goal.push_reserved-requires
push_reserved-requires c =
    let room = subst (λ p. length p.records < p.most_parts) (sym c.self.view_is) c.requires.parts in
    omega (arith, room, length-records c.self.inside.entries.items c.self.inside.buffer.items, c.self.inside.entries.ok.0, c.self.invariant.parts)

pub invariant_of-self : goal.invariant_of-self
invariant_of-self c = record {
  laid =
      rw (c.push_reserved.ensures.items, c.append-2.ensures.items, c.append.ensures.items, c.as_bytes.ensures.value)
      (laid-push _ _ _ _ _ c.self.invariant.laid);
  parts = omega (arith, c.self.invariant.parts, c.push_reserved.ensures.capacity);
  bytes = omega (arith, c.self.invariant.bytes, c.append.ensures.capacity, c.append-2.ensures.capacity);
}

pub returns : goal.returns
returns c =
    rw (← c.self.view_is)
    (rw (
      c.push_reserved.ensures.items,
      c.append-2.ensures.items,
      c.append.ensures.items,
      c.as_bytes.ensures.value,
      records-push _ _ _ _ _ c.self.invariant.laid,
    ) refl)
