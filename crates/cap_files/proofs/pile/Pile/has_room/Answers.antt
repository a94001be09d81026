use Rattle.std.proofs.Common.{◌≡◌, ◌∙◌, ◌<◌, ◌-◌, refl, sym, ap, subst, length, remove, sum_by, arith}
use Rattle.cap_files.specs.declared.records.Entry.{Entry}
use Rattle.cap_files.specs.Room.{size_of}
use Rattle.cap_files.proofs.Pieces.{length-records, sizes, sizes-cut, length-remove}
use Rattle.cap_files.proofs.pile.Pile.has_room.Goals as goal

pub index-requires : goal.index-requires
index-requires c =
    let there = subst (λ p. c.in-Some.n < length p.records) (sym c.self.view_is) (c.requires c.in-Some.n c.in-Some.is) in
    omega (arith, there, length-records c.self.inside.entries.items c.self.inside.buffer.items, c.self.inside.entries.ok.0)

pub overflow_sub-left : goal.overflow_sub-left
overflow_sub-left c =
    let es = c.self.inside.entries.items in
    let bs = c.self.inside.buffer.items in
    let there = subst (λ p. c.in-Some.n < length p.records) (sym c.self.view_is) (c.requires c.in-Some.n c.in-Some.is) in
    let here : c.in-Some.n < length es = omega (arith, there, length-records es bs) in
    let sizes = sizes-cut es c.in-Some.n c.index.result.now bs c.self.invariant.laid here in
    omega (arith, sizes, ap (λ (e : Entry). e.size) c.index.ensures, c.len.ensures, c.self.inside.buffer.ok.0)

pub returns-in-Some : goal.returns-in-Some
returns-in-Some c =
    let es = c.self.inside.entries.items in
    let bs = c.self.inside.buffer.items in
    let n = c.in-Some.n in
    let there = subst (λ p. n < length p.records) (sym c.self.view_is) (c.requires n c.in-Some.is) in
    let here : n < length es = omega (arith, there, length-records es bs) in
    let sizes = sizes-cut es n c.index.result.now bs c.self.invariant.laid here in
    let parts : c.len-in-Some.result - 1 ≡ length (remove c.args.self.now.records n) =
    subst (λ p. c.len-in-Some.result - 1 ≡ length (remove p.records n)) c.self.view_is
    (omega (arith, length-remove es n bs here, c.len-in-Some.ensures, c.self.inside.entries.ok.0)) in
    let bytes : c.len.result - c.index.result.now.size ≡ sum_by size_of (remove c.args.self.now.records n) =
    subst (λ p. c.len.result - c.index.result.now.size ≡ sum_by size_of (remove p.records n)) c.self.view_is
    (omega (arith, sizes, ap (λ (e : Entry). e.size) c.index.ensures, c.len.ensures, c.self.inside.buffer.ok.0)) in
    rw (c.in-Some.is) (c.suffices.ensures ∙ rw (parts, bytes) refl)

pub returns-in-None : goal.returns-in-None
returns-in-None c =
    let es = c.self.inside.entries.items in
    let bs = c.self.inside.buffer.items in
    let parts : c.len-in-None.result ≡ length c.args.self.now.records =
    subst (λ p. c.len-in-None.result ≡ length p.records) c.self.view_is
    (omega (arith, length-records es bs, c.len-in-None.ensures, c.self.inside.entries.ok.0)) in
    let bytes : c.len-in-None-2.result ≡ sum_by size_of c.args.self.now.records =
    subst (λ p. c.len-in-None-2.result ≡ sum_by size_of p.records) c.self.view_is
    (omega (arith, sizes es bs c.self.invariant.laid, c.len-in-None-2.ensures, c.self.inside.buffer.ok.0)) in
    rw (c.in-None.is) (c.suffices-in-None.ensures ∙ rw (parts, bytes) refl)
