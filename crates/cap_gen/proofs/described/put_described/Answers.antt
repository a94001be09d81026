use Rattle.std.proofs.Common.{◌≡◌, ℕ, List, OnOk, subst, rules}
use Rattle.cap_gen.proofs.ByKind.{record_steps}
use Rattle.cap_gen.proofs.described.put_described.Goals as goal

pub returns : goal.returns
returns c =
    let path = record_steps c.args.number c.method_offset.result c.code_size.result c.handler_count.result c.handler_index.result c.args.out.now.items
    c.extend_from_slice.new.self.items c.extend_from_slice-2.new.self.items c.method_offset.ensures c.code_size.ensures c.handler_count.ensures
    c.handler_index.ensures c.in_ok-extend_from_slice.ensures.items (first_of (cc, search rules)) in
    subst (λ (ys : List ℕ). OnOk c.put_numbers.result (c.put_numbers.new.out.items ≡ ys)) path c.put_numbers.ensures
