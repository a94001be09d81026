use Rattle.std.proofs.Common.{◌≤◌, length, arith, rules}
use Rattle.cap_index.proofs.Entries.{few_methods, one_info}
use Rattle.cap_index.proofs.index_component.index_info.Goals as goal

pub overflow_cast-count : goal.overflow_cast-count
overflow_cast-count c = omega (arith, few_methods c.args.laid.now c.in_ok-entries.entries.items c.in_ok-entries.ensures, c.count-count.ensures)

pub returns : goal.returns
returns c =
    let few : length c.in_ok-entries.entries.items ≤ 32766 = omega arith in
    one_info c.args.laid.now c.in_ok-entries.entries.items c.count-count.result c.extend_from_slice.new.self.items c.put_numbers.new.out.items
    c.in_ok-entries.ensures few c.count-count.ensures (search rules) (search rules)
