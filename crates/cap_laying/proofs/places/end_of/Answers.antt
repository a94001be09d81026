use Rattle.std.proofs.Common.{◌≡◌, ◌≤◌, ◌<◌, ◌+◌, Some, None, drop, length, arith, ◌∙◌, rules}
use Rattle.std.specs.Prelude.{slice_index_or}
use Rattle.std.proofs.lemmas.List.{get_or_default}
use Rattle.cap_laying.specs.Member.{body_size, methods_end_from}
use Rattle.cap_laying.proofs.PlaceLaws.{end_passes}
use Rattle.cap_laying.proofs.places.end_of.Goals as goal

pub returns-then-at-gt-LONGEST_INFO : goal.returns-then-at-gt-LONGEST_INFO
returns-then-at-gt-LONGEST_INFO c =
    let table = c.args.table.now in
    let n = c.methods.slot-index in
    let lt : n < length table = first_of (omega arith, search rules) in
    let item : slice_index_or table n c.slot-item.result ≡ Some c.in-Some.member = cc in
    let slot : slice_index_or table n None ≡ Some c.in-Some.member = get_or_default table n None c.slot-item.result lt ∙ item in
    let whole : methods_end_from c.methods.at (drop n table) ≡ methods_end_from c.args.start table = c.methods.invariant.so_far in
    let least : c.methods.at + body_size c.in-Some.member.body ≤ methods_end_from c.methods.at (drop n table) = end_passes c.methods.at table n
    c.in-Some.member slot in
    omega arith
