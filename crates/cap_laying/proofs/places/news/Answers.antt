use Rattle.std.proofs.Common.{drop, arith}
use Rattle.cap_laying.proofs.PlaceLaws.{end_grows}
use Rattle.cap_laying.proofs.places.news.Goals as goal

pub new_method-requires-clause-at : goal.new_method-requires-clause-at
new_method-requires-clause-at c =
    let grows = end_grows c.methods.at (drop c.methods.slot-index c.args.table.now) in
    let end = c.methods.invariant.end in
    omega arith
