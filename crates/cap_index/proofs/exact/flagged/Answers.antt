use Rattle.std.proofs.Common.{drop, length, ap, arith, length-append}
use Rattle.cap_index.specs.Marking.{flagged_from}
use Rattle.cap_index.proofs.Flagging.{flagged_few}
use Rattle.cap_index.proofs.exact.flagged.Goals as goal

pub returns-clause-few : goal.returns-clause-few
returns-clause-few c =
    let fs = c.args.flags.now in
    omega (
      arith,
      ap length c.flags.invariant.so_far,
      flagged_few 0 fs,
      length-append c.flags.places.items (flagged_from c.flags.place (drop c.flags.flag-index fs)),
    )
