-- Operations that write no register.
use Rattle.std.proofs.Common.{arith}
use Rattle.jc_base.specs.World.{Linked}
use Rattle.law_alike.proofs.Doing.{none-constant, none-load, none-move, none-arithmetic, none-read, none-write, none-branch, none-test}
use Rattle.law_homes.specs.Laws.{NamesNoneWritesNone, LoadsWriteNone}

pub loads-write-none : (w : Linked) → LoadsWriteNone w
loads-write-none w sort x = none-load w sort x

pub names-none-writes-none : (w : Linked) → NamesNoneWritesNone w
names-none-writes-none w y e =
    grind (arith, none-constant, none-load, none-move, none-arithmetic, none-read, none-write, none-branch, none-test)
