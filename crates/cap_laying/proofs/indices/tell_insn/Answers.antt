use Rattle.std.proofs.Common.{◌≡◌, Some, arith, rules}
use Rattle.jc_decode.specs.PoolIndex.{pool_index}
use Rattle.cap_laying.proofs.Rooms.{IsRoomy, index_there}
use Rattle.cap_laying.proofs.indices.tell_insn.Goals as goal

pub overflow_add-place : goal.overflow_add-place
overflow_add-place c =
    let e : pool_index c.args.insn ≡ Some c.in-Some.index = search rules in
    let r : IsRoomy c.args.insn c.in-Some.index = index_there c.args.insn c.in-Some.index c.requires.room e in
    omega (arith, r.1)

pub tell-requires-clause-order : goal.tell-requires-clause-order
tell-requires-clause-order c =
    let e : pool_index c.args.insn ≡ Some c.in-Some.index = search rules in
    let r : IsRoomy c.args.insn c.in-Some.index = index_there c.args.insn c.in-Some.index c.requires.room e in
    omega (arith, r.0)
