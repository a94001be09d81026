use Rattle.std.proofs.Common.{◌≡◌, ◌∙◌, ◌+◌, sym, inl, refl, Err, arith}
use Rattle.cap_bare.specs.Code.{fault, instructions_from}
use Rattle.cap_bare.specs.Walk.{first_wrong}
use Rattle.cap_bare.proofs.Instructions.{instructions-found, reached-first}
use Rattle.cap_bare.proofs.Places.{trails-later}
use Rattle.cap_bare.proofs.verify.find_wrong.Goals as goal

pub walk-init : goal.walk-init
walk-init c =
    record { same = refl; trailing = record { reached = reached-first c.args.code.bytes.now; far = inl refl }; low = omega arith }

pub returns-in-Err : goal.returns-in-Err
returns-in-Err c =
    let code = c.args.code.bytes.now in
    let found = instructions-found code c.walk.at c.in-Ok.insn (sym c.in-Ok.ensures.value) in
    let wrong : first_wrong code c.args.bare c.walk.depth (instructions_from code c.walk.at) ≡ Err (fault c.walk.at c.in-Err.kind) =
    rw (found, ← c.in-Err.ensures.value) in
    sym wrong ∙ c.walk.invariant.same

pub walk-preserved : goal.walk-preserved
walk-preserved c =
    let code = c.args.code.bytes.now in
    let more = instructions-found code c.walk.at c.in-Ok.insn (sym c.in-Ok.ensures.value) in
    let within = c.in-Ok.ensures.within in
    let on : first_wrong code c.args.bare c.walk.depth (instructions_from code c.walk.at)
    ≡ first_wrong code c.args.bare c.in-Ok-passed.after (instructions_from code (c.walk.at + c.in-Ok.insn.len)) =
    rw (more, ← c.in-Ok-passed.ensures.value) refl in
    record {
      same = sym on ∙ c.walk.invariant.same;
      trailing = trails-later code c.trailed-farther.result c.walk.at _ c.trailed-farther.ensures (omega arith);
      low = omega (arith, c.in-Ok-passed.ensures.room, c.requires.stack);
    }
