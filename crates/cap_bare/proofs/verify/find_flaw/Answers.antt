use Rattle.std.proofs.Common.{sym, subst, inl, refl, ℤ, arith, rules}
use Rattle.std.proofs.lemmas.Int.{to_z-of_z}
use Rattle.std.specs.Int.{w32}
use mir.Val.{SFits}
use Rattle.cap_bare.specs.declared.fault.BareKind.TheVariants.{BadTarget}
use Rattle.cap_bare.specs.Code.{fault, IsFirstFlaw}
use Rattle.cap_bare.proofs.Instructions.{here, is-here, reached-first, stands-at}
use Rattle.cap_bare.proofs.Places.{trails-later}
use Rattle.cap_bare.proofs.WellFormed.{clear-first, clear-after, clear-formed, clear-missing, clear-astray}
use Rattle.cap_bare.proofs.verify.find_flaw.Goals as goal

pub walk-init : goal.walk-init
walk-init c =
    let code = c.args.code.bytes.now in
    record { clear = clear-first code; trailing = record { reached = reached-first code; far = inl refl }; inside = omega arith }

pub returns-in-Err-clause-flawed : goal.returns-in-Err-clause-flawed
returns-in-Err-clause-flawed c =
    clear-missing c.args.code.bytes.now c.walk.at c.in-Err.end c.walk.invariant.clear (omega (arith, c.walk-test.true, c.from.ensures))
    (sym c.in-Err.ensures.value)

pub stray_target-requires-clause-stands : goal.stray_target-requires-clause-stands
stray_target-requires-clause-stands c =
    let code = c.args.code.bytes.now in
    stands-at code c.walk.at (here c.walk.at c.in-Ok.insn) c.walk.invariant.clear.reached (is-here code c.walk.at c.in-Ok.insn (sym c.in-Ok.ensures.value))

pub returns-in-Some-clause-flawed : goal.returns-in-Some-clause-flawed
returns-in-Some-clause-flawed c =
    let code = c.args.code.bytes.now in
    let t = c.in-Some.target in
    let fits : SFits w32 t = search rules in
    subst (λ (z : ℤ). IsFirstFlaw code (fault c.walk.at (BadTarget z))) (sym (to_z-of_z w32 t fits))
    (clear-astray code c.walk.at c.in-Ok.insn t c.walk.invariant.clear (sym c.in-Ok.ensures.value) c.in-Some.ensures.some.0 c.in-Some.ensures.some.1)

pub walk-preserved : goal.walk-preserved
walk-preserved c =
    let code = c.args.code.bytes.now in
    let found = sym c.in-Ok.ensures.value in
    let within = c.in-Ok.ensures.within in
    record {
      clear = clear-after code c.walk.at c.in-Ok.insn c.walk.invariant.clear found c.in_default.ensures.none;
      trailing = trails-later code c.trailed-farther.result c.walk.at _ c.trailed-farther.ensures (omega arith);
      inside = omega (arith, within.reaches);
    }

pub returns-clause-formed : goal.returns-clause-formed
returns-clause-formed c =
    clear-formed c.args.code.bytes.now c.walk.at c.walk.invariant.clear (omega (arith, c.walk-test.false, c.from.ensures)) c.walk.invariant.inside
