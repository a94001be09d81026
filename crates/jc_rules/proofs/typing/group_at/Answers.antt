use Rattle.std.proofs.Common.{◌<◌, arith, inr, subst, length}
use Rattle.std.specs.Prelude.{IfSome}
use Rattle.jc_rules.proofs.Groups.{span-read, number-read}
use Rattle.jc_rules.proofs.typing.group_at.Goals as goal

pub same_registers-requires-clause-within : goal.same_registers-requires-clause-within
same_registers-requires-clause-within c =
    c.requires.spans.within c.args.place c.in-Some-spans.span (span-read c.args.spans.now c.args.place _ c.requires.place c.in-Some-spans.is)

pub same_registers-requires-clause-few : goal.same_registers-requires-clause-few
same_registers-requires-clause-few c =
    c.requires.spans.few c.args.place c.in-Some-spans.span (span-read c.args.spans.now c.args.place _ c.requires.place c.in-Some-spans.is)

pub same_registers-requires-clause-other_within : goal.same_registers-requires-clause-other_within
same_registers-requires-clause-other_within c =
    let before = c.in-Some.before in
    let there = subst (λ o. IfSome o (λ q. q < length c.args.groups.now)) c.in-Some.is c.requires.last in
    let inside : before < length c.args.spans.now = omega (arith, there, c.requires.groups) in
    c.requires.spans.within before c.in-Some-spans-2.other (span-read c.args.spans.now before _ inside c.in-Some-spans-2.is)

pub same_registers-requires-clause-other_few : goal.same_registers-requires-clause-other_few
same_registers-requires-clause-other_few c =
    let before = c.in-Some.before in
    let there = subst (λ o. IfSome o (λ q. q < length c.args.groups.now)) c.in-Some.is c.requires.last in
    let inside : before < length c.args.spans.now = omega (arith, there, c.requires.groups) in
    c.requires.spans.few before c.in-Some-spans-2.other (span-read c.args.spans.now before _ inside c.in-Some-spans-2.is)

pub returns-then-same_registers : goal.returns-then-same_registers
returns-then-same_registers c =
    let before = c.in-Some.before in
    let there = subst (λ o. IfSome o (λ q. q < length c.args.groups.now)) c.in-Some.is c.requires.last in
    let inside : before < length c.args.spans.now = omega (arith, there, c.requires.groups) in
    inr (
      before,
      c.in-Some-spans.span,
      c.in-Some-spans-2.other,
      span-read c.args.spans.now c.args.place _ c.requires.place c.in-Some-spans.is,
      span-read c.args.spans.now before _ inside c.in-Some-spans-2.is,
      number-read c.args.groups.now before there,
      c.same_registers.ensures.0 c.if-same_registers.true,
    )
