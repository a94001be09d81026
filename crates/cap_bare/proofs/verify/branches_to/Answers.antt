use Rattle.std.proofs.Common.{ap, ◌∙◌, rules}
use Rattle.std.proofs.lemmas.Int.{to_z-of_z}
use Rattle.std.specs.Int.{w32}
use mir.Val.{SFits}
use Rattle.cap_bare.specs.Walk.{is_at}
use Rattle.cap_bare.proofs.Instructions.{fetched-decoded, stands-here}
use Rattle.cap_bare.proofs.Places.{leads-some, leads-none}
use Rattle.cap_bare.proofs.verify.branches_to.Goals as goal

pub target-requires-clause-decoded : goal.target-requires-clause-decoded
target-requires-clause-decoded c =
    let code = c.args.code.bytes.now in
    let i = c.args.placed in fetched-decoded code i.place i.insn (stands-here code i c.requires.stands).found

pub returns-in-Some : goal.returns-in-Some
returns-in-Some c =
    let fits : SFits w32 c.in-Some.target = search rules in
    leads-some c.args.code.bytes.now c.args.placed c.args.place c.in-Some.target c.requires.stands c.in-Some.ensures c.is_at.result
    (c.is_at.ensures ∙ ap (is_at c.args.place) (to_z-of_z w32 c.in-Some.target fits))

pub returns-in-None : goal.returns-in-None
returns-in-None c = leads-none c.args.code.bytes.now c.args.placed c.args.place c.requires.stands c.in-None.ensures
