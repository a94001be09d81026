use Rattle.std.proofs.Common.{sym, ◌∙◌, ap, rules}
use Rattle.std.specs.Prelude.{FitsSigned, Some, slice_get}
use Rattle.jc_decode.specs.Listing.{target, targets}
use Rattle.jc_decode.proofs.Targets.{targets-first}
use Rattle.std.specs.Int.{w32}
use Rattle.std.proofs.lemmas.Int.{to_z-of_z}
use Rattle.jc_decode.proofs.Ranges.{offset-decoded}
use Rattle.jc_decode.proofs.cases.target.Goals as goal

pub hop-requires : goal.hop-requires
hop-requires c =
    let fits : FitsSigned w32 c.args.placed.insn.x = search rules in
    rw (to_z-of_z w32 c.args.placed.insn.x fits)
    (offset-decoded c.args.code.bytes.now c.args.placed.place c.args.placed.insn c.are_bytes.ensures c.requires.decoded
    (sym c.jumps.ensures ∙ c.if-not-jumps.false))

pub returns-then-n-eq0 : goal.returns-then-n-eq0
returns-then-n-eq0 c =
    let fits : FitsSigned w32 c.args.placed.insn.x = search rules in
    let result : FitsSigned w32 c.hop.result = search rules in
    ap Some (to_z-of_z w32 c.hop.result result ∙ c.hop.ensures ∙ ap (target c.args.placed.place) (to_z-of_z w32 c.args.placed.insn.x fits))
    ∙ sym (targets-first c.args.code.bytes.now c.args.placed (sym c.jumps.ensures ∙ c.if-not-jumps.false))
    ∙ ap (slice_get (targets c.args.code.bytes.now c.args.placed)) (sym c.if-n-eq0.true)
