-- the bytes of the symbols, and why there are none
use Rattle.std.proofs.Common.{◌≡◌, Some, option_map, slice_get, sym, subst}
use Rattle.jc_base.specs.World.{code_of}
use Rattle.jc_control.specs.Method.{Method}
use Rattle.jc_control.proofs.OwnMethod.{of-method, to-method}
use Rattle.law_transform.specs.Laid.{IsLaidFor}
use Rattle.xf_last.specs.Fits.{FitsMethod}
use Rattle.xf_pack.specs.Passes.{IsRewrittenTo}
use Rattle.xf_pack.specs.Unlaid.{TellsUnlaid}
use Rattle.xf_pack.proofs.Coded.{bytes-told, laid-for, laid-sound}
use Rattle.xf_pack.proofs.laying.lay_symbols.Goals as goal

pub returns-in-Ok-clause-laid : goal.returns-in-Ok-clause-laid
returns-in-Ok-clause-laid c =
    let w = c.args.world.now in
    let n = c.args.number in
    let rec = c.method-rec.result.now in
    let code = c.of-code.result.bytes.now in
    let m : Method = record { number = n; rec = rec; code = code } in
    let bytes : option_map (code_of w.infos) (slice_get w.methods n) ≡ Some code = cc in
    let known : IsRewrittenTo w c.args.symbols.now m = of-method w n rec code c.method-rec.ensures.is bytes (IsRewrittenTo w c.args.symbols.now)
    c.requires.symbols in
    to-method w n rec code c.method-rec.ensures.is bytes (λ m. IsLaidFor w m c.in-Ok.laid)
    (laid-for w m c.args.symbols.now known c.in-Ok.laid c.in-Ok.ensures.shortest c.in-Ok.ensures.few)

pub returns-in-Ok-clause-sound : goal.returns-in-Ok-clause-sound
returns-in-Ok-clause-sound c =
    let w = c.args.world.now in
    let n = c.args.number in
    let rec = c.method-rec.result.now in
    let code = c.of-code.result.bytes.now in
    let m : Method = record { number = n; rec = rec; code = code } in
    let bytes : option_map (code_of w.infos) (slice_get w.methods n) ≡ Some code = cc in
    let known : IsRewrittenTo w c.args.symbols.now m = of-method w n rec code c.method-rec.ensures.is bytes (IsRewrittenTo w c.args.symbols.now)
    c.requires.symbols in
    to-method w n rec code c.method-rec.ensures.is bytes (λ m. FitsMethod m.rec c.in-Ok.laid)
    (laid-sound w m c.args.symbols.now known c.instructions_are_listed.ensures c.laid_is_typed.ensures c.method-rec.ensures.links c.in-Ok.laid
    c.in-Ok.ensures.shortest c.in-Ok.ensures.few)

pub returns-in-Err-clause-end : goal.returns-in-Err-clause-end
returns-in-Err-clause-end c =
    subst (TellsUnlaid c.args.world.now c.args.number) (sym c.into.ensures)
    (bytes-told c.args.world.now c.args.number c.args.symbols.now c.requires.symbols c.in-Err.end c.in-Err.ensures.long)
