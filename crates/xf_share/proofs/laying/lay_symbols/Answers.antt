-- the bytes of the symbols, and why there are none
use Rattle.std.proofs.Common.{◌≡◌, Some, option_map, slice_get, arith}
use Rattle.jc_base.specs.World.{code_of}
use Rattle.jc_control.specs.Method.{Method}
use Rattle.law_shared_world.specs.SharedCode.{IsSharedFor}
use Rattle.jc_control.proofs.OwnMethod.{of-method, to-method}
use Rattle.xf_share.specs.Numbering.{IsRenumbered}
use Rattle.xf_last.specs.Fits.{FitsMethod}
use Rattle.xf_share.proofs.Coded.{fits, long-told, shared-for, symbols-items, symbols-ranges, symbols-small}
use Rattle.xf_share.proofs.laying.lay_symbols.Goals as goal
use Rattle.xf_share.proofs.laying.lay_symbols.Goals.{After-of-code}

abbrev own : After-of-code → Method
own c = record { number = c.args.number; rec = c.method-rec.result.now; code = c.of-code.result.bytes.now }

coded : (c : After-of-code) → option_map (code_of c.args.world.now.infos) (slice_get c.args.world.now.methods c.args.number) ≡ Some c.of-code.result.bytes.now
coded c = cc

known : (c : After-of-code) → IsRenumbered c.args.world.now (own c) c.args.sharing.now c.args.symbols.now
known c =
    of-method c.args.world.now c.args.number c.method-rec.result.now c.of-code.result.bytes.now c.method-rec.ensures.is (coded c)
    (λ (x : Method). IsRenumbered c.args.world.now x c.args.sharing.now c.args.symbols.now) c.requires.symbols

pub lay-requires-clause-items : goal.lay-requires-clause-items
lay-requires-clause-items c =
    let at = (goal.at.lay-requires-clause-items c).After-of-code in
    symbols-items c.instructions_are_listed.ensures c.args.world.now (own at) c.args.sharing.now c.args.symbols.now (known at)

pub lay-requires-clause-ranges : goal.lay-requires-clause-ranges
lay-requires-clause-ranges c =
    let at = (goal.at.lay-requires-clause-ranges c).After-of-code in
    symbols-ranges c.instructions_are_listed.ensures c.args.world.now (own at) c.args.sharing.now c.args.symbols.now (known at)

pub lay-requires-clause-size : goal.lay-requires-clause-size
lay-requires-clause-size c =
    let at = (goal.at.lay-requires-clause-size c).After-of-code in
    omega (arith, symbols-small c.instructions_are_listed.ensures c.args.world.now (own at) c.args.sharing.now c.args.symbols.now (known at))

pub returns-in-Ok-clause-laid : goal.returns-in-Ok-clause-laid
returns-in-Ok-clause-laid c =
    let w = c.args.world.now in let at = (goal.at.returns-in-Ok-clause-laid c).After-of-code in
    to-method w c.args.number c.method-rec.result.now c.of-code.result.bytes.now c.method-rec.ensures.is (coded at)
    (λ (x : Method). IsSharedFor w x c.in-Ok.laid)
    (shared-for c.instructions_are_listed.ensures w (own at) c.args.sharing.now c.args.symbols.now (known at) c.in-Ok.laid c.in-Ok.ensures.shortest
    c.in-Ok.ensures.few)

pub returns-in-Ok-clause-fits : goal.returns-in-Ok-clause-fits
returns-in-Ok-clause-fits c =
    let w = c.args.world.now in let at = (goal.at.returns-in-Ok-clause-fits c).After-of-code in
    to-method w c.args.number c.method-rec.result.now c.of-code.result.bytes.now c.method-rec.ensures.is (coded at)
    (λ (x : Method). FitsMethod x.rec c.in-Ok.laid)
    (fits c.instructions_are_listed.ensures w (own at) c.args.sharing.now c.args.symbols.now (known at) c.classes-classes.ensures.links
    c.sharing_is_one.ensures.fewer c.in-Ok.laid c.in-Ok.ensures.shortest c.in-Ok.ensures.few)

pub returns-in-Err-clause-end : goal.returns-in-Err-clause-end
returns-in-Err-clause-end c =
    let w = c.args.world.now in let at = (goal.at.returns-in-Err-clause-end c).After-of-code in
    long-told c.instructions_are_listed.ensures w (own at) c.args.sharing.now c.args.symbols.now (known at) c.args.number
    (to-method w c.args.number c.method-rec.result.now c.of-code.result.bytes.now c.method-rec.ensures.is (coded at)) c.in-Err.end c.in-Err.ensures.long
