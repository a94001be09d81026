-- why there are no homes, what is known of the symbols, and why there are none
use Rattle.std.proofs.Common.{◌<◌, ◌≤◌, rules, sym, subst}
use Rattle.jc_flow.proofs.Answered.{number-below}
use Rattle.xf_homes.specs.Order.{register_sum}
use Rattle.xf_pack.specs.Unlaid.{TellsUnlaid}
use Rattle.xf_pack.proofs.Coded.{homes-told, symbols-known, symbols-told}
use Rattle.xf_pack.proofs.laying.lay_code.Goals as goal

pub method-requires : goal.method-requires
method-requires c = number-below (λ r. 0 < r.code_len) c.args.world.now.methods c.args.number c.requires.code

pub lay_symbols-requires-clause-symbols : goal.lay_symbols-requires-clause-symbols
lay_symbols-requires-clause-symbols c =
    let few : register_sum c.in-Ok.homes ≤ 255 = search rules in
    let byte : c.method.result.now.max_stack ≤ 255 = search rules in
    symbols-known c.args.world.now c.args.number c.method.result.now c.method.ensures.is c.method.ensures.links c.requires.code c.args.typing.now
    c.requires.typing c.in-Ok.homes c.in-Ok.ensures.homes few c.in-Ok-rewrite.symbols byte c.in-Ok-rewrite.ensures.limit c.in-Ok-rewrite.ensures.symbols
    c.in-Ok-rewrite.ensures.typed c.in-Ok-rewrite.ensures.live c.in-Ok-rewrite.ensures.numbers c.in-Ok-rewrite.ensures.items

pub returns-in-Ok-clause-end : goal.returns-in-Ok-clause-end
returns-in-Ok-clause-end c =
    let few : register_sum c.in-Ok.homes ≤ 255 = search rules in
    subst (TellsUnlaid c.args.world.now c.args.number) (sym c.into.ensures)
    (symbols-told c.args.world.now c.args.number c.method.result.now c.method.ensures.is c.method.ensures.links c.requires.code c.args.typing.now
    c.requires.typing c.in-Ok.homes c.in-Ok.ensures.homes few c.in-Err-rewrite.end c.in-Err-rewrite.ensures.limit)

pub returns-clause-end : goal.returns-clause-end
returns-clause-end c =
    subst (TellsUnlaid c.args.world.now c.args.number) (sym c.into-in-Err.ensures)
    (homes-told c.args.world.now c.args.number c.method.result.now c.method.ensures.is c.method.ensures.links c.requires.code c.args.typing.now
    c.requires.typing c.in-Err.end c.in-Err.ensures.end)
