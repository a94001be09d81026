use Rattle.std.proofs.Common.{◌<ℤ◌, ◌+◌, ◌-◌, ◌/◌, ℤ, w32, to_z, of_z, refl, rules}
use Rattle.jc_decode.specs.Decoding.{key_at}
use Rattle.jc_decode.proofs.KeySearches.{narrowed-up, narrowed-down}
use Rattle.jc_decode.proofs.key_search.place_of_key.Goals as goal

pub halves-preserved-then-found-key : goal.halves-preserved-then-found-key
halves-preserved-then-found-key c =
    let key : ℤ = to_z w32 (of_z w32 c.args.key) in
    let middle = c.halves.low + (c.halves.high - c.halves.low) / 2 in
    let less : key_at c.args.form c.args.code.bytes.now c.args.table middle <ℤ key = search rules in
    narrowed-up (key_at c.args.form c.args.code.bytes.now c.args.table) c.args.count c.requires.rising key c.halves.low c.halves.high middle
    c.halves.invariant c.halves-test.true refl less

pub halves-preserved : goal.halves-preserved
halves-preserved c =
    let key : ℤ = to_z w32 (of_z w32 c.args.key) in
    let middle = c.halves.low + (c.halves.high - c.halves.low) / 2 in
    let more : key <ℤ key_at c.args.form c.args.code.bytes.now c.args.table middle = search rules in
    narrowed-down (key_at c.args.form c.args.code.bytes.now c.args.table) c.args.count c.requires.rising key c.halves.low c.halves.high middle
    c.halves.invariant c.halves-test.true refl more
