use Rattle.std.proofs.Common.{◌≡◌, ℕ, ◌-◌, ◌++◌, ◌≤◌, length, take, drop, replicate, ◌∙◌, subst, arith}
use Rattle.vm_store.specs.State.{register_count}
use Rattle.vm_offend.proofs.Windows.{register-more, begun, begun_fits}
use Rattle.vm_offend.proofs.window.enter.Goals as goal

pub registers-preserved : goal.registers-preserved
registers-preserved c =
    let count = c.register_count-x-end.result in
    let room : length c.args.args.now ≤ count = omega (arith, c.requires.room, c.register_count-x-end.ensures.value) in
    register-more c.registers.window c.args.args.now count c.registers.x c.argument.result (c.registers.auto.window ∙ c.requires.len)
    c.register_count-x-end.ensures.most room c.registers-test.true c.argument.ensures c.registers.invariant

pub returns-clause-frame : goal.returns-clause-frame
returns-clause-frame c =
    let methods = c.args.world.now.methods in let args = c.args.args.now in let ws = c.registers.window in
    let count = register_count methods c.args.method in let end = c.register_count-x-end.result in
    let few : count ≤ 255 = omega (arith, c.register_count-x-end.ensures.most, c.register_count-x-end.ensures.value) in
    let last : c.registers.x ≡ count = omega (arith, c.registers-test.false, c.registers.auto.x-end, c.register_count-x-end.ensures.value) in
    let Filled : ℕ → ℕ → Type 0 = λ n m. take n (drop 3 ws) ≡ take n (args ++ replicate (m - length args) 0) in
    let written : Filled count count = subst (λ m. Filled count m) c.register_count-x-end.ensures.value
    (subst (λ n. Filled n end) last c.registers.invariant) in
    begun methods ws args c.args.method (c.registers.auto.window ∙ c.requires.len) few c.requires.room written

pub returns-clause-fits : goal.returns-clause-fits
returns-clause-fits c =
    let methods = c.args.world.now.methods in let args = c.args.args.now in let ws = c.registers.window in
    let count = register_count methods c.args.method in let end = c.register_count-x-end.result in
    let few : count ≤ 255 = omega (arith, c.register_count-x-end.ensures.most, c.register_count-x-end.ensures.value) in
    let last : c.registers.x ≡ count = omega (arith, c.registers-test.false, c.registers.auto.x-end, c.register_count-x-end.ensures.value) in
    let Filled : ℕ → ℕ → Type 0 = λ n m. take n (drop 3 ws) ≡ take n (args ++ replicate (m - length args) 0) in
    let written : Filled count count = subst (λ m. Filled count m) c.register_count-x-end.ensures.value
    (subst (λ n. Filled n end) last c.registers.invariant) in
    begun_fits methods ws args c.args.method (c.registers.auto.window ∙ c.requires.len) few c.requires.room written
