use Rattle.std.proofs.Common.{◌≡◌, ◌+◌, ◌++◌, ◌∷◌, [], ◌∙◌, drop, sym, ap, arith, append_assoc}
use Rattle.xf_homes.specs.Order.{begins_from}
use Rattle.xf_homes.proofs.Lists.{sum-rest, begins-next}
use Rattle.xf_homes.proofs.found.begins.Goals as goal

pub overflow_add-register : goal.overflow_add-register
overflow_add-register c =
    let rest = sum-rest c.args.homes.now c.homes.home-index _ c.width-register.result c.homes-test.true c.width-register.ensures in
    omega (arith, rest, c.homes.invariant.sum, c.requires)

pub homes-preserved : goal.homes-preserved
homes-preserved c =
    let hs = c.args.homes.now in
    let rest = sum-rest hs c.homes.home-index _ c.width-register.result c.homes-test.true c.width-register.ensures in
    let left = begins_from (c.homes.register + c.width-register.result) (drop (c.homes.home-index + 1) hs) in
    let next : begins_from c.homes.register (drop c.homes.home-index hs) ≡ c.homes.register ∷ left = begins-next hs c.homes.home-index c.homes.register
    _ c.width-register.result c.homes-test.true c.width-register.ensures in
    record {
      so_far =
          ap (λ xs. xs ++ left) c.in_ok-push.ensures.items
          ∙ append_assoc c.homes.registers.items (c.homes.register ∷ []) left
          ∙ ap (λ xs. c.homes.registers.items ++ xs) (sym next)
          ∙ c.homes.invariant.so_far;
      sum = omega (arith, rest, c.homes.invariant.sum);
    }
