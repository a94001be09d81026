use Rattle.std.proofs.Common.{refl}
use Rattle.std.proofs.lemmas.Bool.{le-ltb}
use Rattle.jc_base.proofs.Dispatches.{package_read}
use Rattle.vm_bound.proofs.meanings.shares.Goals as goal

pub returns-else-token-lt128 : goal.returns-else-token-lt128
returns-else-token-lt128 c =
    let t = c.args.world.now.classes in
    rw (
      le-ltb c.args.token 128 c.if-token-lt128.false,
      package_read t c.args.below c.class.result.now c.class.ensures.is,
      package_read t c.args.class c.class-else-token-lt128.result.now c.class-else-token-lt128.ensures.is,
    ) refl
