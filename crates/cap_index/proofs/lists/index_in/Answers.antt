use Rattle.cap_package.specs.CustomSeen.{custom_items}
use Rattle.cap_index.proofs.Custom.{custom-short}
use Rattle.cap_index.proofs.lists.index_in.Goals as goal

pub returns-then-eq-clause-few : goal.returns-then-eq-clause-few
returns-then-eq-clause-few c = custom-short c.args.package.now 128 (custom_items c.in_ok-custom.custom) c.in_ok-custom.ensures
