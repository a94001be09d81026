use Rattle.std.proofs.Common.{◌≡◌, length}
use Rattle.jc_base.specs.Class.{IsClass, chain}
use Rattle.jc_link.specs.Members.{kept_holder}
use Rattle.jc_link.proofs.fields.holder_of.Given as goal

abbrev pub invariant-climb : goal.invariant-climb
invariant-climb l = record {
  class : IsClass l.classes l.at;
  same : kept_holder l.sites l.classes l.token l.at ≡ kept_holder l.sites l.classes l.token l.class;
}

abbrev pub decreases-climb : goal.decreases-climb
decreases-climb l = length (chain l.classes l.at)
