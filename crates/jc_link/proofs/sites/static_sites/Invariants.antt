use Rattle.std.proofs.Common.{◌≡◌, [], take}
use Rattle.jc_link.specs.Sites.{all_entered}
use Rattle.jc_link.specs.Members.{static_sites}
use Rattle.jc_link.proofs.sites.static_sites.Given as goal

abbrev pub invariant-fields : goal.invariant-fields
invariant-fields l = l.sites ≡ all_entered [] (static_sites (take l.field-index l.statics))
