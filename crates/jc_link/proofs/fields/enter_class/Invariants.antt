use Rattle.std.proofs.Common.{◌≡◌, take, map}
use Rattle.jc_link.specs.Sites.{all_entered}
use Rattle.jc_link.specs.Fields.{field_site}
use Rattle.jc_link.proofs.fields.enter_class.Given as goal

abbrev pub invariant-fields : goal.invariant-fields
invariant-fields l = l.sites ≡ all_entered l.initial.sites (map (field_site l.above l.class l.own) (take l.field-index l.own))
