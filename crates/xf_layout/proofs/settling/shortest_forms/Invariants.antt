use Rattle.std.proofs.Common.{◌≡◌, map, take}
use Rattle.xf_layout.specs.Widening.{shortest}
use Rattle.xf_layout.proofs.settling.shortest_forms.Given as goal

abbrev pub invariant-items : goal.invariant-items
invariant-items l = l.forms.items ≡ map shortest (take l.item-index l.items)
