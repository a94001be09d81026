-- The n-th type is what `nth` gives.
use Rattle.std.proofs.Common.{sym, ◌∙◌, refl}
use Rattle.std.proofs.lemmas.Iterator.Consumers.{nth_from_yields_List, YieldsList-from_first}
use Rattle.cap_desc.specs.declared.type_list.TypeItem.{TypeItem}
use Rattle.cap_desc.specs.TypeLists.{types_left}
use Rattle.cap_desc.proofs.types.Types.at.Goals as goal

pub returns : goal.returns
returns c =
    let found = nth_from_yields_List c.nth.result c.nth.new.self c.args.n c.nth.ensures.ran
    (YieldsList-from_first (λ (x : TypeItem). x) types_left (types_left c.args.self.now) refl) in
    sym found ∙ rw c.unwrap.ensures refl
