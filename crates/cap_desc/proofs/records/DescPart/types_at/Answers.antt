-- What is read stands there.
use Rattle.cap_desc.specs.TypeLists.{types_left}
use Rattle.cap_desc.proofs.TypesThere.{found_types, no_types, one_list}
use Rattle.cap_desc.proofs.records.DescPart.types_at.Goals as goal

pub returns-clause-found : goal.returns-clause-found
returns-clause-found c = found_types types_left _ _ c.read_types.result c.read_types.ensures

pub returns-clause-none : goal.returns-clause-none
returns-clause-none c = no_types types_left _ _ c.read_types.result c.read_types.ensures

pub returns-clause-exact : goal.returns-clause-exact
returns-clause-exact c = one_list _ _
