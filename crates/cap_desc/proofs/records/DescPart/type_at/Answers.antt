-- What is read stands there.
use Rattle.cap_desc.proofs.TypesThere.{found_type, no_type}
use Rattle.cap_desc.proofs.records.DescPart.type_at.Goals as goal

pub returns-clause-found : goal.returns-clause-found
returns-clause-found c = found_type _ _ c.read_type.result c.read_type.ensures

pub returns-clause-none : goal.returns-clause-none
returns-clause-none c = no_type _ _ c.read_type.result c.read_type.ensures
