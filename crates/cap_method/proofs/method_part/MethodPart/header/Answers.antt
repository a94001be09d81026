use Rattle.std.proofs.Common.{◌<◌, length, arith}
use Rattle.cap_method.proofs.Headers.{header_found, header_none, header_within, header_one}
use Rattle.cap_method.proofs.method_part.MethodPart.header.Goals as goal

pub returns-then-at-self-clause-none : goal.returns-then-at-self-clause-none
returns-then-at-self-clause-none c = λ h there.
    let past : length c.args.self.now.info.bytes.now < c.args.offset = omega arith in
    header_within _ _ h there past

pub returns-clause-found : goal.returns-clause-found
returns-clause-found c = rw (c.ok.ensures.value, ← c.from-at.ensures) (header_found _ _ _ c.header.ensures)

pub returns-clause-none : goal.returns-clause-none
returns-clause-none c = rw (c.ok.ensures.value, ← c.from-at.ensures) (header_none _ _ _ c.header.ensures)

pub returns-then-at-self-clause-exact : goal.returns-then-at-self-clause-exact
returns-then-at-self-clause-exact c = header_one _ _

pub returns-clause-exact : goal.returns-clause-exact
returns-clause-exact c = header_one _ _
