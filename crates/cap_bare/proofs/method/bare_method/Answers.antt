use Rattle.std.proofs.Common.{inl, inr, refl, length}
use Rattle.cap_bytes.proofs.Laws.{stands}
use Rattle.cap_bytes.specs.Spelling.{info_of}
use Rattle.cap_bare.specs.MethodFile.{method_info, IsBadLength}
use Rattle.cap_bare.specs.BareFile.{file}
use Rattle.cap_bare.proofs.method.bare_method.Goals as goal

pub returns-then-length-eq0-clause-fault : goal.returns-then-length-eq0-clause-fault
returns-then-length-eq0-clause-fault c = (
  file c.in-Ok.method,
  stands (info_of 7) method_info c.args.info.bytes.now (file c.in-Ok.method) c.in-Ok.ensures.value,
  refl,
  refl,
  elim c.then-length-eq0.either as (λ _. IsBadLength (length c.in-Ok.method.code.bytes.now)) [ inl e ↦ inl e | inr e ↦ inr e.1 ],
)
