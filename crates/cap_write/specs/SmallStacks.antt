-- The words of stack that code needs are told in one byte.
use Rattle.std.specs.Prelude.{◌<◌, List, All}
use Rattle.cap_laying.specs.declared.member.Body.{Body}
use Rattle.cap_laying.specs.declared.member.Body.TheVariants.{Code, Header}
use Rattle.cap_laying.specs.declared.member.WrittenMember.{WrittenMember}

abbrev pub BodyHasSmallStack : Body → Type 0
BodyHasSmallStack (Code laid) = laid.now.max_stack < 256
BodyHasSmallStack (Header header) = Unit {0}

abbrev pub HaveSmallStacks : List WrittenMember → Type 0
HaveSmallStacks ms = All (λ m. BodyHasSmallStack m.body) ms
