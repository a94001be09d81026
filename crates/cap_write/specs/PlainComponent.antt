-- The plain size of the info of a Method component.
use Rattle.std.specs.Prelude.{◌+◌, ◌*◌, ℕ, List, [], ◌∷◌, length}
use Rattle.jc_decode.specs.CodeSize.{plain_code_size}
use Rattle.cap_laying.specs.declared.member.WrittenMember.{WrittenMember}
use Rattle.cap_laying.specs.NewPlaces.{IsSmallBody}
use Rattle.cap_write.specs.Described.{SeenBody, SeenMember, code, lead}

-- a method's handlers, its header in four bytes and the plain size of its code; or the header of a method without code
abbrev pub plain_member : SeenBody → ℕ
plain_member (code laid) = 8 * length laid.handlers + (4 + plain_code_size laid.code)
plain_member (lead header) = length header

abbrev pub plain_members : List SeenMember → ℕ
plain_members [] = 0
plain_members (m ∷ ms) = plain_member m.body + plain_members ms

-- with the byte that counts the handlers
abbrev pub plain_component : List SeenMember → ℕ
plain_component ms = 1 + plain_members ms

abbrev pub AreSmallMembers : List WrittenMember → Type 0
AreSmallMembers [] = Unit {0}
AreSmallMembers (m ∷ ms) = IsSmallBody m.body × AreSmallMembers ms
