-- The described methods of a package that are written anew.
use Rattle.std.specs.Prelude.{◌≡◌, ◌≤◌, ◌<◌, ◌+◌, ◌*◌, ℕ, List, [], ◌∷◌, length, Option}
use Rattle.cap_renewal.specs.declared.new_methods.NewMethod.{NewMethod}
use Rattle.cap_laying.specs.declared.member.Body.{Body}
use Rattle.cap_laying.specs.declared.member.Body.TheVariants.{Code, Header}
use Rattle.cap_laying.specs.declared.member.WrittenMember.{WrittenMember}
use Rattle.cap_laying.specs.HandlerTable.{AreInside}
use Rattle.cap_laying.specs.Member.{by_offset, methods_end_from}
use Rattle.cap_laying.specs.NewPlaces.{IsSmallBody, news_from}
use Rattle.cap_laying.specs.Blocks.{blocks, entries_of_blocks, handler_indexes, total_handlers}
use Rattle.cap_laying.specs.MethodInfo.{method_info}

-- no other method stood at this offset
abbrev pub IsAlone : ℕ → List WrittenMember → Type 0
IsAlone offset [] = Unit {0}
IsAlone offset (m ∷ ms) = (m.offset ≡ offset → ⊥) × IsAlone offset ms

-- no two methods stood at one offset
abbrev pub AreApart : List WrittenMember → Type 0
AreApart [] = Unit {0}
AreApart (m ∷ ms) = IsAlone m.offset ms × AreApart ms

-- a method has at most 32,767 bytes of code, in which its handlers lie
abbrev pub HasHandlersInside : Body → Type 0
HasHandlersInside (Code laid) = AreInside (length laid.now.code) laid.now.handlers
HasHandlersInside (Header header) = Unit {0}

pub record MayBeMember (size : ℕ) (m : WrittenMember) : Type 0 where
  pub within : m.offset < size
  pub small : IsSmallBody m.body
  pub whole : HasHandlersInside m.body

abbrev pub AreMembers : ℕ → List WrittenMember → Type 0
AreMembers size [] = Unit {0}
AreMembers size (m ∷ ms) = MayBeMember size m × AreMembers size ms

-- the methods of a component: they stood apart in an info of so many bytes, and have at most 255 handlers
pub record MayBeWritten (size : ℕ) (ms : List WrittenMember) : Type 0 where
  pub each : AreMembers size ms
  pub apart : AreApart ms
  pub few : total_handlers ms ≤ 255

-- ---- the component

-- where the methods begin: after the handler table, where the former one had at most so many entries
abbrev pub start_of : ℕ → List WrittenMember → ℕ
start_of room ms = 1 + 8 * total_handlers (blocks room ms)

-- where each stands, by its former offset
unfoldable pub new_places : ℕ → ℕ → List WrittenMember → List (Option NewMethod)
new_places size room ms = news_from (handler_indexes size (blocks room ms)) (start_of room ms) (by_offset size ms)

-- the info of the component
unfoldable pub written_info : ℕ → ℕ → List WrittenMember → List ℕ
written_info size room ms = method_info (entries_of_blocks (new_places size room ms) (blocks room ms)) (by_offset size ms)

-- how many bytes it has
unfoldable pub written_size : ℕ → ℕ → List WrittenMember → ℕ
written_size size room ms = methods_end_from (start_of room ms) (by_offset size ms)
