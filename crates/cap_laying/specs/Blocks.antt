-- The order of the handler table. The handlers of a method stand together, as a block: first those of the methods that had
-- handlers, in the order of the former table, then those of the others, in the order of the Descriptor.
use Rattle.std.specs.Prelude.{◌≤◌, ◌+◌, ℕ, List, [], ◌∷◌, ◌++◌, length, filter, replicate, slice_set, Bool, Option}
use Rattle.std.specs.Prelude.{Some, None, is_none, ◌==◌, if◌then◌else◌}
use Rattle.std.specs.List.{flat_map}
use Rattle.std.specs.Option.{option_to_list}
use Rattle.cap_method.specs.declared.read_methods.HandlerInfo.{HandlerInfo}
use Rattle.cap_renewal.specs.declared.new_methods.NewMethod.{NewMethod}
use Rattle.cap_renewal.specs.NewMethods.{to}
use Rattle.cap_laying.specs.declared.member.Body.{Body}
use Rattle.cap_laying.specs.declared.member.Body.TheVariants.{Code, Header}
use Rattle.cap_laying.specs.declared.member.WrittenMember.{WrittenMember}
use Rattle.cap_laying.specs.HandlerTable.{AreInside, entries_at}
use Rattle.cap_laying.specs.Member.{handlers_of, lead_size}

abbrev pub put_by : List (Option WrittenMember) → WrittenMember → Option ℕ → List (Option WrittenMember)
put_by table m None = table
put_by table m (Some first) = slice_set table first (Some m)

-- the methods that had handlers, by the number of the first of them
abbrev pub put_firsts : List (Option WrittenMember) → List WrittenMember → List (Option WrittenMember)
put_firsts table [] = table
put_firsts table (m ∷ ms) = put_firsts (put_by table m m.handlers_from) ms

unfoldable pub firsts : ℕ → List WrittenMember → List (Option WrittenMember)
firsts room ms = put_firsts (replicate room None) ms

abbrev pub had_none : WrittenMember → Bool
had_none m = is_none m.handlers_from

-- the methods in the order of their blocks, where the former table had at most so many entries
abbrev pub blocks : ℕ → List WrittenMember → List WrittenMember
blocks room ms = flat_map option_to_list (firsts room ms) ++ filter had_none ms

-- the number of a method's first entry, when so many come before it, and 0 where it has none
abbrev pub first_entry : ℕ → ℕ → ℕ
first_entry before count = if count == 0 then 0 else before

-- the numbers by the former offsets of the methods
abbrev pub put_indexes : List ℕ → ℕ → List WrittenMember → List ℕ
put_indexes indexes before [] = indexes
put_indexes indexes before (b ∷ bs) =
    put_indexes (slice_set indexes b.offset (first_entry before (length (handlers_of b.body)))) (before + length (handlers_of b.body)) bs

unfoldable pub handler_indexes : ℕ → List WrittenMember → List ℕ
handler_indexes size blocks = put_indexes (replicate size 0) 0 blocks

-- the entries of a method that stands at its new place, and those of all
abbrev pub block_entries : List (Option NewMethod) → WrittenMember → List HandlerInfo
block_entries news b = entries_at (to news b.offset + lead_size b.body) (handlers_of b.body)

abbrev pub entries_of_blocks : List (Option NewMethod) → List WrittenMember → List HandlerInfo
entries_of_blocks news blocks = flat_map (block_entries news) blocks

-- the code of a method lies in an info of 65,535 bytes, and its handlers in the code
abbrev pub IsPlacedBody : ℕ → Body → Type 0
IsPlacedBody at (Code laid) =
    (at + lead_size (Code laid) + length laid.now.code ≤ 65535) × AreInside (length laid.now.code) laid.now.handlers
IsPlacedBody at (Header header) = Unit {0}

abbrev pub ArePlacedBodies : List (Option NewMethod) → List WrittenMember → Type 0
ArePlacedBodies news [] = Unit {0}
ArePlacedBodies news (b ∷ bs) = IsPlacedBody (to news b.offset) b.body × ArePlacedBodies news bs

-- how many handlers methods have
abbrev pub total_handlers : List WrittenMember → ℕ
total_handlers [] = 0
total_handlers (b ∷ bs) = length (handlers_of b.body) + total_handlers bs
