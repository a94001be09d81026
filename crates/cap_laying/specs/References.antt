-- The ReferenceLocation component of methods that are written anew (JCVM 2.2, section 6.11): where their instructions, and
-- the entries of the handler table, have indices into the constant pool.
use Rattle.std.specs.Prelude.{◌+◌, ◌*◌, ℕ, List, [], ◌∷◌, ◌++◌, length, Option, Some, None}
use Rattle.jc_decode.specs.Listing.{listing}
use Rattle.cap_laying.specs.Catches.{catch_places}
use Rattle.cap_laying.specs.Component.{component_bytes}
use Rattle.cap_laying.specs.Distances.{distances}
use Rattle.cap_laying.specs.Indices.{indices}
use Rattle.cap_laying.specs.declared.member.Body.{Body}
use Rattle.cap_laying.specs.declared.member.Body.TheVariants.{Code, Header}
use Rattle.cap_laying.specs.declared.member.WrittenMember.{WrittenMember}
use Rattle.cap_laying.specs.Member.{by_offset, handlers_of, lead_size, size_if}
use Rattle.cap_laying.specs.Blocks.{blocks}
use Rattle.cap_laying.specs.Members.{start_of}

-- the places of the indices of so many bytes in a method that stands at a place
abbrev pub body_indices : ℕ → ℕ → Body → List ℕ
body_indices width at (Code laid) = indices width (at + lead_size (Code laid)) (listing laid.now.code)
body_indices width at (Header header) = []

abbrev pub indices_if : ℕ → ℕ → Option WrittenMember → List ℕ
indices_if width at None = []
indices_if width at (Some m) = body_indices width at m.body

-- in methods that stand one after the other
abbrev pub method_indices : ℕ → ℕ → List (Option WrittenMember) → List ℕ
method_indices width at [] = []
method_indices width at (m ∷ ms) = indices_if width at m ++ method_indices width (at + size_if m) ms

-- the places of the pool numbers of caught classes in the handler table, when the blocks of methods stand in this order
abbrev pub block_catches : ℕ → List WrittenMember → List ℕ
block_catches at [] = []
block_catches at (b ∷ bs) = catch_places at (handlers_of b.body) ++ block_catches (at + 8 * length (handlers_of b.body)) bs

-- the info of the component: the indices of one byte, and then those of two, of which those in the handler table come first
unfoldable pub references_info : ℕ → List (Option WrittenMember) → List WrittenMember → List ℕ
references_info start table blocks = component_bytes
    (distances 0 (method_indices 1 start table))
    (distances 0 (block_catches 1 blocks ++ method_indices 2 start table))

-- that of the methods of a component
unfoldable pub written_references : ℕ → ℕ → List WrittenMember → List ℕ
written_references size room ms = references_info (start_of room ms) (by_offset size ms) (blocks room ms)
