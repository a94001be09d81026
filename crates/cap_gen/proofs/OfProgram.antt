-- The files as the program has them are those of the definition.
use Rattle.std.proofs.Common.{arith}
use Rattle.std.proofs.Common.{◌≡◌, ℕ, List, [], ◌∷◌, ◌++◌, refl, append_assoc}
use Rattle.cap_components.specs.Parts.{Lent}
use Rattle.cap_gen.specs.declared.plain.TheConstants.{DESCRIPTOR_HEAD, DESCRIPTOR_TAIL, STATIC_FIELD, REF_LOCATION}
use Rattle.cap_gen.specs.Methods.{each_method, method_bytes, entry_table, method_info}
use Rattle.cap_gen.specs.Described.{described_bytes, descriptor_bytes, location_bytes}
use Rattle.cap_gen.specs.Generated.{file, generated_parts}
use Rattle.cap_gen.specs.Plain.{first_parts}

pub method_file : (seed : ℕ) → (0x07 ∷ 0x0F ∷ 0xA1 ∷ 100 ∷ []) ++ (each_method entry_table ++ each_method (method_bytes seed))
    ≡ (file 7 (method_info seed)).bytes
unfolding each_method method_bytes entry_table method_info
method_file seed = refl

pub descriptor_file : DESCRIPTOR_HEAD ++ (each_method described_bytes ++ DESCRIPTOR_TAIL) ≡ (file 11 descriptor_bytes).bytes
unfolding each_method described_bytes descriptor_bytes
descriptor_file = refl

pub whole : (seed : ℕ) → first_parts ++ file 7 (method_info seed) ∷ record { part = 8; bytes = STATIC_FIELD } ∷ record
    { part = 9; bytes = REF_LOCATION } ∷ file 11 descriptor_bytes ∷ []
    ≡ generated_parts seed
unfolding each_method method_bytes entry_table method_info described_bytes descriptor_bytes location_bytes
whole seed = refl

-- what is left where the pieces were appended one after the other
pub method_steps : (seed : ℕ) (none head table all : List ℕ) → none ≡ [] → head ≡ none ++ 0x07 ∷ 0x0F ∷ 0xA1 ∷ 100 ∷ []
    → table ≡ head ++ each_method entry_table
    → all ≡ table ++ each_method (method_bytes seed) → all ≡ (file 7 (method_info seed)).bytes
method_steps seed none head table all a b c d = grind (arith, append_assoc, method_file)

pub descriptor_steps : (none head records all : List ℕ) → none ≡ [] → head ≡ none ++ DESCRIPTOR_HEAD
    → records ≡ head ++ each_method described_bytes
    → all ≡ records ++ DESCRIPTOR_TAIL → all ≡ (file 11 descriptor_bytes).bytes
descriptor_steps none head records all a b c d = grind (arith, append_assoc, descriptor_file)

pub parts_steps : (seed : ℕ) (a b c d e : List Lent) (ms ds : List ℕ) → a ≡ first_parts → ms ≡ (file 7 (method_info seed)).bytes
    → b ≡ a ++ record { part = 7; bytes = ms } ∷ [] → c ≡ b ++ record { part = 8; bytes = STATIC_FIELD } ∷ []
    → d ≡ c ++ record { part = 9; bytes = REF_LOCATION } ∷ [] → ds ≡ (file 11 descriptor_bytes).bytes
    → e ≡ d ++ record { part = 11; bytes = ds } ∷ [] → e ≡ generated_parts seed
parts_steps seed a b c d e ms ds ha hm hb hc hd hs he = grind (arith, whole)
