-- The methods stand where the Descriptor tells.
use Rattle.std.proofs.Common.{◌≡◌, ◌<◌, ◌+◌, ℕ, List, [], map, take, drop, length, refl, sym, ap, ◌∙◌, arith, get_or}
use Rattle.std.specs.List.{range_with_len}
use Rattle.std.proofs.lemmas.List.FromFn.{get_or-map-range_with_len}
use Rattle.cap_method.specs.declared.read_methods.HandlerInfo.{HandlerInfo}
use Rattle.cap_gen.specs.Methods.{each_method, method_bytes, entry_table, method_info, method_offset, code_size_of_kind}
use Rattle.cap_gen.specs.Handlers.{entries, entries_of_kind, handlers}
use Rattle.cap_gen.specs.Methods.{handler_index}
use Rattle.cap_gen.specs.GeneratedPackage.{StandsThere}

-- two lists by number are equal at each number
pub at_each : {X : Type 0} (f g : ℕ → X) (d : X) (k : ℕ) → map f (range_with_len 0 200) ≡ map g (range_with_len 0 200) → k < 200 → f k ≡ g k
at_each f g d k e h =
    sym (get_or-map-range_with_len f 0 200 k k d h (omega arith))
    ∙ (ap (λ (xs : List _). get_or xs k d) e ∙ get_or-map-range_with_len g 0 200 k k d h (omega arith))

abbrev bytes_there : ℕ → ℕ → List ℕ
bytes_there seed k = take (code_size_of_kind k + 2) (drop (method_offset k) (method_info seed))

all_bytes : (seed : ℕ) → map (bytes_there seed) (range_with_len 0 200) ≡ map (method_bytes seed) (range_with_len 0 200)
unfolding each_method method_bytes entry_table method_info
all_bytes seed = refl

abbrev entries_there : ℕ → List HandlerInfo
entries_there k = take (length (handlers k)) (drop (handler_index k) entries)

all_entries : map entries_there (range_with_len 0 200) ≡ map entries_of_kind (range_with_len 0 200)
unfolding each_method entries
all_entries = refl

pub methods_stand : (seed k : ℕ) → k < 200 → StandsThere seed k
methods_stand seed k h = record {
  bytes = at_each (bytes_there seed) (method_bytes seed) [] k (all_bytes seed) h;
  entries = at_each entries_there entries_of_kind [] k all_entries h;
}
