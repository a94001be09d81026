-- A descriptor of one type: the type stands first, and the nibbles end after it.
use Rattle.std.proofs.Common.{arith}
use Rattle.std.proofs.Common.{◌≡◌, ℕ, ◌≤◌, ◌<◌, List, length, Option, Some, None, Ok, refl, sym}
use Rattle.std.specs.Result.{result_ok}
use Rattle.std.specs.Option.{option_map}
use Rattle.std.proofs.lemmas.Bool.{le-leb, lt-leb}
use Rattle.cap_bytes.specs.Grammar.{finish, give, ◌>>=◌}
use Rattle.cap_bytes.specs.Reading.{Reading, and_then}
use Rattle.cap_desc.specs.declared.type_list.TypeItem.{TypeItem}
use Rattle.cap_desc.specs.TypeFormat.{type_item, nibbles_read, one_type_in}
use Rattle.cap_desc.proofs.Counting.{read_where}

abbrev then_end : List ℕ → Reading TypeItem → Option TypeItem
then_end ns r = option_map (λ p. p.0) (result_ok (and_then r (λ x at. nibbles_read (finish >>= λ end. give x) ns at)))

none_first : (ns : List ℕ) (r : Reading TypeItem) → result_ok r ≡ None → then_end ns r ≡ None
none_first ns x h = grind (arith)

pub one_type-none : (ns : List ℕ) → None ≡ result_ok (nibbles_read type_item ns 0) → one_type_in ns ≡ None
unfolding one_type_in
one_type-none ns h = none_first ns (nibbles_read type_item ns 0) (sym h)

at_end : (ns : List ℕ) (r : Reading TypeItem) (x : TypeItem) (end : ℕ) → r ≡ Ok (x, end) → length ns ≤ end → then_end ns r ≡ Some x
at_end ns r x end e le = rw (e, le-leb (length ns) end le) refl

before_end : (ns : List ℕ) (r : Reading TypeItem) (x : TypeItem) (end : ℕ) → r ≡ Ok (x, end) → end < length ns → then_end ns r ≡ None
before_end ns r x end e lt = rw (e, lt-leb (length ns) end lt) refl

pub one_type-alone : (ns : List ℕ) (x : TypeItem) (end : ℕ) → Some (x, end) ≡ result_ok (nibbles_read type_item ns 0) → length ns ≤ end
    → one_type_in ns ≡ Some x
unfolding one_type_in
one_type-alone ns x end h le = at_end ns (nibbles_read type_item ns 0) x end (read_where (nibbles_read type_item ns 0) (x, end) h) le

pub one_type-more : (ns : List ℕ) (x : TypeItem) (end : ℕ) → Some (x, end) ≡ result_ok (nibbles_read type_item ns 0) → end < length ns
    → one_type_in ns ≡ None
unfolding one_type_in
one_type-more ns x end h lt = before_end ns (nibbles_read type_item ns 0) x end (read_where (nibbles_read type_item ns 0) (x, end) h) lt
