-- So many types are so many.
use Rattle.std.proofs.Common.{◌≡◌, ℕ, List, [], length, Ok, Err, IsTrue, refl, sym}
use Rattle.cap_bytes.specs.Grammar.{repeat}
use Rattle.cap_bytes.specs.Spelling.{info_of}
use Rattle.cap_bytes.specs.Reading.{Reading, is_read, value_or}
use Rattle.cap_bytes.proofs.Loops.{length-repeat}
use Rattle.cap_desc.specs.declared.type_list.TypeItem.{TypeItem}
use Rattle.cap_desc.specs.TypeFormat.{type_item, nibbles_read, gives_types, given_types}

count_value : (n : ℕ) (r : Reading (List TypeItem)) → ((xs : List TypeItem) (after : ℕ) → r ≡ Ok (xs, after) → length xs ≡ n)
    → IsTrue (is_read r) → n ≡ length (value_or [] r)
count_value n (Ok x) known h = sym (known x.0 x.1 refl)
count_value n (Err e) known h = absurd cc

pub count_types : (n : ℕ) (ns : List ℕ) (at : ℕ) → IsTrue (gives_types n ns at) → n ≡ length (given_types n ns at)
unfolding gives_types given_types
count_types n ns at h = count_value n (nibbles_read (repeat n type_item) ns at) (length-repeat (info_of 11) type_item n ns at) h
