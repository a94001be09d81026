use Rattle.std.proofs.Common.{◌≡◌, ◌++◌, ◌*◌, drop}
use Rattle.jc_decode.specs.declared.layout.Cases.TheVariants.{Pairs}
use Rattle.cap_listing.specs.Numbers.{table_of}
use Rattle.cap_listing.proofs.block.push_pairs.Given as goal

-- with the pairs that are left it is what it will be
abbrev pub invariant-pairs : goal.invariant-pairs
invariant-pairs l =
    l.out.items ++ table_of (Pairs l.key) l.place (drop (2 * l.n) l.numbers)
    ≡ l.initial.out.items ++ table_of (Pairs l.key) l.place l.numbers
