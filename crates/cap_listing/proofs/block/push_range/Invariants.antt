use Rattle.std.proofs.Common.{◌≡◌, ◌++◌, drop}
use Rattle.jc_decode.specs.declared.layout.Cases.TheVariants.{Range}
use Rattle.cap_listing.specs.Numbers.{table_of}
use Rattle.cap_listing.proofs.block.push_range.Given as goal

-- with the targets that are left it is what it will be
abbrev pub invariant-targets : goal.invariant-targets
invariant-targets l =
    l.out.items ++ table_of Range l.place (drop l.target-index l.fn.numbers) ≡ l.initial.out.items ++ table_of Range l.place l.fn.numbers
