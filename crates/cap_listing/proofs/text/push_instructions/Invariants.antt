use Rattle.std.proofs.Common.{◌≡◌, ◌++◌, ℕ, map}
use Rattle.jc_decode.specs.Instructions.{rest_of}
use Rattle.jc_decode.specs.Listing.{listing, Lists}
use Rattle.cap_listing.specs.Words.{text_of_lines}
use Rattle.cap_listing.specs.Text.{instruction_words}
use Rattle.cap_listing.proofs.text.push_instructions.Given as goal

-- with the instructions that are left it is what it will be
abbrev pub invariant-walk : goal.invariant-walk
invariant-walk l = record {
  so_far : l.out.items ++ text_of_lines (map (instruction_words l.code.bytes.now) (rest_of l.placed-iterator)) ≡ l.initial.out.items ++ text_of_lines
      (map (instruction_words l.code.bytes.now) (listing l.code.bytes.now));
  lists : (at : ℕ) × Lists l.code.bytes.now at (rest_of l.placed-iterator);
}
