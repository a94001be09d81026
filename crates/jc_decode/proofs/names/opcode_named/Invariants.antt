use Rattle.std.proofs.Common.{◌≡◌, ◌<◌, ℕ}
use Rattle.jc_decode.specs.Names.{name}
use Rattle.jc_decode.proofs.names.opcode_named.Given as goal

-- no name before this one is the word
abbrev pub invariant-opcodes : goal.invariant-opcodes
invariant-opcodes l = (op : ℕ) → op < l.op → l.word ≡ name op → ⊥
