use Rattle.std.specs.Prelude.{◌≡◌, ◌-◌, not}
use Rattle.std.specs.List.{find, range_with_len}
use Rattle.jc_decode.specs.Decoding.{rises}
use Rattle.jc_decode.proofs.decoding.end_of_pairs.Given as goal

-- what is searched from here is what was searched from the first pair on
abbrev pub invariant-pairs : goal.invariant-pairs
invariant-pairs l =
    find (λ n. not (rises l.key l.fn.code.bytes.now l.table n)) (range_with_len 1 (l.count - 1))
    ≡ find (λ n. not (rises l.key l.fn.code.bytes.now l.table n)) (range_with_len l.n (l.count - l.n))
