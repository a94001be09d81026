use Rattle.std.proofs.Common.{◌≤◌, length, All, subst, sym, rules}
use Rattle.std.specs.Prelude.{◌≡◌}
use Rattle.capcheck.specs.Start.{in_32_bits, longest_from}
use Rattle.capcheck.proofs.WordLengths.{none_longer}
use Rattle.capcheck.proofs.longest.Goals as goal

pub returns-clause-longest : goal.returns-clause-longest
returns-clause-longest c =
    let is : c.words.longest ≡ longest_from 0 c.args.words.now = search rules in
    subst (λ n. All (λ word. in_32_bits (length word) ≤ n) c.args.words.now) (sym is) (none_longer 0 c.args.words.now)
