use Rattle.std.proofs.Common.{◌∙◌, ◌-ℤ◌, ◌*◌, ◌+◌, ℤ, pos, get_or, ap, w32, arith, rules}
use Rattle.std.specs.Prelude.{FitsSigned}
use Rattle.std.proofs.lemmas.Int.{to_z-of_z}
use Rattle.cap_listing.proofs.Pushed.{pairs-step, pairs-end}
use Rattle.cap_listing.proofs.block.push_pairs.Goals as goal

pub pairs-preserved : goal.pairs-preserved
pairs-preserved c =
    let ns = c.args.numbers.now in
    let n = c.pairs.n in
    let one : FitsSigned w32 (get_or ns (2 * n) (pos 0)) = search rules in
    let two : FitsSigned w32 (get_or ns (2 * n + 1) (pos 0)) = search rules in
    pairs-step c.args.key c.args.place ns n (pos 0) c.pairs.out.items c.push_operand.new.out.items c.push_target.new.out.items _ _
    (omega (arith, c.pairs-test.true)) (to_z-of_z w32 (get_or ns (2 * n) (pos 0)) one)
    (ap (λ (z : ℤ). z -ℤ pos c.args.place) (to_z-of_z w32 (get_or ns (2 * n + 1) (pos 0)) two)) c.in_ok-push_operand.ensures
    c.in_ok-push_target.ensures
    ∙ c.pairs.invariant

pub returns : goal.returns
returns c =
    pairs-end c.args.key c.args.place c.args.numbers.now c.pairs.n c.pairs.out.items (omega (arith, c.pairs-test.false))
    ∙ c.pairs.invariant
