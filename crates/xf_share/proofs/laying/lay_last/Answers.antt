-- what is laid so far, and the method for which none is
use Rattle.std.proofs.Common.{◌≡◌, ◌+◌, ◌∷◌, ◌++◌, [], length, sym, subst, arith, rules}
use Rattle.xf_share.specs.Ends.{TellsOf}
use Rattle.xf_last.specs.Last.{EachFrom}
use Rattle.xf_last.proofs.Elements.{each-push}
use Rattle.xf_share.specs.Passes.{IsSharedAt}
use Rattle.xf_share.proofs.Passing.{laid-more, unlaid-tells}
use Rattle.xf_share.proofs.laying.lay_last.Goals as goal

pub returns-in-Err-clause-end : goal.returns-in-Err-clause-end
returns-in-Err-clause-end c = λ ps.
    subst (TellsOf ps c.args.world.now) (sym c.unlaid.ensures)
    (unlaid-tells c.args.world.now c.args.first c.requires.first c.methods.number c.in-Err.end (omega (arith, c.methods.invariant.many))
    c.requires.accepted c.methods.invariant.below c.in-Err.ensures.end ps)

pub methods-preserved : goal.methods-preserved
methods-preserved c =
    let grown : c.push.new.self.items ≡ c.methods.laid.items ++ c.in-Ok.element ∷ [] = search rules in
    let number : c.methods.number ≡ c.args.first + length c.methods.laid.items = omega (arith, c.methods.invariant.many) in
    record {
      each =
          subst (EachFrom (IsSharedAt c.args.world.now) c.args.first) (sym grown)
          (each-push (IsSharedAt c.args.world.now) c.args.first c.methods.laid.items c.in-Ok.element c.methods.invariant.each
          (subst (λ n. IsSharedAt c.args.world.now n c.in-Ok.element) number c.in-Ok.ensures.laid));
      many = search rules;
      below = laid-more c.args.world.now c.args.first c.requires.first c.methods.number c.in-Ok.element c.methods.invariant.below c.in-Ok.ensures.laid;
    }
