-- the typings so far, and the method without one
use Rattle.std.proofs.Common.{◌≡◌, ◌+◌, ◌∷◌, ◌++◌, [], length, sym, subst, arith, rules}
use Rattle.jc_base.specs.declared.ty.Ty.TheVariants.{Top}
use Rattle.jc_control.specs.Asked.{IsOfLast}
use Rattle.jc_rules.specs.Flow.{HasFlowTyping}
use Rattle.xf_pack.specs.Ends.{TellsOf}
use Rattle.xf_last.specs.Last.{EachFrom}
use Rattle.xf_last.proofs.Elements.{each-push}
use Rattle.xf_last.proofs.Passing.{below-all}
use Rattle.xf_pack.specs.Passes.{IsTypingAt}
use Rattle.xf_pack.proofs.Passing.{typed-more, untyped-tells}
use Rattle.xf_pack.proofs.typing.type_last.Goals as goal

pub returns-in-Err-clause-end : goal.returns-in-Err-clause-end
returns-in-Err-clause-end c = λ ps.
    subst (TellsOf ps c.args.world.now) (sym c.untyped.ensures)
    (untyped-tells c.args.world.now c.args.first c.requires.first c.methods.number c.in-Err.end (omega (arith, c.methods.invariant.many))
    c.requires.accepted c.methods.invariant.below c.in-Err.ensures.none ps)

pub methods-preserved : goal.methods-preserved
methods-preserved c =
    let grown : c.push.new.self.items ≡ c.methods.typings.items ++ c.in-Ok.typing ∷ [] = search rules in
    let number : c.methods.number ≡ c.args.first + length c.methods.typings.items = omega (arith, c.methods.invariant.many) in
    record {
      each =
          subst (EachFrom (IsTypingAt c.args.world.now) c.args.first) (sym grown)
          (each-push (IsTypingAt c.args.world.now) c.args.first c.methods.typings.items c.in-Ok.typing c.methods.invariant.each
          (subst (λ k. IsTypingAt c.args.world.now k c.in-Ok.typing) number c.in-Ok.ensures.typing));
      many = search rules;
      below = typed-more c.args.world.now c.args.first c.requires.first c.methods.number c.in-Ok.typing c.methods.invariant.below c.in-Ok.ensures.typing;
    }

pub returns-clause-typed : goal.returns-clause-typed
returns-clause-typed c =
    below-all c.args.world.now (IsOfLast c.args.world.now) (λ m. HasFlowTyping c.args.world.now m Top) (λ m of. of.method) c.methods.number
    (omega (arith, c.methods-test.false, c.method_count-number-end.ensures.is)) c.methods.invariant.below
