-- what is laid so far, and the method for which none is
use Rattle.std.proofs.Common.{◌≡◌, ◌+◌, ◌∷◌, ◌++◌, [], length, refl, sym, subst, arith, rules}
use Rattle.std.proofs.lemmas.Option.{slice_get_read}
use Rattle.jc_control.specs.Asked.{AllHaveBelow, IsOfLast}
use Rattle.law_transform.specs.Laid.{HasLaidCode}
use Rattle.xf_pack.specs.Ends.{TellsOf}
use Rattle.xf_last.specs.Last.{EachFrom}
use Rattle.xf_last.proofs.Elements.{each-at, each-push}
use Rattle.xf_pack.specs.Passes.{IsLaidAt, IsTypingAt}
use Rattle.xf_pack.proofs.Passing.{laid-more, unlaid-tells}
use Rattle.xf_pack.proofs.laying.lay_last.Goals as goal

pub lay_method-requires-clause-typing : goal.lay_method-requires-clause-typing
lay_method-requires-clause-typing c =
    each-at (IsTypingAt c.args.world.now) c.args.first c.args.typings.now c.methods.k c.index-typings-k.result c.requires.typings
    (slice_get_read c.args.typings.now (length c.args.typings.now) c.methods.k c.index-typings-k.result refl c.methods-test.true c.index-typings-k.is)

pub returns-in-Err-clause-end : goal.returns-in-Err-clause-end
returns-in-Err-clause-end c = λ ps.
    subst (TellsOf ps c.args.world.now) (sym c.unlaid.ensures)
    (unlaid-tells c.args.world.now c.args.first c.requires.first (c.args.first + c.methods.k) c.in-Err.end (omega arith) c.requires.accepted
    c.requires.typed c.methods.invariant.below c.in-Err.ensures.end ps)

pub methods-preserved : goal.methods-preserved
methods-preserved c =
    let grown : c.push.new.self.items ≡ c.methods.laid.items ++ c.in-Ok.element ∷ [] = search rules in
    let number : c.args.first + c.methods.k ≡ c.args.first + length c.methods.laid.items = omega (arith, c.methods.invariant.many) in
    let next : (c.args.first + c.methods.k) + 1 ≡ c.args.first + (c.methods.k + 1) = omega arith in
    record {
      each =
          subst (EachFrom (IsLaidAt c.args.world.now) c.args.first) (sym grown)
          (each-push (IsLaidAt c.args.world.now) c.args.first c.methods.laid.items c.in-Ok.element c.methods.invariant.each
          (subst (λ n. IsLaidAt c.args.world.now n c.in-Ok.element) number c.in-Ok.ensures.laid));
      many = search rules;
      below =
          subst (AllHaveBelow (IsOfLast c.args.world.now) (HasLaidCode c.args.world.now)) next
          (laid-more c.args.world.now c.args.first c.requires.first (c.args.first + c.methods.k) c.in-Ok.element c.methods.invariant.below
          c.in-Ok.ensures.laid);
    }
