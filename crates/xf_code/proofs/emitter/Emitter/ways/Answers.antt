use Rattle.std.proofs.Common.{◌≡◌, [], fold, ap, sym, ◌∙◌, rules}
use Rattle.std.specs.Prelude.{FitsSigned}
use Rattle.std.specs.Int.{w32}
use Rattle.std.proofs.lemmas.Int.{to_z-of_z}
use Rattle.jc_control.specs.Targets.{rest_of}
use Rattle.jc_decode.specs.Listing.{targets}
use Rattle.xf_emission.specs.Jump.{with_target, each_once}
use Rattle.xf_code.proofs.emitter.Emitter.ways.Goals as goal

pub targets-init : goal.targets-init
unfolding each_once
targets-init c =
    let is : rest_of c.into_iter-target-iterator.result ≡ targets c.args.self.now.plan.walk.code.bytes.now c.args.placed = search rules in
    ap (λ ks. fold with_target ks (rest_of c.into_iter-target-iterator.result)) c.new-ways.ensures.empty ∙ ap (fold with_target []) is

pub targets-preserved : goal.targets-preserved
targets-preserved c =
    let t = c.in-Some.target in
    let fits : FitsSigned w32 t = search rules in
    ap (λ ks. fold with_target ks (rest_of c.next.new.self)) (c.in_ok-insert.ensures.keys ∙ ap (with_target c.targets.ways.keys) (to_z-of_z w32 t fits))
    ∙ ap (fold with_target c.targets.ways.keys) (sym c.in-Some.ensures.steps)
    ∙ c.targets.invariant

pub returns : goal.returns
returns c = ap (fold with_target c.targets.ways.keys) (sym c.in-None.ensures.steps.0) ∙ c.targets.invariant
