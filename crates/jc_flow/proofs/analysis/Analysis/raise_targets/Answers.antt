use Rattle.std.proofs.Common.{All, ◌≡◌, ◌∷◌, [], ◌++◌, refl, ap, ◌∙◌, append_assoc, arith, subst, sym, rules}
use Rattle.std.specs.Prelude.{FitsSigned, ℤ}
use Rattle.std.specs.Int.{w32}
use Rattle.std.specs.List.{Contains}
use Rattle.std.proofs.lemmas.Int.{to_z-of_z}
use Rattle.std.proofs.lemmas.List.Elements.{All-push}
use Rattle.jc_decode.specs.Listing.{targets}
use Rattle.jc_control.specs.Targets.{rest_of}
use Rattle.std.proofs.lemmas.List.{append-nil}
use Rattle.std.proofs.lemmas.List.Elements.{Contains-append_right}
use Rattle.jc_flow.specs.Visit.{analysed, IsAtTarget}
use Rattle.jc_flow.proofs.Leading.{goes-same}
use Rattle.jc_flow.proofs.Visits.{goes-on, targets-on}
use Rattle.jc_flow.proofs.analysis.Analysis.raise_targets.Goals as goal

pub targets-init : goal.targets-init
targets-init c =
    record {
      goes = goes-same c.args.self.now.subject.world.now c.requires.analysis.rules.order (analysed c.args.self.now) c.args.table.now c.requires.held;
      reached = λ k d lt. absurd (omega arith);
      whole = search rules;
    }

pub raise_target-requires-clause-held : goal.raise_target-requires-clause-held
raise_target-requires-clause-held c = c.targets.invariant.goes.held

pub raise_target-requires-clause-listed : goal.raise_target-requires-clause-listed
raise_target-requires-clause-listed c =
    let t = c.in-Some.target in
    let fits : FitsSigned w32 t = search rules in
    let all = targets c.args.self.now.subject.code.bytes.now (record { place = c.args.step.place; insn = c.args.step.insn }) in
    let whole : c.targets.yielded ++ t ∷ rest_of c.next.new.self ≡ all = ap (λ r. c.targets.yielded ++ r) (sym c.in-Some.ensures.steps)
    ∙ c.targets.invariant.whole in
    subst (λ (x : ℤ). Contains all x) (sym (to_z-of_z w32 t fits))
    (subst (λ xs. Contains xs t) whole (Contains-append_right c.targets.yielded (t ∷ rest_of c.next.new.self) t (0, omega arith, refl)))

pub targets-preserved : goal.targets-preserved
targets-preserved c =
    let t = c.in-Some.target in
    let fits : FitsSigned w32 t = search rules in
    let all = targets c.args.self.now.subject.code.bytes.now (record { place = c.args.step.place; insn = c.args.step.insn }) in
    let whole : c.targets.yielded ++ t ∷ rest_of c.next.new.self ≡ all = ap (λ r. c.targets.yielded ++ r) (sym c.in-Some.ensures.steps)
    ∙ c.targets.invariant.whole in
    let here : IsAtTarget c.args.self.now.subject.world.now c.args.step.after.now.frame c.raise_target.new.table t = subst
    (IsAtTarget c.args.self.now.subject.world.now c.args.step.after.now.frame c.raise_target.new.table) (to_z-of_z w32 t fits) c.in_default.ensures.reached in
    record {
      goes =
          goes-on c.args.self.now.subject.world.now c.requires.analysis.rules.order (analysed c.args.self.now) c.args.table.now c.targets.table
          c.raise_target.new.table c.targets.invariant.goes c.in_default.ensures.goes;
      reached =
          All-push (IsAtTarget c.args.self.now.subject.world.now c.args.step.after.now.frame c.raise_target.new.table) c.targets.yielded t
          (targets-on c.args.self.now.subject.world.now c.requires.analysis.rules.order (analysed c.args.self.now) c.args.step.after.now.frame c.targets.table
          c.raise_target.new.table c.in_default.ensures.goes c.targets.yielded c.targets.invariant.reached) here;
      whole = append_assoc c.targets.yielded (t ∷ []) (rest_of c.next.new.self) ∙ whole;
    }

pub returns-clause-goes : goal.returns-clause-goes
returns-clause-goes c = c.targets.invariant.goes

pub returns-clause-reached : goal.returns-clause-reached
returns-clause-reached c =
    let all = targets c.args.self.now.subject.code.bytes.now (record { place = c.args.step.place; insn = c.args.step.insn }) in
    let whole : c.targets.yielded ≡ all = sym (append-nil c.targets.yielded) ∙ ap (λ r. c.targets.yielded ++ r) (sym c.in-None.ensures.steps.0)
    ∙ c.targets.invariant.whole in
    subst (All (IsAtTarget c.args.self.now.subject.world.now c.args.step.after.now.frame c.targets.table)) whole c.targets.invariant.reached
