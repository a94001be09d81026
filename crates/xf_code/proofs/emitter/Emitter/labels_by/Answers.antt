use Rattle.std.proofs.Common.{◌≡◌, ◌++◌, ◌∷◌, [], length, Some, Contains, slice_get, ap, subst, ◌∙◌, rules}
use Rattle.std.specs.Prelude.{ℤ, FitsSigned, IfSome}
use Rattle.std.specs.Int.{w32}
use Rattle.std.specs.List.{position_or_len}
use Rattle.std.specs.Ordering.{int_eq}
use Rattle.std.proofs.lemmas.Int.{to_z-of_z}
use Rattle.jc_control.specs.Targets.{rest_of}
use Rattle.jc_decode.specs.Listing.{targets}
use Rattle.xf_homes.specs.PlannedMethod.{source}
use Rattle.xf_emission.specs.Jump.{way_of, lead, leads}
use Rattle.xf_emission.proofs.Live.{stands-next, moves-on}
use Rattle.xf_code.specs.Ways.{way_labels}
use Rattle.xf_code.proofs.Leading.{leads-next, leads-none, labels-length, target-label}
use Rattle.xf_code.proofs.Steps.{goes-on, ended}
use Rattle.xf_code.proofs.emitter.Emitter.labels_by.Goals as goal

pub targets-init : goal.targets-init
targets-init c =
    let all = targets c.args.self.now.plan.walk.code.bytes.now c.args.fork.placed in
    let is : rest_of c.into_iter-target-iterator.result ≡ all = search rules in
    let word = leads (source c.args.self.now.plan) c.args.fork.placed.place c.args.fork.operation c.args.fork.operands all in
    record {
      so_far = ap (λ xs. xs ++ word (rest_of c.into_iter-target-iterator.result)) c.new-all.ensures.items ∙ ap word is;
      whole = is;
    }

pub label_of-requires : goal.label_of-requires
label_of-requires c =
    ap length c.requires.labels
    ∙ labels-length (source c.args.self.now.plan) c.args.fork.placed.place c.args.fork.operation c.args.fork.operands 0 c.args.ways.now.keys

pub targets-preserved : goal.targets-preserved
targets-preserved c =
    let s = source c.args.self.now.plan in
    let p = c.args.fork.placed.place in
    let op = c.args.fork.operation in
    let n = c.args.fork.operands in
    let t = c.in-Some.target in
    let all = targets c.args.self.now.plan.walk.code.bytes.now c.args.fork.placed in
    let fits : FitsSigned w32 t = search rules in
    let there : Contains all t = stands-next c.targets.yielded (rest_of c.targets.target-iterator) (rest_of c.next.new.self) all t c.in-Some.ensures.steps
    c.targets.invariant.whole in
    let labelled : c.label_of.result ≡ Some (lead s p op n (way_of all t) t) =
    c.label_of.ensures
    ∙ (ap (λ (x : ℤ). slice_get c.args.labels.now (position_or_len (int_eq x) c.args.ways.now.keys)) (to_z-of_z w32 t fits)
    ∙ (ap (λ ls. slice_get ls (position_or_len (int_eq t) c.args.ways.now.keys)) c.requires.labels
    ∙ (ap (λ ws. slice_get (way_labels s p op n 0 ws) (position_or_len (int_eq t) ws)) c.requires.ways ∙ target-label s p op n all t there))) in
    let pushed : c.push_label.new.all.items ≡ c.targets.all.items ++ lead s p op n (way_of all t) t ∷ [] =
    subst (λ o. IfSome o (λ l. c.push_label.new.all.items ≡ c.targets.all.items ++ l ∷ [])) labelled c.in_ok-push_label.ensures in
    record {
      so_far = goes-on c.targets.all.items (lead s p op n (way_of all t) t ∷ []) _ _ _ c.push_label.new.all.items
          (leads-next s p op n all (rest_of c.targets.target-iterator) (rest_of c.next.new.self) t c.in-Some.ensures.steps) pushed c.targets.invariant.so_far;
      whole = moves-on c.targets.yielded (rest_of c.targets.target-iterator) (rest_of c.next.new.self) all t c.in-Some.ensures.steps c.targets.invariant.whole;
    }

pub returns : goal.returns
returns c =
    let all = targets c.args.self.now.plan.walk.code.bytes.now c.args.fork.placed in
    ended c.targets.all.items _ _
    (leads-none (source c.args.self.now.plan) c.args.fork.placed.place c.args.fork.operation c.args.fork.operands all (rest_of c.targets.target-iterator)
    c.in-None.ensures.steps.0)
    c.targets.invariant.so_far
