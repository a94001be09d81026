use Rattle.std.proofs.Common.{◌≡◌, ◌∙◌, ◌++◌, ◌∷◌, [], map, rules, List, ap}
use Rattle.std.specs.Prelude.{FitsSigned, ℕ}
use Rattle.std.specs.Int.{w32}
use Rattle.std.proofs.lemmas.Int.{to_z-of_z}
use Rattle.jc_control.specs.Targets.{rest_of}
use Rattle.jc_control.proofs.Elements.{at-next, go-on, contained-in}
use Rattle.jc_decode.specs.Listing.{targets}
use Rattle.law_renumbered.specs.Symbols.{labels_of}
use Rattle.vm_step.specs.Settled.{place_number}
use Rattle.xf_share.proofs.Leading.{labels-more, target-fits}
use Rattle.xf_share.proofs.items.labels.Goals as goal

pub place_of-requires-clause-low : goal.place_of-requires-clause-low
place_of-requires-clause-low c =
    let all = targets c.args.code.bytes.now c.args.placed in
    let t = c.in-Some.target in
    let fits : FitsSigned w32 t = search rules in
    let whole = at-next c.targets.yielded (rest_of c.targets.target-iterator) t (rest_of c.next.new.self) all c.targets.invariant.whole
    c.in-Some.ensures.steps in
    let leads = contained-in c.targets.yielded t (rest_of c.next.new.self) all whole in
    rw (to_z-of_z w32 t fits) ((target-fits c.args.code.bytes.now c.args.placed t c.requires.readable c.requires.stands leads).0)

pub place_of-requires-clause-high : goal.place_of-requires-clause-high
place_of-requires-clause-high c =
    let all = targets c.args.code.bytes.now c.args.placed in
    let t = c.in-Some.target in
    let fits : FitsSigned w32 t = search rules in
    let whole = at-next c.targets.yielded (rest_of c.targets.target-iterator) t (rest_of c.next.new.self) all c.targets.invariant.whole
    c.in-Some.ensures.steps in
    let leads = contained-in c.targets.yielded t (rest_of c.next.new.self) all whole in
    rw (to_z-of_z w32 t fits) ((target-fits c.args.code.bytes.now c.args.placed t c.requires.readable c.requires.stands leads).1)

pub targets-preserved : goal.targets-preserved
targets-preserved c =
    let all = targets c.args.code.bytes.now c.args.placed in
    let t = c.in-Some.target in
    let fits : FitsSigned w32 t = search rules in
    let grown : c.push.new.self.items ≡ c.targets.labels.items ++ c.place_of.result ∷ [] = search rules in
    let whole = at-next c.targets.yielded (rest_of c.targets.target-iterator) t (rest_of c.next.new.self) all c.targets.invariant.whole
    c.in-Some.ensures.steps in
    record {
      so_far =
          ap (λ (ls : List ℕ). ls ++ map place_number (rest_of c.next.new.self)) grown
          ∙ labels-more c.targets.labels.items c.place_of.result t (rest_of c.targets.target-iterator) (rest_of c.next.new.self)
          (labels_of c.args.code.bytes.now c.args.placed) c.in-Some.ensures.steps (c.place_of.ensures ∙ to_z-of_z w32 t fits)
          c.targets.invariant.so_far;
      whole = go-on c.targets.yielded t (rest_of c.next.new.self) all whole;
    }
