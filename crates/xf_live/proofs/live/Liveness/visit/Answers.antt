use Rattle.std.proofs.Common.{◌<◌, take, get_or, length, refl, subst, All, arith}
use Rattle.std.proofs.lemmas.List.{take_all}
use Rattle.std.proofs.lemmas.List.Elements.{All-more, All-nil, Contains-get_or}
use Rattle.std.proofs.lemmas.Option.{slice_get_past, slice_get_read}
use Rattle.xf_live.specs.Liveness.{IsCarried}
use Rattle.xf_live.proofs.Carrying.{grows-not, grows-on, all-carried-on, carried-sound, carried-all, carry-none, carry-some, there-is}
use Rattle.xf_live.proofs.live.Liveness.visit.Goals as goal

pub from-init : goal.from-init
from-init c = record {
  grows = grows-not c.args.self.now;
  carried = All-nil (λ n. IsCarried c.args.nodes.now c.at-live.result n c.args.self.now);
  sound = λ h. h;
}

pub raise-requires : goal.raise-requires
raise-requires c =
    let lt = c.in-Some-get.ensures.lookup.3.0 in
    let size = c.from.invariant.grows.size in
    let sized = c.requires.sized in
    omega (arith, lt, size, sized)

pub from-preserved-in_default-get : goal.from-preserved-in_default-get
from-preserved-in_default-get c =
    let nodes = c.args.nodes.now in
    let from = c.as_slice-before-items.result.now in
    let there = there-is nodes c.args.number from c.in-Some.node.now c.in-Some.ensures.lookup.3.0 c.in-Some.ensures.lookup.1 c.as_slice-before-items.ensures.value in
    let live = c.at-live.result in
    let k = c.from.before-index in
    let old = c.from.self in
    let done = carry-none nodes (get_or from k 0) live old (slice_get_past nodes (get_or from k 0) c.in_default-get.ensures.lookup.3) in
    record {
      grows = c.from.invariant.grows;
      carried = All-more (λ n. IsCarried nodes live n old) from k 0 c.from-test.true c.from.invariant.carried done.carried;
      sound = carried-sound nodes c.args.number from live c.args.self.now there c.at-live.ensures (get_or from k 0) old old
          (Contains-get_or from k 0 c.from-test.true) done c.from.invariant.sound;
    }

pub from-preserved : goal.from-preserved
from-preserved c =
    let nodes = c.args.nodes.now in
    let from = c.as_slice-before-items.result.now in
    let there = there-is nodes c.args.number from c.in-Some.node.now c.in-Some.ensures.lookup.3.0 c.in-Some.ensures.lookup.1 c.as_slice-before-items.ensures.value in
    let live = c.at-live.result in
    let k = c.from.before-index in
    let n = get_or from k 0 in
    let old = c.from.self in
    let new = c.raise.new.self in
    let node = c.in-Some-get.node.now in
    let lt : n < length nodes = c.in-Some-get.ensures.lookup.3.0 in
    let inside : n < length old.sets.items = (let size = c.from.invariant.grows.size in let sized = c.requires.sized in omega (arith, lt, size, sized)) in
    let done = carry-some nodes n live c.minus.result node old new inside
    (slice_get_read nodes (length nodes) n node refl lt c.in-Some-get.ensures.lookup.1) c.minus.ensures c.in_ok-raise.ensures in
    record {
      grows = grows-on c.args.self.now old new c.from.invariant.grows done.grows;
      carried = All-more (λ n. IsCarried nodes live n new) from k 0 c.from-test.true
          (all-carried-on nodes live (take k from) old new done.grows c.from.invariant.carried) done.carried;
      sound = carried-sound nodes c.args.number from live c.args.self.now there c.at-live.ensures n old new
          (Contains-get_or from k 0 c.from-test.true) done c.from.invariant.sound;
    }

pub returns : goal.returns
returns c =
    let nodes = c.args.nodes.now in
    let from = c.as_slice-before-items.result.now in
    let there = there-is nodes c.args.number from c.in-Some.node.now c.in-Some.ensures.lookup.3.0 c.in-Some.ensures.lookup.1 c.as_slice-before-items.ensures.value in
    let live = c.at-live.result in
    carried-all nodes c.args.number from live c.args.self.now there c.at-live.ensures c.from.self c.from.invariant.grows
    (subst (All (λ n. IsCarried nodes live n c.from.self)) (take_all c.from.before-index from c.from-test.false) c.from.invariant.carried)
    c.from.invariant.sound
