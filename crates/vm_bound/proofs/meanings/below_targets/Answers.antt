use Rattle.std.proofs.Common.{◌<◌, ℕ, ◌+◌, List, [], ◌∷◌, ◌++◌, length, take, get_or, sym, ◌∙◌, subst, arith}
use Rattle.std.proofs.lemmas.List.{take_more, take_all}
use Rattle.vm_bound.specs.declared.graph.Meaning.TheVariants.{Entries}
use Rattle.vm_bound.specs.declared.graph.Vertex.TheVariants.{Means}
use Rattle.vm_bound.proofs.Targeting.{AreEntriesOf, item-link, item-inside, entries-begin, entries-not, entries-is, entries-end}
use Rattle.vm_bound.proofs.meanings.below_targets.Goals as goal

pub subclasses-init : goal.subclasses-init
subclasses-init c = entries-begin c.args.world.now c.args.class c.args.token c.in_ok-targets.targets.items c.in_ok-targets.ensures

pub overflow_cast-below : goal.overflow_cast-below
overflow_cast-below c =
    let inside : c.subclasses.below-index < length c.args.subclasses.now = omega (arith, c.subclasses-test.true) in
    let class = item-inside c.args.world.now.classes c.args.class c.args.subclasses.now c.subclasses.below-index c.requires.subclasses inside in
    omega (arith, class, c.class_count-classes.ensures.is, c.class_count-classes.ensures.most)

pub shares-requires-clause-below : goal.shares-requires-clause-below
shares-requires-clause-below c =
    let inside : c.subclasses.below-index < length c.args.subclasses.now = omega (arith, c.subclasses-test.true) in
    item-inside c.args.world.now.classes c.args.class c.args.subclasses.now c.subclasses.below-index c.requires.subclasses inside

pub subclasses-preserved-then-not-shares : goal.subclasses-preserved-then-not-shares
subclasses-preserved-then-not-shares c =
    let w = c.args.world.now in
    let all = c.args.subclasses.now in
    let i = c.subclasses.below-index in
    let inside : i < length all = omega (arith, c.subclasses-test.true) in
    subst (λ (seen : List ℕ). AreEntriesOf w c.args.class c.args.token seen c.subclasses.targets.items) (sym (take_more all i 0 inside))
    (entries-not w c.args.class c.args.token (get_or all i 0) (take i all) c.subclasses.targets.items (sym c.shares.ensures ∙ c.if-not-shares.true)
    c.subclasses.invariant)

pub subclasses-preserved : goal.subclasses-preserved
subclasses-preserved c =
    let w = c.args.world.now in
    let all = c.args.subclasses.now in
    let i = c.subclasses.below-index in
    let inside : i < length all = omega (arith, c.subclasses-test.true) in
    let link = item-link w.classes c.args.class all i c.requires.subclasses inside in
    let grown = entries-is w c.args.class c.args.token (get_or all i 0) (take i all) c.subclasses.targets.items link
    (sym c.shares.ensures ∙ c.if-not-shares.false) c.subclasses.invariant in
    subst (AreEntriesOf w c.args.class c.args.token (take (i + 1) all)) (sym c.in_ok-push.ensures.items)
    (subst
    (λ (seen : List ℕ). AreEntriesOf w c.args.class c.args.token seen (c.subclasses.targets.items ++ Means (Entries (get_or all i 0) c.args.token) ∷ []))
    (sym (take_more all i 0 inside)) grown)

pub returns : goal.returns
returns c =
    let w = c.args.world.now in
    let all = c.args.subclasses.now in
    entries-end w c.args.class c.args.token all c.subclasses.targets.items c.requires.subclasses
    (subst (λ (seen : List ℕ). AreEntriesOf w c.args.class c.args.token seen c.subclasses.targets.items)
    (take_all c.subclasses.below-index all (omega (arith, c.subclasses-test.false))) c.subclasses.invariant)
