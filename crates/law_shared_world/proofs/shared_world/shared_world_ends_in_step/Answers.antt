use Rattle.law_shared_world.proofs.Carded.{shared-world-ends-in-step}
use Rattle.law_shared_world.proofs.shared_world.shared_world_ends_in_step.Goals as goal

pub returns : goal.returns
returns c =
    shared-world-ends-in-step c.args.world.now
    (λ carded. record {
      links = c.classes-classes.ensures.links;
      carded = carded;
      serve = c.shared_numbers_serve.ensures;
      renamed = c.renumbered_is_renamed.ensures;
      kept = c.kept_are_renamed.ensures;
      typed = c.renamed_are_typed.ensures;
      types = c.shared_have_types.ensures;
      cards = c.typings_are_kept.ensures.card;
    })
    c.sharing_is_one.ensures.fewer c.card_laws.ensures.flow c.typed_code_never_fails.ensures.typings c.renamed_end_alike.ensures.in_step c.links_again.ensures
    c.laid_methods_stand.ensures
