use Rattle.std.proofs.Common.{ap, ◌∙◌}
use Rattle.cap_index.specs.Component.{index_in, lists_in}
use Rattle.cap_index.proofs.Listing.{lists-more}
use Rattle.cap_index.proofs.of_methods.all_lists.Goals as goal

pub packages-preserved : goal.packages-preserved
packages-preserved c =
    lists-more c.args.methods.now _ _ _ c.args.packages.now c.packages.k c.at.result.now c.lists_in.result c.at.ensures
    (c.lists_in.ensures ∙ ap (λ n. lists_in n (index_in c.at.result.now)) c.count_coded-count.ensures) c.in_ok-push.ensures.items c.packages.invariant
