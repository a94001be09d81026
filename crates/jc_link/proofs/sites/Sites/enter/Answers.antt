-- What was at the spot before tells whether the member is the only one there.
use Rattle.std.proofs.Common.{List, Option, None, sym, ap, ◌∙◌}
use Rattle.indexmap.specs.IndexMap.{insert_entry}
use Rattle.jc_base.specs.declared.record.Member.{Member}
use Rattle.jc_link.specs.declared.sites.Spot.{Spot}
use Rattle.jc_link.specs.Sites.{same_spot, added_entry}
use Rattle.jc_link.proofs.SiteLaws.{several-entered, first-entered}
use Rattle.jc_link.proofs.sites.Sites.enter.Goals as goal

pub returns-in_ok-insert : goal.returns-in_ok-insert
returns-in_ok-insert c =
    c.in_ok-insert.ensures.entries
    ∙ ap (λ (es : List (Spot × Option Member)). insert_entry same_spot es c.args.spot None) c.in_ok-_before.ensures.entries
    ∙ several-entered c.self.inside.map.entries c.args.spot c.args.member c.in-Some._before (sym c.in_ok-_before.ensures.old ∙ c.in-Some.is)
    ∙ ap (λ (es : List (Spot × Option Member)). added_entry es (record { spot = c.args.spot; member = c.args.member })) c.self.view_is

pub returns-in_default : goal.returns-in_default
returns-in_default c =
    c.in_ok-_before.ensures.entries
    ∙ first-entered c.self.inside.map.entries c.args.spot c.args.member (sym c.in_ok-_before.ensures.old ∙ c.in_default.is)
    ∙ ap (λ (es : List (Spot × Option Member)). added_entry es (record { spot = c.args.spot; member = c.args.member })) c.self.view_is
