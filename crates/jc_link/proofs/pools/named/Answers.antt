use Rattle.std.proofs.Common.{rules, ◌≡◌, ◌≤◌, ◌+◌, ◌++◌, [], ◌∷◌, All, List, length, ap, sym, subst, ◌∙◌, append_assoc, arith}
use Rattle.std.specs.Prelude.{filter_map}
use Rattle.std.proofs.lemmas.List.Elements.{All-push}
use Rattle.cap_package.specs.PackagesLeft.{packages_left}
use Rattle.jc_base.specs.Linked.{IsMember}
use Rattle.jc_base.specs.declared.record.Member.{Member}
use Rattle.jc_resolve.specs.Fault.{link_place}
use Rattle.first_fault.specs.Least.{least_from}
use Rattle.jc_link.specs.Members.{member_of}
use Rattle.jc_link.specs.Pools.{places_from, places_after, member_fault, pools_after}
use Rattle.jc_link.proofs.Leasts.{least_entries}
use Rattle.jc_link.proofs.pools.named.Goals as goal

pub packages-preserved : goal.packages-preserved
packages-preserved c =
    let ps = c.args.names.now.packages in
    let t = c.args.classes.now in
    let s = c.args.statics.now in
    let f = member_fault ps t s in
    let others = packages_left c.next.new.self in
    let p = c.in-Some.package.now in
    let k = c.packages.k in
    let is : packages_left c.packages.package-iterator ≡ p ∷ others = c.in-Some.ensures.steps in
    let least : c.in_ok-members.least_then ≡ least_from link_place c.packages.least f (places_from k 0 p.pool) = search rules in
    let items = c.packages.pools.items in
    let own : List Member = filter_map (member_of ps t s k) p.pool in
    let members : c.in_ok-members.members.items ≡ own = search rules in
    let pushed : c.push.new.self.items ≡ items ++ c.in_ok-members.members.items ∷ [] = search rules in
    record {
      fault =
          ap (λ x. least_from link_place x f (places_after (k + 1) others)) least
          ∙ sym (least_entries ps t s k p others c.packages.least)
          ∙ ap (λ left. least_from link_place c.packages.least f (places_after k left)) (sym is)
          ∙ c.packages.invariant.fault;
      pools =
          ap (λ xs. xs ++ pools_after (member_of ps t s) (k + 1) others) (pushed ∙ ap (λ x. items ++ x ∷ []) members)
          ∙ append_assoc items (own ∷ []) (pools_after (member_of ps t s) (k + 1) others)
          ∙ ap (λ left. items ++ pools_after (member_of ps t s) k left) (sym is)
          ∙ c.packages.invariant.pools;
      linked = subst (λ (xs : List (List Member)). All (All (IsMember t c.args.names.now.methods s)) xs) (sym pushed)
          (All-push (All (IsMember t c.args.names.now.methods s)) items c.in_ok-members.members.items c.packages.invariant.linked
          c.in_ok-members.ensures.linked);
      few = subst (λ (xs : List (List Member)). All (λ pool. length pool ≤ 65535) xs) (sym pushed)
          (All-push (λ pool. length pool ≤ 65535) items c.in_ok-members.members.items c.packages.invariant.few c.in_ok-members.ensures.few);
      count = omega (arith, ap length is, c.packages.invariant.count);
    }
