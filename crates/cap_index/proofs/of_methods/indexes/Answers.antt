use Rattle.std.proofs.Common.{◌<◌, ◌++◌, [], length, sym, ap, subst, arith}
use Rattle.jc_base.proofs.Lists.{All-slice_get}
use Rattle.cap_index.specs.Indexes.{package_lists, indexes_after, indexes_of}
use Rattle.cap_index.proofs.Listing.{lists-count, item-there, indexes-more}
use Rattle.cap_index.proofs.Taken.{AreLeft, all-left, taken-index, left-after}
use Rattle.cap_index.proofs.of_methods.indexes.Goals as goal

pub methods-init : goal.methods-init
unfolding indexes_of
methods-init c =
    let ps = c.args.packages.now in
    let ms = c.args.methods.now in
    record {
      left = subst (AreLeft (package_lists ps ms) ms 0) (sym c.in_ok-lists.ensures) (all-left (package_lists ps ms) ms);
      are = ap (λ xs. xs ++ indexes_after (package_lists ps ms) [] ms) c.in_ok-indexes.ensures.items;
    }

pub next_index-requires : goal.next_index-requires
next_index-requires c =
    let there = item-there c.args.methods.now c.as_slice-method-items.result.now c.methods.method-index c.method-item.result c.as_slice-method-items.ensures
    c.methods-test.true c.method-item.is in
    let home = All-slice_get (λ m. m.package < length c.args.packages.now) c.args.methods.now c.methods.method-index c.method-item.result c.requires.homes
    there in
    let size = c.methods.invariant.left.size in
    let count = lists-count c.args.methods.now 0 c.args.packages.now in
    omega (arith, home, size, count)

pub methods-preserved : goal.methods-preserved
methods-preserved c =
    let lists = package_lists c.args.packages.now c.args.methods.now in
    let left = c.methods.invariant.left in
    let there = item-there c.args.methods.now c.as_slice-method-items.result.now c.methods.method-index c.method-item.result c.as_slice-method-items.ensures
    c.methods-test.true c.method-item.is in
    record {
      left =
          left-after lists c.methods.lists.items c.next_index.new.lists.items c.args.methods.now c.methods.method-index c.method-item.result
          c.next_index.result there left c.next_index.ensures;
      are =
          indexes-more lists c.methods.indexes.items c.push.new.self.items _ c.args.methods.now c.methods.method-index c.method-item.result
          c.next_index.result there
          (taken-index lists c.methods.lists.items c.args.methods.now c.methods.method-index c.method-item.result c.next_index.result left
          c.next_index.ensures.is)
          c.in_ok-push.ensures.items c.methods.invariant.are;
    }
