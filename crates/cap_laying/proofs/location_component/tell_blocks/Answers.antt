use Rattle.std.proofs.Common.{◌≡◌, ◌≤◌, ◌<◌, ◌+◌, ◌*◌, ◌++◌, ◌∷◌, drop, length, arith, ap, sym, subst, ◌∙◌, rules}
use Rattle.std.specs.Prelude.{slice_index_or}
use Rattle.std.proofs.lemmas.List.{drop_more}
use Rattle.cap_laying.specs.Catches.{catch_places}
use Rattle.cap_laying.specs.Distances.{distances, last_of}
use Rattle.cap_laying.proofs.Tellings.{told_more, last_more}
use Rattle.cap_laying.specs.Blocks.{total_handlers}
use Rattle.cap_laying.specs.Member.{handlers_of}
use Rattle.cap_laying.specs.References.{block_catches}
use Rattle.cap_laying.proofs.location_component.tell_blocks.Goals as goal

pub members-preserved : goal.members-preserved
members-preserved c =
    let blocks = c.args.blocks.now in
    let n = c.members.block-index in
    let block = c.block-item.result in
    let rest = drop (n + 1) blocks in
    let at = c.members.at in
    let next = c.in_ok-at.at in
    let lt : n < length blocks = first_of (omega arith, search rules) in
    let is : slice_index_or blocks n block ≡ block = first_of (cc, search rules) in
    let steps : drop n blocks ≡ block ∷ rest = drop_more blocks n block lt ∙ ap (λ s. s ∷ rest) is in
    let end : next ≡ at + 8 * length (handlers_of block.body) = c.in_ok-at.ensures.end in
    let total : total_handlers (drop n blocks) ≡ length (handlers_of block.body) + total_handlers rest = ap total_handlers steps in
    let sum = c.members.invariant.end in
    let xs = catch_places at (handlers_of block.body) in
    let ys = block_catches next rest in
    let e : block_catches at (drop n blocks) ≡ xs ++ ys = ap (block_catches at) steps ∙ ap (λ k. xs ++ block_catches k rest) (sym end) in
    record {
      end = omega arith;
      order = subst (λ k. c.tell_block.new.told.last ≤ k) (sym end) c.in_ok-at.ensures.last;
      few = c.in_ok-at.ensures.few;
      bytes =
          told_more c.members.told c.tell_block.new.told xs ys (block_catches at (drop n blocks))
          (c.args.told.now.bytes.items ++ distances c.args.told.now.last (block_catches 1 blocks)) e c.in_ok-at.ensures.told c.members.invariant.bytes;
      last =
          last_more c.members.told c.tell_block.new.told xs ys (block_catches at (drop n blocks)) (last_of c.args.told.now.last (block_catches 1 blocks)) e
          c.in_ok-at.ensures.told c.members.invariant.last;
    }
