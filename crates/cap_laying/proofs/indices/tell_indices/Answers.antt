use Rattle.std.proofs.Common.{◌≡◌, ◌+◌, ◌++◌, [], sym, ap, arith, rules}
use Rattle.std.proofs.Math.Seq.{take-length}
use Rattle.jc_decode.specs.Listing.{listing, listing_from}
use Rattle.jc_decode.specs.PoolIndex.{bytes_of_index, pool_index}
use Rattle.jc_decode.proofs.Listing.{listing_from-more, listing_from-end}
use Rattle.cap_laying.specs.Distances.{distances, last_of}
use Rattle.cap_laying.specs.Indices.{index_by, indices}
use Rattle.cap_laying.proofs.Tellings.{begun_more, told_more, last_more, told_all}
use Rattle.cap_laying.proofs.Rooms.{has_room}
use Rattle.cap_laying.proofs.indices.tell_indices.Goals as goal

pub tell_insn-requires-clause-room : goal.tell_insn-requires-clause-room
tell_insn-requires-clause-room c = has_room c.in-Ok.insn c.args.code.bytes.now c.walk.at (sym c.in-Ok.ensures.value)

pub walk-init : goal.walk-init
unfolding listing_from listing
walk-init c = record {
  within = omega arith;
  order = omega (arith, c.requires.order);
  few = c.requires.few;
  bytes = search rules;
  begun = take-length c.args.told.now.bytes.items;
  last = search rules;
}

pub walk-preserved : goal.walk-preserved
walk-preserved c =
    let code = c.args.code.bytes.now in
    let w = bytes_of_index c.args.width in
    let xs = index_by w (c.args.start + c.walk.at) (pool_index c.in-Ok.insn) in
    let ys = indices w c.args.start (listing_from code (c.walk.at + c.in-Ok.insn.len)) in
    let e : indices w c.args.start (listing_from code c.walk.at) ≡ xs ++ ys = ap (indices w c.args.start)
    (listing_from-more code c.walk.at c.in-Ok.insn (sym c.in-Ok.ensures.value)) in
    record {
      within = c.in-Ok.ensures.within.reaches;
      order = omega (arith, c.in_ok-tell_insn.ensures.last);
      few = c.in_ok-tell_insn.ensures.few;
      bytes =
          told_more c.walk.told c.tell_insn.new.told xs ys (indices w c.args.start (listing_from code c.walk.at))
          (c.args.told.now.bytes.items ++ distances c.args.told.now.last (indices w c.args.start (listing code))) e c.in_ok-tell_insn.ensures.told
          c.walk.invariant.bytes;
      begun =
          begun_more c.args.told.now.bytes.items c.walk.told.bytes.items c.tell_insn.new.told.bytes.items (distances c.walk.told.last xs)
          c.walk.invariant.begun c.in_ok-tell_insn.ensures.told.bytes;
      last =
          last_more c.walk.told c.tell_insn.new.told xs ys (indices w c.args.start (listing_from code c.walk.at))
          (last_of c.args.told.now.last (indices w c.args.start (listing code))) e c.in_ok-tell_insn.ensures.told c.walk.invariant.last;
    }

pub returns-clause-told : goal.returns-clause-told
returns-clause-told c =
    let code = c.args.code.bytes.now in
    let w = bytes_of_index c.args.width in
    let zs = indices w c.args.start (listing_from code c.walk.at) in
    let e : zs ≡ [] = ap (indices w c.args.start) (listing_from-end code c.walk.at c.in_default.field-0 (sym c.in_default.ensures.value)) in
    told_all c.walk.told c.args.told.now zs (indices w c.args.start (listing code)) e c.walk.invariant.bytes c.walk.invariant.last
