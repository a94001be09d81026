use Rattle.std.proofs.Common.{◌++◌, ◌∷◌, [], arith}
use Rattle.cap_laying.specs.Distances.{distance_bytes}
use Rattle.cap_laying.proofs.Tellings.{begun_more, put_more}
use Rattle.cap_laying.proofs.location_component.put_distance.Goals as goal

pub whole-preserved : goal.whole-preserved
whole-preserved c =
    let new = c.push.new.self.items in
    record {
      bytes =
          put_more c.whole.left c.whole.out.items new (c.args.out.now.items ++ distance_bytes c.args.distance) (omega arith) c.in_ok-push.ensures.items
          c.whole.invariant.bytes;
      begun = begun_more c.args.out.now.items c.whole.out.items new (255 ∷ []) c.whole.invariant.begun c.in_ok-push.ensures.items;
    }
