use Rattle.std.proofs.Common.{◌≡◌, ◌++◌, flat_map}
use Rattle.jc_decode.specs.Instructions.{rest_of}
use Rattle.jc_decode.specs.Listing.{listing}
use Rattle.xf_homes.specs.PlannedMethod.{source}
use Rattle.xf_emission.specs.Group.{group}
use Rattle.xf_emission.specs.Emission.{stubs}
use Rattle.xf_code.proofs.emitter.Emitter.groups.Given as goal

abbrev pub invariant-walk : goal.invariant-walk
invariant-walk l = record {
  so_far : l.out.items.items ++ flat_map (group (source l.self.plan)) (rest_of l.placed-iterator) ≡ l.fn.out.items.items
      ++ flat_map (group (source l.self.plan))
      (listing l.self.plan.walk.code.bytes.now);
  led : l.stub_items.items.items ++ flat_map (stubs (source l.self.plan)) (rest_of l.placed-iterator) ≡ l.fn.stub_items.items.items
      ++ flat_map (stubs (source l.self.plan))
      (listing l.self.plan.walk.code.bytes.now);
  whole : l.yielded ++ rest_of l.placed-iterator ≡ listing l.self.plan.walk.code.bytes.now;
}
