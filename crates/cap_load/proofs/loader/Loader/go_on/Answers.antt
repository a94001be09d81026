use Rattle.std.proofs.Common.{◌≡◌, None, arith, sym, subst, length, length-append, ap, [], ◌∷◌}
use Rattle.cap_load.specs.Taking.{fault_by}
use Rattle.cap_load.proofs.Contents.{fits_left}
use Rattle.cap_load.proofs.Readings.{read_more}
use Rattle.cap_load.proofs.loader.Loader.go_on.Goals as goal

pub push_reserved-requires : goal.push_reserved-requires
push_reserved-requires c =
    let fit = fits_left _ c.in-Left.left c.args.byte c.in-Left.is (rw c.in-Left.is at c.in-Left.left-test.1)
    (subst (λ l. fault_by l.block l c.args.byte ≡ None) (sym c.self.view_is) c.requires) in
    omega (arith, fit.0, c.self.inside.contents.ok.0, c.self.invariant.room)

pub invariant_of-self-in-Left : goal.invariant_of-self-in-Left
invariant_of-self-in-Left c =
    let fit = fits_left _ c.in-Left.left c.args.byte c.in-Left.is (rw c.in-Left.is at c.in-Left.left-test.1)
    (subst (λ l. fault_by l.block l c.args.byte ≡ None) (sym c.self.view_is) c.requires) in
    record {
      room = omega (arith, c.self.invariant.room, c.push_reserved.ensures.capacity);
      few = omega (arith, fit.0, ap length c.push_reserved.ensures.items, length-append c.self.inside.contents.items (c.args.byte ∷ []));
      read = rw (c.push_reserved.ensures.items, c.after-self-inside.ensures)
          (read_more _ _ _ c.self.invariant.read fit.1 (omega (arith, c.ranges.byte)));
    }
