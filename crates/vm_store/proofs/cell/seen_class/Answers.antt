use Rattle.std.proofs.Common.{ap, sym, arith}
use Rattle.std.specs.Prelude.{if◌then◌else◌}
use Rattle.jc_base.specs.Class.{object}
use Rattle.vm_store.proofs.SeenClasses.{not-interface}
use Rattle.vm_store.proofs.cell.seen_class.Goals as goal
use Rattle.vm_store.proofs.cell.seen_class.Goals.{else-class-len-via-then-class-len+else-is_interface, else-class-len-via-else-class-len}

pub returns-else-class-len : goal.returns-else-class-len
returns-else-class-len c =
    let t = c.args.classes.now in
    elim c.else-class-len.branch [
      | else-class-len-via-then-class-len+else-is_interface w ↦ ap (λ b. if b then object t else c.args.class) w.if-is_interface.ensures
      | else-class-len-via-else-class-len w ↦ ap (λ b. if b then object t else c.args.class)
          (sym (not-interface t c.args.class (omega (arith, w.if-class-len.false, c.len.ensures))))
    ]
