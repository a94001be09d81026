use Rattle.std.proofs.Common.{◌<◌, ◌-◌, length, arith}
use Rattle.vm_store.proofs.SeenClasses.{kind-read}
use Rattle.vm_store.proofs.tagged.kind_of.Goals as goal

pub returns : goal.returns
returns c =
    let counted : 0 < c.args.handle = omega (arith, c.if-handle-eq0.false) in
    let within : c.args.handle - 1 < length c.args.headers.now.items = omega (arith, c.if-len-handle.false, c.len.ensures, c.args.headers.now.ok.0) in
    kind-read c.args.headers.now.items c.args.handle c.index.result.now counted within c.index.ensures
