use Rattle.std.proofs.Common.{◌+◌, sym, ap, ◌∙◌}
use Rattle.xf_layout.proofs.Settled.{bytes_here, bytes_past}
use Rattle.xf_layout.specs.Form.{begins}
use Rattle.xf_layout.proofs.settling.bytes_at.Goals as goal

pub returns-in-Some : goal.returns-in-Some
returns-in-Some c =
    ap (λ b. begins c.args.forms.now c.args.n + b) c.bytes.ensures
    ∙ bytes_here c.args.forms.now c.args.n c.in-Some.form (sym c.in-Some.ensures)

pub returns-in-None : goal.returns-in-None
returns-in-None c = bytes_past c.args.forms.now c.args.n (sym c.in-None.ensures)
