use Rattle.std.proofs.Common.{◌≡◌, ◌∙◌, None, replicate, ap, rules}
use Rattle.jc_rules.specs.Held.{frames_at}
use Rattle.jc_rules.proofs.Spans.{no_frames}
use Rattle.jc_rules.proofs.typing.Typing.new.Goals as goal

pub returns : goal.returns
returns c =
    let none : c.in_ok-spans.spans.items ≡ replicate c.args.places None = search rules in
    ap (frames_at c.new.result.items) none ∙ no_frames c.new.result.items c.args.places
