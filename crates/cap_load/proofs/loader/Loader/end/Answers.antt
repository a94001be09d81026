use Rattle.std.proofs.Common.{◌∙◌, ap, sym, subst}
use Rattle.cap_load.specs.Loaded.{Loaded, IsRead}
use Rattle.cap_load.proofs.Ends.{ends_early, ends_cut}
use Rattle.cap_load.proofs.loader.Loader.end.Goals as goal

pub returns-in-Left : goal.returns-in-Left
returns-in-Left c =
    ends_early c.args.self.now c.in-Left.field-0 c.requires (ap (λ (l : Loaded). l.block) (sym c.self.view_is) ∙ c.in-Left.is)

pub returns-in_default : goal.returns-in_default
returns-in_default c =
    ends_cut c.args.self.now c.requires (ap (λ (l : Loaded). l.block) (sym c.self.view_is) ∙ c.in-Ended.is)
    (subst (λ (l : Loaded). IsRead l.contents l.reading) c.self.view_is c.self.invariant.read)
    (λ e. c.in_default.not-Tag (ap (λ (l : Loaded). l.reading.next) c.self.view_is ∙ e))
