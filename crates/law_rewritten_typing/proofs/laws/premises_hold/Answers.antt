use Rattle.std.proofs.Common.{◌≡◌, subst}
use Rattle.jc_base.specs.Laws.{ClassesAreObjects}
use Rattle.law_rewritten_typing.proofs.laws.premises_hold.Goals as goal

pub returns : goal.returns
returns c =
    let own : c.classes.result.now ≡ c.args.world.now.classes = cc in
    record {
      objects = subst ClassesAreObjects own c.subclasses_extend.ensures.objects;
      rules = c.rule_laws.ensures;
      alike = c.operations_go_alike.ensures;
      sound = c.operations_are_sound.ensures.sound;
      falls = c.operation_laws.ensures.falls;
      keeps = c.operation_laws.ensures.keeps;
      none = c.footprint_laws.ensures.names_none;
      rests = c.operation_laws.ensures.rests;
      entry = c.entries_are_named.ensures.rests;
      whole = c.operation_laws.ensures.keeps_whole;
      derived = c.derived_are_whole.ensures;
    }
