use Rattle.std.proofs.Common.{rules, ◌≡◌, arith, sym, subst}
use Rattle.std.proofs.lemmas.Grind.{common_steps}
use Rattle.cap_class.specs.ClassPart.{classes_left}
use Rattle.jc_resolve.specs.Described.{AreDescribedOnce}
use Rattle.jc_resolve.proofs.Describing.{described_once}
use Rattle.jc_link.specs.Fields.{FieldsFitIn}
use Rattle.jc_link.proofs.fields.enter_package.Goals as goal

pub classes-init : goal.classes-init
classes-init c =
    let all : classes_left c.into_iter-class-iterator.result ≡ c.args.«package».now.classes = search rules in
    record {
      entered = grind (arith, common_steps);
      known = grind (arith, common_steps);
      room = subst (FieldsFitIn c.args.names.now.packages c.args.classes.now c.args.number c.args.«package».now c.args.first) (sym all) c.requires.room;
      described =
          subst (AreDescribedOnce c.args.«package».now.description.items.classes) (sym all)
          (described_once c.args.«package».now c.parts-parts.ensures.agree);
    }
