-- A package with other code is a package.
use Rattle.std.proofs.Common.{List, Option, filter_map, ap, ◌∙◌}
use Rattle.cap_components.specs.Parts.{Lent}
use Rattle.cap_components.specs.PackageRecord.{PackageRecord}
use Rattle.cap_components.specs.PartChecks.{components, custom_tags, size_fault}
use Rattle.cap_components.specs.Saying.{AreSaid}
use Rattle.cap_package.specs.StandsFor.{StandsFor}
use Rattle.jc_decode.specs.declared.symbols.Laid.{Laid}
use Rattle.law_package.specs.Laying.{AreLaidFor}
use Rattle.law_package.specs.Rewritten.{IsRewritten}
use Rattle.law_package.specs.RewrittenPackage.{HasSizes}
use Rattle.law_package.proofs.Lists.{append_none}
use Rattle.cap_package.proofs.Agreed.{Agrees, agrees, agreed}
use Rattle.law_package.proofs.Kept.{same_numbers, same_instances, same_shares, same_places, same_exports, same_classes, same_types}
use Rattle.law_package.proofs.Sized.{nothing_missing, sizes_told, forms_stand}
use Rattle.law_package.proofs.Facts.{well_headers}
use Rattle.law_package.proofs.Standing.{stand_apart, lie_inside}
use Rattle.law_package.proofs.Names.{all_named}
use Rattle.law_package.proofs.Handlers.{all_home}

agree_again : (parts new_parts : List Lent) (p q : PackageRecord) (laid : List (Option Laid)) → StandsFor parts p → AreLaidFor p laid
    → IsRewritten p laid q → AreSaid new_parts q → HasSizes new_parts q.directory → Agrees new_parts q
agree_again parts new_parts p q laid s l r said sizes =
    let a = agrees parts p s.agree in
    let n = same_numbers parts p q laid a r in
    let h = well_headers parts p q laid a l r in
    let d = q.directory in
    record {
      forms = forms_stand new_parts d sizes;
      sizes = append_none (filter_map (size_fault q.parts d) components) (filter_map (size_fault q.parts d) (custom_tags d))
          (ap (λ ps. filter_map (size_fault ps d) components) said.same ∙ sizes_told new_parts d components sizes)
          (ap (λ ps. filter_map (size_fault ps d) (custom_tags d)) said.same ∙ sizes_told new_parts d (custom_tags d) sizes);
      overlaps = stand_apart parts p q laid a r;
      outside = lie_inside p q laid r;
      imports = n.imports;
      applets = n.applets;
      image = n.image;
      arrays = n.arrays;
      array_sizes = n.array_sizes;
      pool = n.pool;
      arguments = h.arguments;
      instances = same_instances parts p q laid a r;
      image_sum = n.image_sum;
      bare = h.bare;
      handlers = all_home parts p q laid a l r;
      statics = same_shares parts p q laid a r;
      names = all_named parts p q laid s r;
      classes = same_classes parts p q laid a r;
      registers = h.registers;
      types = same_types parts p q laid a r;
      places = same_places parts p q laid a r;
      lengths = h.lengths;
      exports = same_exports parts p q laid a r;
    }

pub stands_again : (parts new_parts : List Lent) (p q : PackageRecord) (laid : List (Option Laid)) → StandsFor parts p → AreLaidFor p laid
    → IsRewritten p laid q → AreSaid new_parts q → HasSizes new_parts q.directory → StandsFor new_parts q
stands_again parts new_parts p q laid s l r said sizes = record {
  said = said;
  missing = nothing_missing new_parts q said sizes;
  agree = agreed new_parts q (agree_again parts new_parts p q laid s l r said sizes);
}
