use Rattle.std.proofs.Common.{◌≡◌, ◌+◌, List, length, take_all, subst, ap, sym, ◌∙◌, arith}
use Rattle.std.specs.Prelude.{All, slice_get, slice_index}
use Rattle.cap_package.specs.PackageRecord.{PackageRecord}
use Rattle.cap_method.specs.StaticFormat.{Statics}
use Rattle.jc_resolve.specs.WorldTypes.{type_of}
use Rattle.jc_link.specs.KnownFields.{AreStaticsKnown}
use Rattle.jc_link.specs.Statics.{static_records}
use Rattle.jc_link.proofs.TakenMore.{taken_more}
use Rattle.jc_link.proofs.Counts.{static_cells_more}
use Rattle.jc_link.proofs.FieldLists.{statics_more}
use Rattle.jc_link.proofs.static_fields.all_statics.Goals as goal

pub push_statics-requires : goal.push_statics-requires
push_statics-requires c = record {
  at = ap (λ (ps : List PackageRecord). slice_get ps c.packages.n) (sym c.requires.named) ∙ c.at-package.ensures;
  cells = omega (arith, static_cells_more c.args.packages.now c.packages.n c.at-package.result.now c.at-package.ensures);
}

pub packages-preserved : goal.packages-preserved
packages-preserved c =
    let cells = static_cells_more c.args.packages.now c.packages.n c.at-package.result.now c.at-package.ensures in
    let count = c.array_init_count.ensures ∙ ap (λ (s : Statics). length s.arrays) c.statics.ensures.items in
    let last : c.packages.first + c.array_init_count.result ≡ c.packages.first + length c.at-package.result.now.statics.arrays = omega (arith, count) in
    let told = type_of c.args.names.now.packages (slice_index c.args.names.now.roles 0) in
    record {
      all =
          statics_more told c.packages.records.items c.push_statics.new.records.items (static_records told c.args.packages.now) c.args.packages.now
          c.packages.n c.packages.first c.packages.slot c.in_ok-slot.slot (c.packages.first + c.array_init_count.result) c.at-package.result.now
          c.at-package.ensures c.packages.invariant.all c.in_ok-slot.ensures.is c.in_ok-slot.ensures.next last;
      cells = omega (arith, cells, c.in_ok-slot.ensures.next);
      arrays = omega arith;
      known =
          taken_more AreStaticsKnown c.args.packages.now c.packages.n c.at-package.result.now c.at-package.ensures c.packages.invariant.known
          c.in_ok-slot.ensures.known;
    }

pub returns-clause-known : goal.returns-clause-known
returns-clause-known c = subst (λ ps. All AreStaticsKnown ps) (take_all c.packages.n c.args.packages.now (omega arith)) c.packages.invariant.known
