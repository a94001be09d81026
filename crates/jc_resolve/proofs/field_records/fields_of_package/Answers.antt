use Rattle.std.proofs.Common.{◌≡◌, List, [], ◌∷◌, ◌++◌, append_assoc, map, filter_map, flat_map, length, ap, sym, ◌∙◌, arith}
use Rattle.cap_desc.specs.ClassRecords.{described_class_seen, described_left}
use Rattle.cap_desc.specs.DescriptorFormat.{ClassDescriptor}
use Rattle.cap_desc.specs.Members.{fields_of}
use Rattle.jc_resolve.specs.Conditions.{references_of_field_type}
use Rattle.jc_resolve.specs.Described.{spot_of_record}
use Rattle.jc_resolve.specs.Homes.{description_at, least_at, static_type_at, fields_at}
use Rattle.jc_resolve.specs.Numbers.{Numbered, with_next, with_all}
use Rattle.jc_resolve.proofs.NamedFaults.{least_record_types}
use Rattle.jc_resolve.proofs.TypedFields.{record_step}
use Rattle.jc_resolve.proofs.field_records.fields_of_package.Goals as goal

pub records-preserved : goal.records-preserved
records-preserved c =
    let home = c.args.home in
    let d = description_at home in
    let f = static_type_at home in
    let g = fields_at home in
    let x = described_class_seen c.in-Some.described in
    let others = described_left c.next.new.self in
    let is : described_left c.records.described-iterator ≡ x ∷ others = c.in-Some.ensures.steps in
    let items = c.records.records.items in
    let types = c.records.statics.items in
    record {
      statics =
          ap (λ l. l ++ filter_map f (fields_of others)) c.in_ok-fields_of_record.ensures.statics
          ∙ sym (record_step f types x others)
          ∙ ap (λ (ds : List ClassDescriptor). types ++ filter_map f (fields_of ds)) (sym is)
          ∙ c.records.invariant.statics;
      records =
          ap (λ l. l ++ map g others) (c.in_ok-push-2.ensures.items ∙ ap (λ l. items ++ l ∷ []) c.in_ok-fields_of_record.ensures.is)
          ∙ append_assoc items (g x ∷ []) (map g others)
          ∙ ap (λ (ds : List ClassDescriptor). items ++ map g ds) (sym is)
          ∙ c.records.invariant.records;
      numbers =
          ap (λ (t : Numbered). with_all t (map spot_of_record others)) (c.in_ok-push.ensures.numbers ∙ ap (with_next c.records.numbers) c.place_of.ensures)
          ∙ ap (λ (ds : List ClassDescriptor). with_all c.records.numbers (map spot_of_record ds)) (sym is)
          ∙ c.records.invariant.numbers;
      next = omega (arith, c.in_ok-push.ensures.next, ap length is, c.records.invariant.next);
      least =
          ap (λ before. least_at home before (flat_map (references_of_field_type d) (fields_of others))) c.in_ok-fields_of_record.ensures.least
          ∙ sym (least_record_types home.index.now home.number d x others c.records.least)
          ∙ ap (λ (ds : List ClassDescriptor). least_at home c.records.least (flat_map (references_of_field_type d) (fields_of ds))) (sym is)
          ∙ c.records.invariant.least;
    }
