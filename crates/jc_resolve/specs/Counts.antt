-- How many classes and methods packages have.
use Rattle.std.specs.Prelude.{ℕ, List, length, sum_by}
use Rattle.cap_desc.specs.DescriptorFormat.{ClassDescriptor}
use Rattle.cap_package.specs.PackageRecord.{PackageRecord}

abbrev pub class_total : List PackageRecord → ℕ
class_total = sum_by (λ (p : PackageRecord). length p.classes)

abbrev pub method_count : List ClassDescriptor → ℕ
method_count = sum_by (λ (c : ClassDescriptor). length c.methods)

abbrev pub method_total : List PackageRecord → ℕ
method_total = sum_by (λ (p : PackageRecord). method_count p.description.items.classes)
