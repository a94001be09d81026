use Rattle.std.proofs.Common.{◌≡◌}
use Rattle.cap_frame.specs.Directory.{customs_left, custom_size_in}
use Rattle.cap_frame.proofs.directory_record.Directory.custom_size.Given as goal

abbrev pub invariant-customs : goal.invariant-customs
invariant-customs l = custom_size_in (customs_left l.custom-iterator) l.tag ≡ custom_size_in (customs_left l.self.customs) l.tag
