use Rattle.std.proofs.Common.{◌≡◌, false}
use Rattle.std.specs.List.{AllWithin}
use Rattle.xf_homes.specs.Asked.{is_new}
use Rattle.xf_homes.proofs.walk.asked.Given as goal

abbrev pub invariant-handlers : goal.invariant-handlers
invariant-handlers l = AllWithin (λ h. is_new h l.place l.last ≡ false) l.handlers 0 l.handler-index
