-- The Method component, with its info, as a value of the program.
use Rattle.cap_method.specs.declared.method_part.MethodPart.{MethodPart}
use Rattle.cap_method.specs.MethodPart.{handlers}
use Rattle.cap_components.specs.Components.{Methods}

abbrev pub methods_seen : MethodPart → Methods
methods_seen x = record { info = x.info.bytes.now; handlers = handlers x }
