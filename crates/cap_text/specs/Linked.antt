-- Why packages make no world, as capcheck prints it.
use Rattle.std.specs.Prelude.{ℕ, List, codes}
use Rattle.cap_text.specs.Fault.{name_1, name_2}
use Rattle.jc_link.specs.LinkFault.{LinkFault}
use Rattle.jc_link.specs.LinkFault.TheVariants.{TooManyPackages, TooManyClasses, TooManyMethods, NoPackage, NoClass, SuperIsInterface}
use Rattle.jc_link.specs.LinkFault.TheVariants.{Cycle, NoRole, NoSuper, NotInterface, Hole, OverrideType, InterfaceType, InstanceLong}
use Rattle.jc_link.specs.LinkFault.TheVariants.{TooManyStatics, NoMember, BadCatch, NoRoom, RoleAbstract}

abbrev pub link_fault_text : LinkFault → List ℕ
link_fault_text (TooManyPackages n) = name_1 (codes "TooManyPackages") n
link_fault_text (TooManyClasses n) = name_1 (codes "TooManyClasses") n
link_fault_text (TooManyMethods n) = name_1 (codes "TooManyMethods") n
link_fault_text (NoPackage home import) = name_2 (codes "NoPackage") home import
link_fault_text (NoClass home reference) = name_2 (codes "NoClass") home reference
link_fault_text (SuperIsInterface class) = name_1 (codes "SuperIsInterface") class
link_fault_text (Cycle class) = name_1 (codes "Cycle") class
link_fault_text (NoRole role) = name_1 (codes "NoRole") role
link_fault_text (NoSuper class) = name_1 (codes "NoSuper") class
link_fault_text (NotInterface class other) = name_2 (codes "NotInterface") class other
link_fault_text (Hole class token) = name_2 (codes "Hole") class token
link_fault_text (OverrideType class token) = name_2 (codes "OverrideType") class token
link_fault_text (InterfaceType class other) = name_2 (codes "InterfaceType") class other
link_fault_text (InstanceLong class n) = name_2 (codes "InstanceLong") class n
link_fault_text (TooManyStatics n) = name_1 (codes "TooManyStatics") n
link_fault_text (NoMember home entry) = name_2 (codes "NoMember") home entry
link_fault_text (BadCatch home handler) = name_2 (codes "BadCatch") home handler
link_fault_text (NoRoom n) = name_1 (codes "NoRoom") n
link_fault_text (RoleAbstract role) = name_1 (codes "RoleAbstract") role
