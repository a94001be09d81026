-- The methods of a listing in place of a package's own: what is wrong with them, and what the package is written with.
use Rattle.std.specs.Prelude.{◌≡◌, ℕ, ◌+◌, Bool, true, false, not, ◌==◌, ◌&&◌, ◌||◌, nat_lt, nat_le, min, List, [], ◌∷◌, ◌++◌}
use Rattle.std.specs.Prelude.{length, map, drop, Option, Some, None, Result, Ok, Err, if◌then◌else◌}
use Rattle.cap_method.specs.MethodFormat.{Header}
use Rattle.cap_desc.specs.DescriptorFormat.{MethodDescriptor, ClassDescriptor}
use Rattle.cap_components.specs.PackageRecord.{PackageRecord, names_interface}
use Rattle.cap_package.specs.HeaderChecks.{header_in, is_abstract}
use Rattle.jc_decode.specs.declared.symbols.Laid.{Laid}
use Rattle.jc_decode.specs.declared.symbols.LaidHandler.{LaidHandler}
use Rattle.cap_listing.specs.declared.method.ListedMethod.{ListedMethod}
use Rattle.cap_listing.specs.declared.fault.AsmFault.{AsmFault}
use Rattle.cap_listing.specs.declared.fault.AsmFault.TheVariants.{OtherMethod, Registers, HandlerRange, CodeLength, TooManyHandlers}
use Rattle.cap_listing.specs.declared.fault.AsmEnd.{AsmEnd}
use Rattle.cap_listing.specs.declared.fault.AsmEnd.TheVariants.{Fault, Memory}
use Rattle.cap_listing.specs.declared.fitting.Condition.{Condition}
use Rattle.cap_listing.specs.declared.fitting.Condition.TheVariants as conditions

-- ---- the faults of each condition, in the order of the methods from a number on

-- two methods of the same class number, method number and number of argument words
abbrev pub is_same : ListedMethod → ListedMethod → Bool
is_same m n = m.class_no == n.class_no && m.method_no == n.method_no && m.laid.nargs == n.laid.nargs

-- a method is not the package's own of its number, or one of the two is missing
abbrev pub other_faults : ℕ → List ListedMethod → List ListedMethod → List AsmFault
other_faults n [] [] = []
other_faults n [] (own ∷ owns) = OtherMethod n ∷ other_faults (n + 1) [] owns
other_faults n (m ∷ ms) [] = OtherMethod n ∷ other_faults (n + 1) ms []
other_faults n (m ∷ ms) (own ∷ owns) =
    if is_same m own then other_faults (n + 1) ms owns else (OtherMethod n ∷ other_faults (n + 1) ms owns)

-- a handler's range ends in a code of this size or at its end, and its entry is in it
abbrev pub lies_in : LaidHandler → ℕ → Bool
lies_in h size = nat_le (h.start + h.length) size && nat_lt h.entry size

abbrev pub range_faults : ℕ → ℕ → ℕ → List LaidHandler → List AsmFault
range_faults n size number [] = []
range_faults n size number (h ∷ hs) =
    if lies_in h size then range_faults n size (number + 1) hs else (HandlerRange n number ∷ range_faults n size (number + 1) hs)

-- what is wrong with the n-th method by itself: more than 255 words of arguments and locals; a handler; a code of no byte
-- or of more than 32,767
abbrev pub own_faults : Condition → ℕ → ListedMethod → List AsmFault
own_faults conditions.Registers n m =
    if nat_lt 255 (m.laid.nargs + m.laid.max_locals) then Registers n (m.laid.nargs + m.laid.max_locals) ∷ [] else []
own_faults conditions.Handlers n m = range_faults n (length m.laid.code) 0 m.laid.handlers
own_faults conditions.Length n m =
    if length m.laid.code == 0 || nat_lt 32767 (length m.laid.code) then CodeLength n (length m.laid.code) ∷ [] else []

abbrev pub faults_from : Condition → ℕ → List ListedMethod → List AsmFault
faults_from c n [] = []
faults_from c n (m ∷ ms) = own_faults c n m ++ faults_from c (n + 1) ms

-- the handlers of all methods
abbrev pub handler_total : List ListedMethod → ℕ
handler_total [] = 0
handler_total (m ∷ ms) = length m.laid.handlers + handler_total ms

-- more than a package can have; the number that is told is at most the greatest of 64 bits
abbrev pub total_faults : List ListedMethod → List AsmFault
total_faults ms = if nat_lt 255 (handler_total ms) then TooManyHandlers (min (handler_total ms) 18446744073709551615) ∷ [] else []

-- what is wrong with methods in place of a package's own, one condition after the other
abbrev pub faults : List ListedMethod → List ListedMethod → List AsmFault
faults owns ms =
    other_faults 0 ms owns
    ++ (faults_from conditions.Registers 0 ms
    ++ (faults_from conditions.Handlers 0 ms ++ (faults_from conditions.Length 0 ms ++ total_faults ms)))

-- nothing is wrong, or the first fault
abbrev pub first_refused : List AsmFault → Result (Unit {0}) AsmFault
first_refused [] = Ok (tt {0})
first_refused (f ∷ fs) = Err f

-- the end tells the first of these faults, or that there is no memory
abbrev pub TellsFirst : List AsmFault → AsmEnd → Type 0
TellsFirst fs (Fault f) = first_refused fs ≡ Err f
TellsFirst fs Memory = Unit {0}

-- ---- an element for each method record

abbrev pub has_code : Option Header → Bool
has_code None = false
has_code (Some h) = not (is_abstract h)

-- whether a method record is of code: in no interface and with a header that does not call it abstract
abbrev pub is_coded : List ℕ → Bool → MethodDescriptor → Bool
is_coded info interface m = not interface && has_code (header_in info m.method_offset)

abbrev pub coded_in : (ℕ → Bool) → List ℕ → List ClassDescriptor → List Bool
coded_in interfaces info [] = []
coded_in interfaces info (c ∷ cs) = map (is_coded info (interfaces c.class_ref)) c.methods ++ coded_in interfaces info cs

abbrev pub coded : PackageRecord → List Bool
coded p = coded_in (names_interface p.classes) p.methods.info p.description.items.classes

-- the code of the first method where the flag is set, and else nothing; and the methods after it
abbrev pub first_filled : Bool → List ListedMethod → Option Laid
first_filled false ms = None
first_filled true [] = None
first_filled true (m ∷ ms) = Some m.laid

abbrev pub rest_filled : Bool → List ListedMethod → List ListedMethod
rest_filled false ms = ms
rest_filled true ms = drop 1 ms

-- the code of the methods, one after the other, where a method record is of code, and nothing elsewhere
abbrev pub filled : List Bool → List ListedMethod → List (Option Laid)
filled [] ms = []
filled (b ∷ bs) ms = first_filled b ms ∷ filled bs (rest_filled b ms)

-- what the package is written with: the code, handlers and three numbers of each listed method, and nothing else
abbrev pub placed : PackageRecord → List ListedMethod → List (Option Laid)
placed p ms = filled (coded p) ms
