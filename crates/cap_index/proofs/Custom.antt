-- The info of a custom component is no longer than the two bytes of its size can tell.
use Rattle.std.proofs.Common.{◌≡◌, ℕ, ◌≤◌, List, length, Option, Some, Result, Ok, Err, arith}
use Rattle.std.specs.Prelude.{option_map}
use Rattle.cap_bytes.specs.declared.fault.FormFault.{FormFault}
use Rattle.cap_bytes.specs.Spelling.{file_of}
use Rattle.cap_bytes.specs.Reading.{reading}
use Rattle.cap_bytes.proofs.Laws.{stands}
use Rattle.cap_frame.specs.DirectoryFormat as directory
use Rattle.cap_frame.specs.Frame.{component}
use Rattle.cap_components.specs.Components.{formed, framed, info_in}
use Rattle.cap_components.specs.Parts.{Lent, held}
use Rattle.cap_package.specs.Customs.{CustomItems, info_or_none, custom_in}
use Rattle.cap_package.specs.PackageRecord.{PackageRecord}
use Rattle.cap_package.proofs.InfoLaws.{info-short}

formed-short : (tag : ℕ) (bytes : List ℕ) (r : Result (List ℕ) FormFault) → reading (file_of tag) (component tag) bytes ≡ r
    → length (info_or_none (formed r)) ≤ 65535
formed-short tag bytes (Ok info) e = info-short tag bytes info (stands (file_of tag) (component tag) bytes info e)
formed-short tag bytes (Err fault) e = omega arith

framed-short : (tag : ℕ) (o : Option (List ℕ)) → length (info_or_none (framed tag o)) ≤ 65535
framed-short tag x = grind (arith, formed-short)

info-in-short : (parts : List Lent) (tag : ℕ) → length (info_or_none (info_in parts tag)) ≤ 65535
unfolding info_in
info-in-short parts tag = framed-short tag (held parts tag)

short-by : (parts : List Lent) (tag : ℕ) (o : Option directory.Custom) (x : CustomItems)
    → Some x ≡ option_map (λ (c : directory.Custom). record { aid = c.aid; info = info_or_none (info_in parts tag) }) o → length x.info ≤ 65535
short-by parts tag x x2 e = grind (arith, length, info-in-short)

pub custom-short : (p : PackageRecord) (tag : ℕ) (x : CustomItems) → Some x ≡ custom_in p tag → length x.info ≤ 65535
custom-short p tag x e = short-by p.parts tag _ x e
