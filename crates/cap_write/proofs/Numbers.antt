-- How many methods a package describes.
use Rattle.std.proofs.Common.{◌≡◌, ◌≤◌, ◌+◌, ◌*◌, ℕ, zero, suc, Bool, true, false, cond, List, [], ◌∷◌, ◌++◌, length, map}
use Rattle.std.proofs.Common.{Option, Some, None, sym, ap, ◌∙◌, arith, length-append}
use Rattle.std.proofs.lemmas.List.{length-map}
use Rattle.cap_bytes.specs.Grammar.{repeat}
use Rattle.cap_bytes.specs.Spelling.{Spells}
use Rattle.cap_desc.specs.DescriptorFormat.{ClassDescriptor, class_descriptor_info}
use Rattle.cap_desc.specs.Members.{methods_but}
use Rattle.cap_components.specs.Parts.{Lent}
use Rattle.cap_components.specs.PackageRecord.{PackageRecord, described_methods, names_interface}
use Rattle.cap_package.specs.StandsFor.{StandsFor}
use Rattle.cap_renewal.proofs.DescriptorItems.{class_room, has_classes}
use Rattle.jc_decode.specs.declared.symbols.Laid.{Laid}
use Rattle.cap_package.proofs.InfoLaws.{info-short}
use Rattle.cap_index.specs.TargetIndex.{AreShortCodes}
use Rattle.cap_laying.specs.declared.member.WrittenMember.{WrittenMember}
use Rattle.cap_laying.specs.Members.{AreMembers}
use Rattle.cap_write.proofs.LaidWell.{AreLaidWell}
use Rattle.cap_write.specs.Described.{member_seen, seen_package}
use Rattle.cap_write.specs.PlainComponent.{AreSmallMembers}
use Rattle.cap_write.proofs.Apart.{offset_of}
use Rattle.cap_write.proofs.Members.{offsets_classes, seen_offset}

classes_room : (set : ℕ → Bool) (bytes : List ℕ) (n at : ℕ) (cs : List ClassDescriptor) (after : ℕ)
    → Spells (repeat n class_descriptor_info) bytes at cs after → at + 12 * length (methods_but set cs) ≤ after
unfolding Spells
classes_room set bytes zero at cs after h = rw h.0 (omega (arith, h.1))
classes_room set bytes (suc n) at cs after h =
    let g = h.3 in
    let one = class_room bytes at h.0 h.1 h.2 in
    let rest = classes_room set bytes n h.1 g.0 g.1 g.2 in
    let same : g.1 ≡ after = omega (arith, g.3.1) in
    rw g.3.0 (by h.0 g.0 (set h.0.class_ref) (omega (arith, one, rest, same)) (omega (arith, one, rest, same, length-append h.0.methods (methods_but set g.0))))
  where
    by : (c : ClassDescriptor) (cs : List ClassDescriptor) (b : Bool) → at + 12 * length (methods_but set cs) ≤ after
        → at + 12 * length (c.methods ++ methods_but set cs) ≤ after
        → at + 12 * length (cond b (methods_but set cs) (c.methods ++ methods_but set cs)) ≤ after
    by c cs true x y = x
    by c cs false x y = y

pub few_described : (parts : List Lent) (p : PackageRecord) → StandsFor parts p → length (described_methods p) ≤ 5461
few_described parts p s = grind (arith, info-short, has_classes, classes_room)

pub few_members : (parts : List Lent) (p : PackageRecord) (ls : List (Option Laid)) (ms : List WrittenMember) → StandsFor parts p
    → map member_seen ms ≡ seen_package p ls → length ms ≤ 5461
few_members parts p ls ms s e =
    let set = names_interface p.classes in
    let a : length ms ≡ length (seen_package p ls) = sym (length-map ms member_seen) ∙ ap length e in
    let b : length (seen_package p ls) ≡ length (described_methods p) = sym (length-map (seen_package p ls) seen_offset)
    ∙ ap length (offsets_classes set p.methods.info p.description.items.classes ls) ∙ length-map (described_methods p) offset_of in
    omega (arith, few_described parts p s)

pub small_members : (size : ℕ) (ms : List WrittenMember) → AreMembers size ms → AreSmallMembers ms
small_members size [] h = tt
small_members size (m ∷ ms) h = (h.0.small, small_members size ms h.1)

pub short_codes : (ls : List (Option Laid)) → AreLaidWell ls → AreShortCodes ls
short_codes [] h = tt
short_codes (None ∷ ls) h = short_codes ls h
short_codes (Some l ∷ ls) h = (h.0.short, short_codes ls h.1)
