-- The methods one after the other, each with its element of the list.
use Rattle.std.proofs.Common.{◌≡◌, ℕ, Bool, true, cond, List, [], ◌∷◌, ◌++◌, length, drop, map, Option, sym, ap, ◌∙◌, arith}
use Rattle.std.proofs.Common.{append_assoc}
use Rattle.std.proofs.lemmas.List.{append-nil, map_push}
use Rattle.std.proofs.lemmas.List.Elements.{All-push}
use Rattle.cap_desc.specs.DescriptorFormat.{MethodDescriptor, ClassDescriptor}
use Rattle.jc_decode.specs.declared.symbols.Laid.{Laid}
use Rattle.cap_laying.specs.declared.member.WrittenMember.{WrittenMember}
use Rattle.cap_write.specs.Described.{SeenMember, member_seen, seen_method, first_of_them}
use Rattle.cap_write.specs.Described.{seen_methods, seen_class, seen_classes}

pub one_method : (info : List ℕ) (m : MethodDescriptor) (ms all : List MethodDescriptor) (laid rest : List (Option Laid)) (now new : List WrittenMember)
    (x : WrittenMember) (whole : List SeenMember) → all ≡ m ∷ ms → new ≡ now ++ x ∷ []
    → member_seen x ≡ seen_method info m (first_of_them laid) → rest ≡ drop 1 laid → map member_seen now ++ seen_methods info all laid ≡ whole
    → map member_seen new ++ seen_methods info ms rest ≡ whole
one_method info m ms all laid rest now new x whole e n s r h = grind (arith, map_push, append_assoc)

pub one_class : (set : ℕ → Bool) (info : List ℕ) (c : ClassDescriptor) (cs all : List ClassDescriptor) (laid rest : List (Option Laid))
    (now new : List WrittenMember) (whole : List SeenMember) → all ≡ c ∷ cs
    → map member_seen new ≡ map member_seen now ++ seen_class set info c laid → rest ≡ drop (length c.methods) laid
    → map member_seen now ++ seen_classes set info all laid ≡ whole → map member_seen new ++ seen_classes set info cs rest ≡ whole
one_class set info c cs all laid rest now new whole e n r h = grind (arith, append_assoc)

pub no_method : (set : ℕ → Bool) (info : List ℕ) (c : ClassDescriptor) (laid : List (Option Laid)) (now : List SeenMember)
    → set c.class_ref ≡ true → now ≡ now ++ seen_class set info c laid
no_method set info c laid now e = sym (ap (λ b. now ++ cond b [] (seen_methods info c.methods laid)) e ∙ append-nil now)

pub ruleset one_more = (one_method, All-push)
