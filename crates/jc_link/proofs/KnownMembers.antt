-- What entries name is there.
use Rattle.std.proofs.Common.{◌≡◌, ℕ, zero, suc, ◌<◌, ◌-◌, Bool, true, false, cond, List, [], ◌∷◌, ◌++◌, length, Option, Some, None}
use Rattle.std.proofs.Common.{refl, sym, subst, ◌∙◌, slice_get, nat_lt, IfSome, Contains, All, arith, get_or}
use Rattle.std.specs.Option.{option_to_list}
use Rattle.std.proofs.lemmas.List.{append-nil}
use Rattle.std.proofs.lemmas.Option.{slice_get-get_or, slice_get_within, same_Some}
use Rattle.std.proofs.lemmas.List.Elements.{All-push, Contains-append_left, Contains-append_right}
use Rattle.cap_bytes.specs.declared.class_reference.ClassReference.{ClassReference}
use Rattle.cap_package.specs.PackageRecord.{PackageRecord}
use Rattle.jc_base.specs.declared.record.Member.{Member}
use Rattle.jc_base.specs.declared.record.MethodRec.{MethodRec}
use Rattle.jc_base.specs.declared.record.StaticRec.{StaticRec}
use Rattle.jc_base.specs.Class.{ClassTable}
use Rattle.jc_base.specs.Dispatch.{public_of, visible_of, entry_at}
use Rattle.jc_base.specs.Linked.{IsMember}
use Rattle.jc_resolve.specs.declared.fault.RecordPlace.{RecordPlace}
use Rattle.jc_resolve.specs.Counts.{class_total}
use Rattle.jc_resolve.proofs.Totals.{classes_total}
use Rattle.jc_resolve.specs.Numbering.{numbered_classes}
use Rattle.jc_resolve.specs.References.{class_referred, place_referred}
use Rattle.jc_resolve.proofs.DeclaredTypes.{named_at}
use Rattle.jc_link.specs.declared.sites.Spot.{Spot}
use Rattle.jc_link.specs.Sites.{only, members_standing, same_spot}
use Rattle.jc_link.specs.Members.{static_site, static_sites, static_at}

-- ---- classes and methods

pub class-below : (ps : List PackageRecord) (k : ℕ) (reference : ClassReference)
    → IfSome (class_referred ps k reference) (λ c. c < length (numbered_classes ps))
unfolding class_referred
class-below ps k reference = named_at ps (place_referred ps k reference)

pub counted : (ps : List PackageRecord) (n : ℕ) → n ≡ class_total ps → n ≡ length (numbered_classes ps)
counted ps n e = e ∙ sym (classes_total ps)

-- one more member, if there is one
pub All_kept : (P : Member → Type 0) (ms ns : List Member) (o : Option Member) → ns ≡ ms ++ option_to_list o → All P ms → IfSome o P → All P ns
All_kept P ms ns None e all h = subst (λ (xs : List Member). All P xs) (sym (e ∙ append-nil ms)) all
All_kept P ms ns (Some m) e all h = subst (λ (xs : List Member). All P xs) (sym e) (All-push P ms m all h)

-- ---- dispatch lists

contained : {X : Type 0} (xs : List X) (n : ℕ) (x : X) → slice_get xs n ≡ Some x → Contains xs x
contained xs n x e = let lt = slice_get_within xs n x e in (n, lt, same_Some (get_or xs n x) x (sym (slice_get-get_or xs n x lt) ∙ e))

pub entry_contained : (t : ClassTable) (p token n : ℕ) → entry_at t p token ≡ Some n → Contains (public_of t p ++ visible_of t p) n
unfolding entry_at
entry_contained t p token n e = by (nat_lt token 128) e
  where
    by : (b : Bool) → cond b (slice_get (public_of t p) token) (slice_get (visible_of t p) (token - 128)) ≡ Some n
        → Contains (public_of t p ++ visible_of t p) n
    by true h = Contains-append_left (public_of t p) (visible_of t p) n (contained (public_of t p) token n h)
    by false h = Contains-append_right (public_of t p) (visible_of t p) n (contained (visible_of t p) (token - 128) n h)

-- ---- static fields

-- what is only in a list has what all have there
only-has : (P : Member → Type 0) (ms : List Member) → ((m : Member) → Contains ms m → P m) → IfSome (only ms) P
only-has x y all = grind (arith)

IsSite : List StaticRec → Member → Type 0
IsSite statics m = (f : StaticRec) × Contains statics f × ((static_site f).member ≡ m)

standing-sites : (statics : List StaticRec) (spot : Spot) (m : Member) → Contains (members_standing (static_sites statics) spot) m → IsSite statics m
unfolding IsSite
standing-sites [] spot m (k, lt, e) = absurd (omega arith)
standing-sites (f ∷ fs) spot m h = by (same_spot spot (static_site f).spot) (standing-sites fs spot m) h
  where
    further : IsSite fs m → IsSite (f ∷ fs) m
    further (g, at, e) = (g, Contains-append_right (f ∷ []) fs g at, e)

    first : Contains ((static_site f).member ∷ members_standing (static_sites fs) spot) m
        → (Contains (members_standing (static_sites fs) spot) m → IsSite fs m) → IsSite (f ∷ fs) m
    first (zero, lt, e) others = (f, (0, omega arith, refl), e)
    first (suc k, lt, e) others = further (others (k, omega arith, e))

    by : (b : Bool) → (Contains (members_standing (static_sites fs) spot) m → IsSite fs m)
        → Contains (cond b ((static_site f).member ∷ members_standing (static_sites fs) spot) (members_standing (static_sites fs) spot)) m
        → IsSite (f ∷ fs) m
    by true others at = first at others
    by false others at = further (others at)

is-member : (t : ClassTable) (methods : List MethodRec) (statics : List StaticRec) (m : Member) → IsSite statics m → IsMember t methods statics m
unfolding IsSite
is-member t methods statics m (f, (k, lt, at), e) = subst (IsMember t methods statics) e (k, f, lt, at, record { slot = refl; kind = refl; ty = refl })

pub static_there : (t : ClassTable) (methods : List MethodRec) (statics : List StaticRec) (place : RecordPlace)
    → IfSome (static_at statics place) (IsMember t methods statics)
unfolding static_at
static_there t methods statics place =
    only-has (IsMember t methods statics) (members_standing (static_sites statics) (record { owner = place.package; number = place.offset }))
    (λ m h. is-member t methods statics m (standing-sites statics _ m h))
