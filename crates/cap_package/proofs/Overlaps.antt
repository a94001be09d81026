-- Methods and static fields overlap exactly where one reaches to the nearest other from its own start on.
use Rattle.std.proofs.Common.{◌≡◌, ℕ, ◌<◌, ◌≤◌, ltb, cond, min, max, List, [], ◌∷◌, ◌++◌, length, map, Option, Some, None, refl}
use Rattle.std.proofs.Common.{sym, ap, subst, ◌∙◌, arith, lt-ltb, le-ltb}
use Rattle.std.specs.List.{filter_map, cons_option}
use Rattle.std.proofs.lemmas.Bool.{cases_lt}
use Rattle.std.proofs.lemmas.List.Elements.{filter_map-append}
use Rattle.first_fault.specs.Order.{two}
use Rattle.first_fault.proofs.LeastFaults.{least_in, least-at_fault}
use Rattle.offset_set.specs.Sets.{nearest}
use Rattle.offset_set.specs.Tallies.{Tallied, tally_of, IsNearest}
use Rattle.offset_set.proofs.Next.{is-nearest}
use Rattle.cap_desc.specs.DescriptorFormat.{MethodDescriptor, FieldDescriptor}
use Rattle.cap_components.specs.declared.fault.PackFault.{PackFault}
use Rattle.cap_components.specs.declared.fault.PackFault.TheVariants.{MethodOverlaps, StaticOverlaps}
use Rattle.cap_components.specs.Order.{pack_place, least_of}
use Rattle.cap_components.specs.Descriptions.{Description}
use Rattle.cap_package.specs.Pairs.{pairs}
use Rattle.cap_package.specs.MethodChecks.{code_start, code_end, overlap_fault, overlap_pair}
use Rattle.cap_package.specs.StaticChecks.{ImagePlace, place_in, share_by, share_fault, share_pair}
use Rattle.cap_package.specs.Reaches.{reach_by, method_start, method_end, method_reach, static_start, static_end, static_reach}
use Rattle.cap_package.proofs.Neighbours.{least-neighbour}
use Rattle.cap_package.proofs.StaticsKnown.{takes_byte}
use Rattle.cap_package.proofs.HeaderLaws.{size_least}

-- the nearest of the starts that were counted
near_known : (t : Tallied) (starts : List ℕ) (offset : ℕ) (near : Option ℕ) → t ≡ tally_of starts → IsNearest t offset near → near
    ≡ nearest starts offset
near_known t starts offset near e h = is-nearest starts offset near (subst (λ k. IsNearest k offset near) e h)

-- an end that is past the place anyway does not count
past_end : (n a b l : ℕ) → n < b → ltb n (min (min a b) l) ≡ ltb n (min a l)
past_end n a b l lt = grind (arith, cases_lt, min, lt-ltb, le-ltb)

past_other : (n a b : ℕ) → n < b → ltb n (min a b) ≡ ltb n a
past_other n a b lt = grind (arith, cases_lt, lt-ltb, min, le-ltb)

-- ---- methods

pub method_some : (info : List ℕ) (m : MethodDescriptor) → m.method_offset < code_end info m
unfolding code_start code_end
method_some info m = grind (arith, size_least)

method_up : (info : List ℕ) (a b : MethodDescriptor) → a.method_offset ≤ b.method_offset → overlap_pair info (a, b)
    ≡ cond (ltb b.method_offset (method_end info a)) (Some (MethodOverlaps a.method_offset b.method_offset)) None
unfolding overlap_fault
method_up info a b le = grind (arith, min, max, past_end, length, method_some)

method_down : (info : List ℕ) (a b : MethodDescriptor) → b.method_offset ≤ a.method_offset → overlap_pair info (a, b)
    ≡ cond (ltb a.method_offset (method_end info b)) (Some (MethodOverlaps b.method_offset a.method_offset)) None
unfolding overlap_fault
method_down info a b le = grind (arith, min, max, past_end, length, method_some)

method_placed : (m n : ℕ) → pack_place (MethodOverlaps m n) ≡ two m n
unfolding pack_place
method_placed m n = refl

pub method_neighbours : (info : List ℕ) (ms : List MethodDescriptor) → least_of (method_reach info (map method_start ms)) ms
    ≡ least_of (overlap_pair info) (pairs ms)
unfolding method_reach
method_neighbours info ms =
    sym (least-neighbour method_start (method_end info) pack_place MethodOverlaps method_placed (overlap_pair info) (method_up info)
    (method_down info) (grind (arith, method_some)) ms)

-- what is found with the nearest start
pub method_reaches : (t : Tallied) (starts : List ℕ) (info : List ℕ) (m : MethodDescriptor) (near : Option ℕ) → t ≡ tally_of starts →
    IsNearest t m.method_offset near → reach_by MethodOverlaps m.method_offset (method_end info m) near ≡ method_reach info starts m
unfolding method_reach
method_reaches t starts info m near e h = grind (arith, near_known)

-- ---- static fields

abbrev share_places : ImagePlace × ImagePlace → Option PackFault
share_places p = share_by (Some p.0) (Some p.1)

static_up : (p q : ImagePlace) → p.offset ≤ q.offset → share_places (p, q)
    ≡ cond (ltb q.offset (static_end p)) (Some (StaticOverlaps p.offset q.offset)) None
static_up p q le = grind (arith, min, max, past_other, takes_byte)

static_down : (p q : ImagePlace) → q.offset ≤ p.offset → share_places (p, q)
    ≡ cond (ltb p.offset (static_end q)) (Some (StaticOverlaps q.offset p.offset)) None
static_down p q le = grind (arith, min, max, past_other, takes_byte)

static_own : (p q : ImagePlace) → p.offset ≡ q.offset → p.offset < static_end p → q.offset < static_end q
static_own p q same lt = omega (arith, takes_byte q.ty)

static_placed : (m n : ℕ) → pack_place (StaticOverlaps m n) ≡ two m n
unfolding pack_place
static_placed m n = refl

-- the pairs of fields at fault are those of their places
shared_by : (d : Description) (p : ImagePlace) (g : FieldDescriptor) (gs : List FieldDescriptor) (o : Option ImagePlace) →
    filter_map (λ h. share_by (Some p) (place_in d h)) gs
    ≡ filter_map share_places (map (λ q. (p, q)) (filter_map (place_in d) gs)) →
    cons_option (share_by (Some p) o) (filter_map (λ h. share_by (Some p) (place_in d h)) gs)
    ≡ filter_map share_places (map (λ q. (p, q)) (cons_option o (filter_map (place_in d) gs)))
shared_by d p g gs x known = grind (arith)

shared : (d : Description) (p : ImagePlace) (gs : List FieldDescriptor) → filter_map (λ h. share_by (Some p) (place_in d h)) gs
    ≡ filter_map share_places (map (λ q. (p, q)) (filter_map (place_in d) gs))
shared d p [] = refl
shared d p (g ∷ gs) = shared_by d p g gs (place_in d g) (shared d p gs)

none_shared : (d : Description) (gs : List FieldDescriptor) → filter_map (λ h. share_by None (place_in d h)) gs ≡ []
none_shared d [] = refl
none_shared d (g ∷ gs) = none_shared d gs

of_pairs : (d : Description) (f : FieldDescriptor) (gs : List FieldDescriptor) → filter_map (share_pair d) (map (λ g. (f, g)) gs)
    ≡ filter_map (λ h. share_by (place_in d f) (place_in d h)) gs
unfolding share_fault
of_pairs d f [] = refl
of_pairs d f (g ∷ gs) = ap (cons_option (share_by (place_in d f) (place_in d g))) (of_pairs d f gs)

first_shared : (d : Description) (f : FieldDescriptor) (fs : List FieldDescriptor) (o : Option ImagePlace) → filter_map (share_pair d) (pairs fs)
    ≡ filter_map share_places (pairs (filter_map (place_in d) fs)) →
    filter_map (λ h. share_by o (place_in d h)) fs ++ filter_map (share_pair d) (pairs fs)
    ≡ filter_map share_places (pairs (cons_option o (filter_map (place_in d) fs)))
first_shared d f fs None known = rw (none_shared d fs) known
first_shared d f fs (Some p) known = grind (arith, shared d p fs, map, filter_map-append)

all_shared : (d : Description) (fs : List FieldDescriptor) → filter_map (share_pair d) (pairs fs)
    ≡ filter_map share_places (pairs (filter_map (place_in d) fs))
all_shared d [] = refl
all_shared d (f ∷ fs) = grind (arith, of_pairs d f fs, first_shared d f fs (place_in d f) (all_shared d fs), filter_map-append, map)

pub static_neighbours : (d : Description) (fs : List FieldDescriptor) →
    least_of (static_reach (map static_start (filter_map (place_in d) fs))) (filter_map (place_in d) fs)
    ≡ least_of (share_pair d) (pairs fs)
unfolding static_reach
static_neighbours d fs =
    sym (least-neighbour static_start static_end pack_place StaticOverlaps static_placed share_places static_up static_down
    static_own (filter_map (place_in d) fs))
    ∙ least-at_fault pack_place share_places (pairs (filter_map (place_in d) fs)) None
    ∙ ap (least_in pack_place None) (sym (all_shared d fs))
    ∙ sym (least-at_fault pack_place (share_pair d) (pairs fs) None)

pub static_reaches : (t : Tallied) (starts : List ℕ) (p : ImagePlace) (near : Option ℕ) → t ≡ tally_of starts →
    IsNearest t p.offset near → reach_by StaticOverlaps p.offset (static_end p) near ≡ static_reach starts p
unfolding static_reach
static_reaches t starts p near e h = ap (reach_by StaticOverlaps p.offset (static_end p)) (near_known t starts p.offset near e h)
