-- What is known of each method that is written.
use Rattle.std.proofs.Common.{◌≡◌, ◌≤◌, ◌<◌, ◌+◌, ℕ, List, [], ◌∷◌, length, map, take, drop, Option, Some, None, IfSome, sym, ap}
use Rattle.std.proofs.Common.{subst, ◌∙◌, arith}
use Rattle.cap_bytes.specs.Number.{number_at}
use Rattle.jc_base.proofs.Eaching.{Each-from_All}
use Rattle.cap_method.specs.MethodFormat.{Header}
use Rattle.cap_desc.specs.DescriptorFormat.{MethodDescriptor}
use Rattle.cap_components.specs.MethodPlaces.{size_by, code_start}
use Rattle.cap_components.specs.Parts.{Lent}
use Rattle.cap_components.specs.PackageRecord.{PackageRecord, described_methods, handlers_of}
use Rattle.cap_package.specs.HeaderChecks.{header_in}
use Rattle.cap_package.specs.StandsFor.{StandsFor}
use Rattle.cap_renewal.specs.NewMethods.{to}
use Rattle.cap_renewal.specs.DescriptorEdits.{renewed_method}
use Rattle.cap_laying.specs.declared.member.Body.{Body}
use Rattle.cap_laying.specs.declared.member.Body.TheVariants.{Code, Header as Lead}
use Rattle.cap_laying.specs.declared.member.WrittenMember.{WrittenMember}
use Rattle.cap_laying.specs.HandlerTable.{entries_at}
use Rattle.cap_laying.specs.Member.{body_bytes, body_size, code_size, lead_size}
use Rattle.cap_laying.specs.Member.{handlers_of as laid_handlers}
use Rattle.cap_laying.specs.Blocks.{blocks, handler_indexes, block_entries}
use Rattle.cap_laying.specs.Members.{AreMembers}
use Rattle.cap_laying.specs.WrittenMethods.{HeadersReadBack}
use Rattle.cap_laying.specs.Standing.{StandsAnew, WrittenMethodsStand}
use Rattle.jc_decode.specs.declared.symbols.Laid.{Laid}
use Rattle.law_package.specs.Changes.{FormerMethod, sources}
use Rattle.law_package.specs.Written.{IsAs, size_written}
use Rattle.law_package.specs.Laying.{IsCodeFor, IsFor, FitsHeader, AreLaidFor}
use Rattle.law_package.specs.Writing.{IsBodyOf, IsMemberOf, LaidHasSmallStack, IsWrittenAnew, places}
use Rattle.law_package.proofs.Lists.{Each, each_at, each_of, map_each}
use Rattle.cap_package.proofs.Agreed.{agrees}
use Rattle.law_package.proofs.Zipped.{method_of, sources_method, length_but}
use Rattle.law_package.proofs.Facts.{WasWell, wells}
use Rattle.law_package.proofs.Standing.{sizes_end}
use Rattle.law_package.proofs.Handlers.{ClaimsInside, all_claims}
use Rattle.law_package.proofs.Anew.{Pair, pairs_in, source_in, member_in, pair_sources, pair_members}
use Rattle.law_package.proofs.Anew.{pair_each, change_in, standing, IsToldOf, is_told_of}
use Rattle.law_package.proofs.AsLaid.{IsCodeAt, code_at, IsLeadAt, lead_at}

pub was_described : (p q : PackageRecord) (laid : List (Option Laid)) (ms : List WrittenMember) → IsWrittenAnew p laid ms q
    → map method_of (sources p laid) ≡ described_methods p
was_described p q laid ms w = grind (arith, sources_method, length_but)

-- ---- from methods, sources and members to pairs

of_sources : (p q : PackageRecord) (laid : List (Option Laid)) (ms : List WrittenMember) (P : FormerMethod → Type 0) → IsWrittenAnew p laid ms q
    → Each P (sources p laid) → Each (λ (z : Pair). P z.source) (pairs_in p laid ms)
of_sources p q laid ms P w h = map_each P source_in (pairs_in p laid ms) (subst (Each P) (sym (pair_sources p.methods.info (sources p laid) ms w.members)) h)

pub of_members : (p q : PackageRecord) (laid : List (Option Laid)) (ms : List WrittenMember) (P : WrittenMember → Type 0) → IsWrittenAnew p laid ms q
    → Each P ms → Each (λ (z : Pair). P z.member) (pairs_in p laid ms)
of_members p q laid ms P w h = map_each P member_in (pairs_in p laid ms) (subst (Each P) (sym (pair_members p.methods.info (sources p laid) ms w.members)) h)

pub of_methods : (p q : PackageRecord) (laid : List (Option Laid)) (ms : List WrittenMember) (P : MethodDescriptor → Type 0) → IsWrittenAnew p laid ms q
    → Each P (described_methods p) → Each (λ (z : Pair). P z.source.method) (pairs_in p laid ms)
of_methods p q laid ms P w h =
    of_sources p q laid ms (λ (s : FormerMethod). P s.method) w
    (map_each P method_of (sources p laid) (subst (Each P) (sym (was_described p q laid ms w)) h))

each_within : (size : ℕ) (ms : List WrittenMember) → AreMembers size ms → Each (λ (m : WrittenMember). m.offset < size) ms
each_within size [] a = tt
each_within size (m ∷ ms) a = (a.0.within, each_within size ms a.1)

-- ---- its body

abbrev pub IsBodyAt : List ℕ → List ℕ → FormerMethod → Body → ℕ → Type 0
IsBodyAt xs ys s (Code laid) at = (s.laid ≡ Some laid.now) × IsCodeAt ys at laid.now
IsBodyAt xs ys s (Lead header) at = (s.laid ≡ None) × IsLeadAt xs ys header.now s.method.method_offset at

one_byte : (a b : ℕ) → a + b ≤ 255 → a < 256
one_byte a b h = omega arith

other_byte : (a b : ℕ) → a + b ≤ 255 → b < 256
other_byte a b h = omega arith

body_at : (xs ys : List ℕ) (s : FormerMethod) (h : Header) (b : Body) (at : ℕ) → HeadersReadBack
    → s.method.method_offset + size_by (number_at 1 s.method.method_offset xs) ≤ length xs → IsFor h s.laid → LaidHasSmallStack s → IsBodyOf xs s b
    → take (body_size b) (drop at ys) ≡ body_bytes b → IsBodyAt xs ys s b at
body_at xs ys s h (Code laid) at back within fits small is bytes =
    let f : IsCodeFor h laid.now = subst (IsFor h) is fits in
    let k : IfSome (Some laid.now) (λ l. l.max_stack < 256) = subst (λ o. IfSome o (λ l. l.max_stack < 256)) is small in (
      is,
      code_at ys at laid.now back
          (record {
            max_stack = k;
            nargs = one_byte laid.now.nargs laid.now.max_locals f.registers;
            max_locals = grind (arith, other_byte);
          }) bytes,
    )
body_at xs ys s h (Lead header) at back within fits small is bytes = (is.0, lead_at s.method.method_offset at xs ys header.now within is.1 bytes)

-- ---- all

pub record Known (p q : PackageRecord) (ms : List WrittenMember) (z : Pair) : Type 0 where
  pub is : IsMemberOf p.methods.info z.source z.member
  pub told : IsToldOf (places p ms) (handler_indexes (length p.methods.info) (blocks (length p.methods.handlers) ms)) z
  pub was : WasWell p z.source.method
  pub inside : ClaimsInside (length p.methods.handlers) z.source.method
  pub within : z.member.offset < length p.methods.info
  pub body : IsBodyAt p.methods.info q.methods.info z.source z.member.body (to (places p ms) z.member.offset)

pub told_all : (p q : PackageRecord) (laid : List (Option Laid)) (ms : List WrittenMember) → IsWrittenAnew p laid ms q → WrittenMethodsStand
    → Each (λ (z : Pair). IsToldOf (places p ms) (handler_indexes (length p.methods.info) (blocks (length p.methods.handlers) ms)) z) (pairs_in p laid ms)
told_all p q laid ms w stand =
    let zs = pairs_in p laid ms in
    let size = length p.methods.info in
    let room = length p.methods.handlers in
    let is = pair_each p.methods.info (sources p laid) ms w.members in
    let st = of_members p q laid ms (StandsAnew size room ms) w (standing size room ms ms (stand size room ms w.may)) in
    each_of (λ (z : Pair). IsToldOf (places p ms) (handler_indexes size (blocks room ms)) z) zs
    (λ z h. is_told_of p.methods.info size room ms z (each_at (λ (x : Pair). IsMemberOf p.methods.info x.source x.member) zs z is h)
    (each_at (λ (x : Pair). StandsAnew size room ms x.member) zs z st h))

pub known : (parts : List Lent) (p q : PackageRecord) (laid : List (Option Laid)) (ms : List WrittenMember) → StandsFor parts p → AreLaidFor p laid
    → IsWrittenAnew p laid ms q → WrittenMethodsStand → HeadersReadBack → Each (Known p q ms) (pairs_in p laid ms)
known parts p q laid ms s l w stand back =
    let zs = pairs_in p laid ms in
    let size = length p.methods.info in
    let room = length p.methods.handlers in
    let a = agrees parts p s.agree in
    let is = pair_each p.methods.info (sources p laid) ms w.members in
    let st = of_members p q laid ms (StandsAnew size room ms) w (standing size room ms ms (stand size room ms w.may)) in
    let told = told_all p q laid ms w stand in
    let was = of_methods p q laid ms (WasWell p) w (wells parts p a) in
    let inside = of_methods p q laid ms (ClaimsInside room) w (all_claims parts p a) in
    let within = of_members p q laid ms (λ (m : WrittenMember). m.offset < size) w (each_within size ms w.may.each) in
    let fits = of_sources p q laid ms (FitsHeader p) w (Each-from_All (FitsHeader p) (sources p laid) l) in
    let small = of_sources p q laid ms LaidHasSmallStack w (Each-from_All LaidHasSmallStack (sources p laid) w.stacks) in
    each_of (Known p q ms) zs (λ z h.
    let i = each_at (λ (x : Pair). IsMemberOf p.methods.info x.source x.member) zs z is h in
    let ok = each_at (λ (x : Pair). WasWell p x.source.method) zs z was h in
    let f = each_at (λ (x : Pair). FitsHeader p x.source) zs z fits h in
    let bytes = (each_at (λ (x : Pair). StandsAnew size room ms x.member) zs z st h).bytes in
    let e = sizes_end p.methods.info z.source.method in
    let end = ok.within in
    record {
      is = i;
      told = each_at (λ (x : Pair). IsToldOf (places p ms) (handler_indexes size (blocks room ms)) x) zs z told h;
      was = ok;
      inside = each_at (λ (x : Pair). ClaimsInside room x.source.method) zs z inside h;
      within = each_at (λ (x : Pair). x.member.offset < size) zs z within h;
      body = body_at p.methods.info q.methods.info z.source ok.header z.member.body (to (places p ms) z.member.offset) back (omega arith) (f ok.header ok.there)
          (each_at (λ (x : Pair). LaidHasSmallStack x.source) zs z small h) i.body
          (ap (λ info. take (body_size z.member.body) (drop (to (places p ms) z.member.offset) info)) w.info ∙ bytes);
    })

-- its size is that of its body
pub size_known : (p q : PackageRecord) (ms : List WrittenMember) (z : Pair) → Known p q ms z → size_written q (change_in (places p ms) z)
    ≡ body_size z.member.body
size_known p q ms z k = grind (arith)

start_known : (p q : PackageRecord) (ms : List WrittenMember) (z : Pair) → Known p q ms z
    → code_start q.methods.info (renewed_method (places p ms) z.source.method) ≡ to (places p ms) z.member.offset + lead_size z.member.body
unfolding code_start
start_known p q ms z k = grind (arith)

as_laid_by : (p q : PackageRecord) (s : FormerMethod) (m : MethodDescriptor) (b : Body) (at : ℕ) → IsBodyAt p.methods.info q.methods.info s b at
    → m.method_offset ≡ at → m.bytecode_count ≡ code_size b → m.handler_count ≡ length (laid_handlers b)
    → code_start q.methods.info m ≡ at + lead_size b → handlers_of q m ≡ entries_at (at + lead_size b) (laid_handlers b) → IsAs p q s.method s.laid m
as_laid_by p q s m (Code laid) at i offset count many start handlers =
    subst (λ o. IsAs p q s.method o m) (sym i.0) (record {
      header = ap (header_at q) offset ∙ i.1.header;
      long = count;
      code = grind (arith);
      many = many;
      handlers = handlers ∙ ap (λ n. entries_at n laid.now.handlers) (sym start);
    })
  where
    header_at : PackageRecord → ℕ → Option Header
    header_at r n = header_in r.methods.info n
as_laid_by p q s m (Lead header) at i offset count many start handlers = grind (arith)

-- it is as it is to be, where its entries are those of its block
pub as_laid : (p q : PackageRecord) (ms : List WrittenMember) (z : Pair) → Known p q ms z → handlers_of q (renewed_method (places p ms) z.source.method)
    ≡ block_entries (places p ms) z.member
    → IsAs p q z.source.method z.source.laid (renewed_method (places p ms) z.source.method)
as_laid p q ms z k handlers = grind (arith, as_laid_by, start_known)
