-- The states that are met come one after another, so that a method has one number of passes and is refused in one way.
use Rattle.std.proofs.Common.{◌≡◌, ℕ, zero, suc, ◌+◌, ◌-◌, ◌<◌, ⊎_elim, Bool, true, false, nat_lt, List, [], ◌∷◌, refl, sym}
use Rattle.std.proofs.Common.{◌∙◌, ap, subst, arith}
use Rattle.std.proofs.lemmas.Bool.{false≢true, ltb-true, ltb-false}
use Rattle.jc_base.specs.declared.ty.Ty.{Ty}
use Rattle.jc_base.specs.declared.ty.Ty.TheVariants.{Bottom, Class}
use Rattle.jc_base.specs.World.{Linked}
use Rattle.jc_decode.specs.declared.insn.Placed.{Placed}
use Rattle.jc_decode.specs.Listing.{falls}
use Rattle.jc_control.specs.Method.{Method, IsMethodOf}
use Rattle.jc_control.specs.WellFormed.{HasInstruction}
use Rattle.jc_control.specs.Laws.{FirstFlawIsOne}
use Rattle.jc_control.proofs.FlawLaws.{first-flaw-refuses}
use Rattle.jc_rules.specs.declared.effect.Mode.TheVariants.{Card}
use Rattle.jc_rules.specs.declared.rule.Outcome.{Outcome}
use Rattle.jc_rules.specs.Demand.{Frame}
use Rattle.jc_rules.specs.Flow.{start_frame}
use Rattle.jc_rules.specs.FlowLaws.{AreRules}
use Rattle.card_typing.specs.declared.fault.CardFault.{CardFault}
use Rattle.card_typing.specs.declared.fault.CardKind.{CardKind}
use Rattle.card_typing.specs.declared.fault.CardKind.TheVariants.{Rule}
use Rattle.card_typing.specs.Place.{IsTarget, CatchesAt}
use Rattle.card_typing.specs.Met.{Arrives, arrives_falling, arrives_empty, arrives_caught, arrives_full, IsOpenTo, IsPassed, GoesTo, goes_there, goes_again}
use Rattle.card_typing.specs.Met.{IsMetAfter, met_start, met_next}
use Rattle.card_typing.specs.Refusal.{IsWrong, wrong_entry, wrong_room, wrong_mark, wrong_rule, wrong_branch, wrong_end, fault_of, fault_at, IsFlawKind}
use Rattle.card_typing.specs.Refusal.{IsRefusedAfter, refused_at, IsRefused, refused_flaw, refused_state}
use Rattle.card_typing.specs.Laws.{MetIsOne, RefusedStateIsOne, PassCountIsOne, RefusalIsOne}
use Rattle.card_typing.proofs.Below.{fault-kind}
use Rattle.jc_rules.proofs.Sites.{site_of, at-site, refuses-at-site}

-- ---- a walk

-- the walk goes on from a state to the next
record IsNext (w : Linked) (m : Method) (marked : ℕ → Type 0) (p : ℕ) (f : Frame) (q : ℕ) (g : Frame) : Type 0 where
  i : Placed
  at : i.place ≡ p
  after : Frame
  o : Outcome
  passed : IsPassed w m marked i f after o
  goes : GoesTo m (i.place + i.insn.len) q
  stack : List Ty
  arrives : Arrives w m (falls i.insn.op) after.stack q stack
  is : g ≡ record { regs = after.regs; stack = stack }

-- where it doesn't go on
abbrev IsLast : Linked → Method → (ℕ → Type 0) → ℕ → Frame → Type 0
IsLast w m marked p f = (q : ℕ) (g : Frame) → ¬ (IsNext w m marked p f q g)

abbrev begun : Method → List Ty → Frame
begun m stack = record { regs = (start_frame m.rec Bottom).regs; stack = stack }

module _ (w : Linked) (m : Method) (marked : ℕ → Type 0) where
  next-of : (i : Placed) (q : ℕ) (before after : Frame) (o : Outcome) (stack : List Ty) → IsPassed w m marked i before after o
      → GoesTo m (i.place + i.insn.len) q → Arrives w m (falls i.insn.op) after.stack q stack
      → IsNext w m marked i.place before q (record { regs = after.regs; stack = stack })
  next-of i q before after o stack passed goes a =
      record { i = i; at = refl; after = after; o = o; passed = passed; goes = goes; stack = stack; arrives = a; is = refl }

  -- the state before the first visit
  record IsFirst (q : ℕ) (f : Frame) : Type 0 where
    stack : List Ty
    arrives : Arrives w m true [] 0 stack
    at : q ≡ 0
    is : f ≡ begun m stack

  met-first : (n q : ℕ) (f : Frame) → IsMetAfter w m marked n q f → n ≡ 0 → IsFirst q f
  met-first _ _ _ (met_start stack a) e = record { stack = stack; arrives = a; at = refl; is = refl }
  met-first _ _ _ (met_next visits i q before after o stack met passed goes a) e = absurd (omega (arith, e))

  -- the state that is met a visit sooner
  record ComesFrom (n q : ℕ) (f : Frame) : Type 0 where
    place : ℕ
    before : Frame
    met : IsMetAfter w m marked n place before
    next : IsNext w m marked place before q f

  met-from : (n k q : ℕ) (f : Frame) → IsMetAfter w m marked n q f → n ≡ suc k → ComesFrom k q f
  met-from _ k _ _ (met_start stack a) e = absurd (omega (arith, e))
  met-from _ k _ _ (met_next visits i q before after o stack met passed goes a) e =
      let same : visits ≡ k = omega (arith, e) in
      record {
        place = i.place;
        before = before;
        met = subst (λ (n : ℕ). IsMetAfter w m marked n i.place before) same met;
        next = next-of i q before after o stack passed goes a;
      }

  -- the state that is met sooner still, from which the walk goes on
  record GoesOnAfter (n : ℕ) : Type 0 where
    place : ℕ
    before : Frame
    met : IsMetAfter w m marked n place before
    to : ℕ
    after : Frame
    next : IsNext w m marked place before to after

  goes-from : (d n k q : ℕ) (f : Frame) → IsMetAfter w m marked k q f → k ≡ suc (d + n) → GoesOnAfter n
  goes-from zero n k q f a e =
      let x = met-from k n q f a (omega (arith, e)) in
      record { place = x.place; before = x.before; met = x.met; to = q; after = f; next = x.next }
  goes-from (suc d) n k q f a e =
      let x = met-from k (suc (d + n)) q f a (omega (arith, e)) in
      goes-from d n (suc (d + n)) x.place x.before x.met refl

-- ---- one step

abbrev pub Agree : CardKind → Frame → CardKind → Frame → Type 0
Agree kind kept other held = (kind ≡ other) × (kept ≡ held)

abbrev Agrees : CardFault → Frame → CardFault → Frame → Type 0
Agrees fault kept other held = (fault ≡ other) × (¬ (IsFlawKind fault.kind) → kept ≡ held)

-- of two numbers that differ one is less
apart : (a b : ℕ) → ¬ (a < b) → ¬ (b < a) → a ≡ b
apart a b under over = by (nat_lt a b) (nat_lt b a) refl refl
  where
    by : (x y : Bool) → nat_lt a b ≡ x → nat_lt b a ≡ y → a ≡ b
    by true y e d = absurd (under (ltb-true a b e))
    by false true e d = absurd (over (ltb-true b a d))
    by false false e d = omega (arith, ltb-false a b e, ltb-false b a d)

module _ (w : Linked) (rules : AreRules w) (m : Method) (mo : IsMethodOf w m) (marked : ℕ → Type 0) where
  caught-one : (q c d : ℕ) → CatchesAt w.classes m q c → CatchesAt w.classes m q d → Class c ≡ Class d
  caught-one q c d a b = rules.types.apart (Class c) (Class d) (a.least (Class d) b.above) (b.least (Class c) a.above)

  arrives-one : (b : Bool) (given : List Ty) (q : ℕ) (one other : List Ty) → Arrives w m b given q one → Arrives w m b given q other → one ≡ other
  arrives-one b given q _ _ (arrives_falling free e) (arrives_falling f d) = refl
  arrives-one b given q _ _ (arrives_falling free e) (arrives_empty f d) = absurd (false≢true (sym d ∙ e))
  arrives-one b given q _ _ (arrives_falling free e) (arrives_caught c entry r k) = absurd (free entry)
  arrives-one b given q _ _ (arrives_falling free e) (arrives_full entry none) = absurd (free entry)
  arrives-one b given q _ _ (arrives_empty free e) (arrives_falling f d) = absurd (false≢true (sym e ∙ d))
  arrives-one b given q _ _ (arrives_empty free e) (arrives_empty f d) = refl
  arrives-one b given q _ _ (arrives_empty free e) (arrives_caught c entry r k) = absurd (free entry)
  arrives-one b given q _ _ (arrives_empty free e) (arrives_full entry none) = absurd (free entry)
  arrives-one b given q _ _ (arrives_caught c entry r k) (arrives_falling f d) = absurd (f entry)
  arrives-one b given q _ _ (arrives_caught c entry r k) (arrives_empty f d) = absurd (f entry)
  arrives-one b given q _ _ (arrives_caught c entry r k) (arrives_caught d y s l) = ap (λ (t : Ty). t ∷ []) (caught-one q c d k l)
  arrives-one b given q _ _ (arrives_caught c entry r k) (arrives_full y none) = absurd (r none)
  arrives-one b given q _ _ (arrives_full entry none) (arrives_falling f d) = absurd (f entry)
  arrives-one b given q _ _ (arrives_full entry none) (arrives_empty f d) = absurd (f entry)
  arrives-one b given q _ _ (arrives_full entry none) (arrives_caught c y r k) = absurd (r none)
  arrives-one b given q _ _ (arrives_full entry none) (arrives_full y n) = refl

  goes-one : (at q r : ℕ) → GoesTo m at q → GoesTo m at r → q ≡ r
  goes-one at _ _ (goes_there lt) (goes_there less) = refl
  goes-one at _ _ (goes_there lt) (goes_again e) = absurd (omega (arith, lt, e))
  goes-one at _ _ (goes_again e) (goes_there lt) = absurd (omega (arith, lt, e))
  goes-one at _ _ (goes_again e) (goes_again d) = refl

  -- ---- many steps

  module _ (p : ℕ) (f : Frame) (q r : ℕ) (g h : Frame) (a : IsNext w m marked p f q g) (b : IsNext w m marked p f r h) where
    same-insn : b.i ≡ a.i
    same-insn = (rules.listed m.code).one b.i a.i b.passed.stands a.passed.stands (b.at ∙ sym a.at)

    same-after : b.after ≡ a.after
    same-after =
        let passed = subst (λ (i : Placed). IsPassed w m marked i f b.after b.o) same-insn b.passed in
        (rules.decides (site_of m a.i.place) a.i.insn Card f).one (at-site w m mo passed.applies) (at-site w m mo a.passed.applies)

    same-place : q ≡ r
    same-place = goes-one (a.i.place + a.i.insn.len) q r a.goes (subst (λ (i : Placed). GoesTo m (i.place + i.insn.len) r) same-insn b.goes)

    same-stack : a.stack ≡ b.stack
    same-stack =
        let here = subst (λ (n : ℕ). Arrives w m (falls b.i.insn.op) b.after.stack n b.stack) (sym same-place) b.arrives in
        let by = subst (λ (i : Placed). Arrives w m (falls i.insn.op) b.after.stack q b.stack) same-insn here in
        arrives-one (falls a.i.insn.op) a.after.stack q a.stack b.stack a.arrives
        (subst (λ (x : Frame). Arrives w m (falls a.i.insn.op) x.stack q b.stack) same-after by)

    same-frame : g ≡ h
    same-frame =
        a.is ∙ ap (λ (s : List Ty). record { regs = a.after.regs; stack = s }) same-stack
        ∙ ap (λ (x : Frame). record { regs = x.regs; stack = b.stack }) (sym same-after) ∙ sym b.is

  -- one state is met after so many visits
  met-same : (n p q : ℕ) (f g : Frame) → IsMetAfter w m marked n p f → IsMetAfter w m marked n q g → (p ≡ q) × (f ≡ g)
  met-same zero p q f g a b =
      let x = met-first w m marked 0 p f a refl in
      let y = met-first w m marked 0 q g b refl in
      (x.at ∙ sym y.at, x.is ∙ ap (begun m) (arrives-one true [] 0 x.stack y.stack x.arrives y.arrives) ∙ sym y.is)
  met-same (suc n) p q f g a b =
      let x = met-from w m marked (suc n) n p f a refl in
      let y = met-from w m marked (suc n) n q g b refl in
      let same = met-same n x.place y.place x.before y.before x.met y.met in
      let at = subst (λ (k : ℕ). IsNext w m marked k y.before q g) (sym same.0) y.next in
      let next = subst (λ (e : Frame). IsNext w m marked x.place e q g) (sym same.1) at in
      (same-place x.place x.before p q f g x.next next, same-frame x.place x.before p q f g x.next next)

  -- after the one from which the walk does not go on none is met
  not-after : (n k q r : ℕ) (g h : Frame) → IsMetAfter w m marked n q g → IsLast w m marked q g → IsMetAfter w m marked k r h → ¬ (n < k)
  not-after n k q r g h a stops b less =
      let more : k ≡ suc ((k - suc n) + n) = omega (arith, less) in
      let on = goes-from w m marked (k - suc n) n k r h b more in
      let same = met-same n on.place q on.before g on.met a in
      let at = subst (λ (p : ℕ). IsNext w m marked p on.before on.to on.after) same.0 on.next in
      stops on.to on.after (subst (λ (e : Frame). IsNext w m marked q e on.to on.after) same.1 at)

  last-visit : (n k q r : ℕ) (g h : Frame) → IsMetAfter w m marked n q g → IsLast w m marked q g → IsMetAfter w m marked k r h
      → IsLast w m marked r h → n ≡ k
  last-visit n k q r g h a stops b ends = apart n k (not-after n k q r g h a stops b) (not-after k n r q h g b ends a)

  -- ---- what is wrong with a state

  module _ (i : Placed) (before : Frame) where
    pub unpassed : (kind : CardKind) (kept : Frame) → IsWrong w m marked i before kind kept → (after : Frame) (o : Outcome)
        → IsPassed w m marked i before after o → ⊥
    unpassed _ _ (wrong_entry entry from) after o passed = ⊎_elim (passed.suits.entry entry).0 (passed.suits.entry entry).1 from
    unpassed _ _ (wrong_room entry alone full) after o passed = passed.suits.caught entry full
    unpassed _ _ (wrong_mark free mark fallen deep) after o passed = deep (passed.suits.mark mark fallen)
    unpassed _ _ (wrong_rule fault suits refuses) after o passed =
        (rules.decides (site_of m i.place) i.insn Card before).never_both (at-site w m mo passed.applies) (refuses-at-site w m mo refuses)
    unpassed _ _ (wrong_branch left p suits applies jumps deep) after o passed =
        let same : left ≡ after = (rules.decides (site_of m i.place) i.insn Card before).one (at-site w m mo applies) (at-site w m mo passed.applies) in
        deep (ap (λ (x : Frame). x.stack) same ∙ passed.branch jumps)
    unpassed _ _ (wrong_end left p suits applies empty goes end) after o passed = let inside = passed.goes_on goes in absurd (omega (arith, inside, end))

    pub wrong-one : IsOpenTo m marked i.place before.stack → (kind other : CardKind) (kept held : Frame) → IsWrong w m marked i before kind kept
        → IsWrong w m marked i before other held → Agree kind kept other held
    wrong-one suits _ o _ t (wrong_entry entry from) b = absurd (⊎_elim (suits.entry entry).0 (suits.entry entry).1 from)
    wrong-one suits _ o _ t (wrong_room entry alone full) b = absurd (suits.caught entry full)
    wrong-one suits _ o _ t (wrong_mark free mark fallen deep) b = absurd (deep (suits.mark mark fallen))
    wrong-one suits k _ s _ a (wrong_entry entry from) = absurd (⊎_elim (suits.entry entry).0 (suits.entry entry).1 from)
    wrong-one suits k _ s _ a (wrong_room entry alone full) = absurd (suits.caught entry full)
    wrong-one suits k _ s _ a (wrong_mark free mark fallen deep) = absurd (deep (suits.mark mark fallen))
    wrong-one suits _ _ _ _ (wrong_rule fault u r) (wrong_rule other v t) =
        (ap Rule ((rules.decides (site_of m i.place) i.insn Card before).one_fault (refuses-at-site w m mo r) (refuses-at-site w m mo t)), refl)
    wrong-one suits _ _ _ _ (wrong_rule fault u r) (wrong_branch g p v applies j d) =
        absurd ((rules.decides (site_of m i.place) i.insn Card before).never_both (at-site w m mo applies) (refuses-at-site w m mo r))
    wrong-one suits _ _ _ _ (wrong_rule fault u r) (wrong_end g p v applies j d e) =
        absurd ((rules.decides (site_of m i.place) i.insn Card before).never_both (at-site w m mo applies) (refuses-at-site w m mo r))
    wrong-one suits _ _ _ _ (wrong_branch f o u applies j d) (wrong_rule fault v r) =
        absurd ((rules.decides (site_of m i.place) i.insn Card before).never_both (at-site w m mo applies) (refuses-at-site w m mo r))
    wrong-one suits _ _ _ _ (wrong_branch f o u applies j d) (wrong_branch g p v also k e) =
        (refl, (rules.decides (site_of m i.place) i.insn Card before).one (at-site w m mo applies) (at-site w m mo also))
    wrong-one suits _ _ _ _ (wrong_branch f o u applies j d) (wrong_end g p v also empty goes end) =
        let same : f ≡ g = (rules.decides (site_of m i.place) i.insn Card before).one (at-site w m mo applies) (at-site w m mo also) in
        absurd (d (ap (λ (x : Frame). x.stack) same ∙ empty j))
    wrong-one suits _ _ _ _ (wrong_end f o u applies empty goes end) (wrong_rule fault v r) =
        absurd ((rules.decides (site_of m i.place) i.insn Card before).never_both (at-site w m mo applies) (refuses-at-site w m mo r))
    wrong-one suits _ _ _ _ (wrong_end f o u applies empty goes end) (wrong_branch g p v also j d) =
        let same : g ≡ f = (rules.decides (site_of m i.place) i.insn Card before).one (at-site w m mo also) (at-site w m mo applies) in
        absurd (d (ap (λ (x : Frame). x.stack) same ∙ empty j))
    wrong-one suits _ _ _ _ (wrong_end f o u applies empty goes end) (wrong_end g p v also none on off) =
        (refl, (rules.decides (site_of m i.place) i.insn Card before).one (at-site w m mo applies) (at-site w m mo also))

    -- two things that are wrong with a state are one, also where the place may not have the stack
    wrong-alike : (kind other : CardKind) (kept held : Frame) → IsWrong w m marked i before kind kept → IsWrong w m marked i before other held
        → Agree kind kept other held
    wrong-alike _ _ _ _ (wrong_entry e from) (wrong_entry f by) = (refl, refl)
    wrong-alike _ _ _ _ (wrong_entry e from) (wrong_room f alone full) = absurd (alone from)
    wrong-alike _ _ _ _ (wrong_entry e from) (wrong_mark free t n d) = absurd (free e)
    wrong-alike _ _ _ _ (wrong_entry e from) (wrong_rule fault u r) = absurd (⊎_elim (u.entry e).0 (u.entry e).1 from)
    wrong-alike _ _ _ _ (wrong_entry e from) (wrong_branch g p u applies j d) = absurd (⊎_elim (u.entry e).0 (u.entry e).1 from)
    wrong-alike _ _ _ _ (wrong_entry e from) (wrong_end g p u applies j d end) = absurd (⊎_elim (u.entry e).0 (u.entry e).1 from)
    wrong-alike _ _ _ _ (wrong_room e alone full) (wrong_entry f from) = absurd (alone from)
    wrong-alike _ _ _ _ (wrong_room e alone full) (wrong_room f b g) = (refl, refl)
    wrong-alike _ _ _ _ (wrong_room e alone full) (wrong_mark free t n d) = absurd (free e)
    wrong-alike _ _ _ _ (wrong_room e alone full) (wrong_rule fault u r) = absurd (u.caught e full)
    wrong-alike _ _ _ _ (wrong_room e alone full) (wrong_branch g p u applies j d) = absurd (u.caught e full)
    wrong-alike _ _ _ _ (wrong_room e alone full) (wrong_end g p u applies j d end) = absurd (u.caught e full)
    wrong-alike _ _ _ _ (wrong_mark free t n d) (wrong_entry e from) = absurd (free e)
    wrong-alike _ _ _ _ (wrong_mark free t n d) (wrong_room e alone full) = absurd (free e)
    wrong-alike _ _ _ _ (wrong_mark free t n d) (wrong_mark f u o e) = (refl, refl)
    wrong-alike _ _ _ _ (wrong_mark free t n d) (wrong_rule fault u r) = absurd (d (u.mark t n))
    wrong-alike _ _ _ _ (wrong_mark free t n d) (wrong_branch g p u applies j e) = absurd (d (u.mark t n))
    wrong-alike _ _ _ _ (wrong_mark free t n d) (wrong_end g p u applies j e end) = absurd (d (u.mark t n))
    wrong-alike _ o _ t (wrong_rule fault u r) b = wrong-one u (Rule fault) o before t (wrong_rule fault u r) b
    wrong-alike k o s t (wrong_branch g p u applies j d) b = wrong-one u k o s t (wrong_branch g p u applies j d) b
    wrong-alike k o s t (wrong_end g p u applies j d end) b = wrong-one u k o s t (wrong_end g p u applies j d end) b

  -- ---- refusals

  closed : (i : Placed) (before : Frame) (kind : CardKind) (kept : Frame) → IsWrong w m marked i before kind kept → HasInstruction m.code i
      → IsLast w m marked i.place before
  closed i before kind kept wrong there q g n =
      let same : n.i ≡ i = (rules.listed m.code).one n.i i n.passed.stands there n.at in
      unpassed i before kind kept wrong n.after n.o (subst (λ (j : Placed). IsPassed w m marked j before n.after n.o) same n.passed)

  pub state-one :
      (visits others : ℕ) (fault other : CardFault) (kept held : Frame)
      → IsRefusedAfter w m marked visits fault kept
      → IsRefusedAfter w m marked others other held
      → (visits ≡ others) × (fault ≡ other) × (kept ≡ held)
  state-one visits others _ _ _ _ (refused_at i before kept kind here met wrong) (refused_at j begun_with held other there also worse) =
      let count : visits ≡ others = last-visit visits others i.place j.place before begun_with met (closed i before kind kept wrong here) also
      (closed j begun_with other held worse there) in
      let one = met-same others i.place j.place before begun_with (subst (λ (n : ℕ). IsMetAfter w m marked n i.place before) count met) also in
      let same : j ≡ i = (rules.listed m.code).one j i there here (sym one.0) in
      let at = subst (λ (k : Placed). IsWrong w m marked k before other held) same
      (subst (λ (f : Frame). IsWrong w m marked j f other held) (sym one.1) worse) in
      let agree = wrong-alike i before kind other kept held wrong at in (
        count,
        ap (λ (k : Placed). fault_at k.place kind kept) (sym same) ∙ ap (λ (k : CardKind). fault_at j.place k kept) agree.0
            ∙ ap (λ (f : Frame). fault_at j.place other f) agree.1,
        agree.1,
      )

pub met-is-one : (w : Linked) → AreRules w → (m : Method) (marked : ℕ → Type 0) → IsMethodOf w m → MetIsOne w m marked
met-is-one w rules m marked mo visits p q met other a b = met-same w rules m mo marked visits p q met other a b

pub refused-state-is-one : (w : Linked) → AreRules w → (m : Method) (marked : ℕ → Type 0) → IsMethodOf w m → RefusedStateIsOne w m marked
refused-state-is-one w rules m marked mo visits others fault other kept held a b = state-one w rules m mo marked visits others fault other kept held a b

pub pass-count-is-one : (w : Linked) (m : Method) (marked : ℕ → Type 0) → PassCountIsOne w m marked
pass-count-is-one w m marked passes others a b =
    let same : a.raising ≡ b.raising = apart a.raising b.raising (λ less. b.first a.raising less a.last) (λ less. a.first b.raising less b.last) in
    omega (arith, same, a.count, b.count)

module _ (w : Linked) (rules : AreRules w) (m : Method) (mo : IsMethodOf w m) (one_flaw : FirstFlawIsOne) where
  refusal-one-of : (fault other : CardFault) (kept held : Frame) → IsRefused w m fault kept → IsRefused w m other held → Agrees fault kept other held
  refusal-one-of _ _ _ _ (refused_flaw f kept first) (refused_flaw g held also) =
      (ap fault_of (one_flaw m f g first also), λ of_state. absurd (of_state (fault-kind f)))
  refusal-one-of _ _ _ _ (refused_flaw f kept first) (refused_state fault held formed state) = absurd (first-flaw-refuses m f first formed)
  refusal-one-of _ _ _ _ (refused_state fault kept formed state) (refused_flaw f held first) = absurd (first-flaw-refuses m f first formed)
  refusal-one-of _ _ _ _ (refused_state fault kept formed state) (refused_state other held also is) =
      let one = state-one w rules m mo (IsTarget m) state.visits is.visits fault other kept held state.after is.after in
      (one.1, λ of_state. one.2)

pub refusal-one : (w : Linked) → AreRules w → FirstFlawIsOne → RefusalIsOne w
refusal-one w rules one_flaw m fault other kept held mo r s = refusal-one-of w rules m mo one_flaw fault other kept held r s
