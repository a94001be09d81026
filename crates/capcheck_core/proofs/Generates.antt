-- The package that is generated makes one world, in which its methods can be run.
use Rattle.std.proofs.Common.{◌≡◌, ◌⊎◌, ◌<◌, ◌≤◌, ◌+◌, ◌-◌, ℕ, zero, suc, ℤ, pos, Bool, true, false, List}
use Rattle.std.proofs.Common.{[], ◌∷◌, ◌++◌, length, map, Option, Some, None, inl, inr, refl, sym, ap, subst, ◌∙◌, arith}
use Rattle.std.specs.Prelude.{slice_get, not, if◌then◌else◌, fold, ◌+ℤ◌, IsSomeAnd, IfOk, OnErr, MatchBool, MatchResult, Result, Ok, Err}
use Rattle.std.specs.Prelude.{string_bytes}
use Rattle.std.specs.List.{range_with_len}
use Rattle.std.proofs.lemmas.Option.{slice_get_within}
use Rattle.std.proofs.lemmas.List.{length_push}
use Rattle.cap_gen.specs.Linked.{roles, method_record}
use Rattle.cap_gen.specs.Record.{package_record}
use Rattle.cap_package.specs.PackageRecord.{PackageRecord}
use Rattle.cap_package.specs.Parts.{Lent}
use Rattle.cap_package.specs.StandsFor.{StandsFor, HavePackage}
use Rattle.xf_pack.specs.Transformed.{IsTransformed}
use Rattle.vm_offend.specs.declared.machine.Machine.{Machine}
use Rattle.vm_offend.specs.Begun.{IsBegun}
use Rattle.vm_offend.specs.Sized.{static_cells}
use Rattle.vm_store.specs.Cells.{tagged}
use Rattle.cap_gen.proofs.Linking.{methods_are}
use Rattle.cap_gen.specs.GeneratedPackage.{PackagesLink, PartsStand, WorldsAreTyped}
use Rattle.cap_gen.specs.Methods.{method_info}
use Rattle.cap_gen.specs.Generated.{generated_parts}
use Rattle.jc_base.specs.Class.{is_interface}
use Rattle.jc_base.specs.Linked.{IsCodeLength, IsMethod}
use Rattle.jc_base.specs.World.{Linked, IsWorld, method_numbered}
use Rattle.jc_base.proofs.Lists.{All-slice_get, slice_get-farther}
use Rattle.jc_base.specs.declared.record.MethodRec.{MethodRec}
use Rattle.jc_base.specs.declared.ty.Ty.TheVariants.{Bottom}
use Rattle.jc_link.specs.World.{IsLinked, LinkTells}
use Rattle.jc_link.specs.LinkEnd.TheVariants as ends
use Rattle.jc_link.specs.LinkFault.{LinkFault}
use Rattle.jc_link.proofs.OneWorld.{linked_faultless}
use Rattle.law_relink.specs.Last.{and_last}
use Rattle.card_verify.specs.Answers.{AreAccepted}
use Rattle.law_sound.specs.Soundness.{TypedCodeIsFaultFree}
use Rattle.law_alike.specs.Starting.{StartsRefuseAlike, MethodsAreNumberedAlike}
use Rattle.vm_step.specs.Raising.{Outcome, running}
use Rattle.vm_step.specs.Start.{entry_fault, entry_state, method_fault, or_room}
use Rattle.vm_defend.specs.Held.{answer}
use Rattle.vm_step.specs.declared.ending.StartFault.TheVariants.{NotStatic}
use Rattle.vm_step.specs.declared.ending.Ending.{Ending}
use Rattle.vm_step.specs.declared.ending.Plain.TheVariants as plains
use Rattle.vm_step.specs.declared.ending.StartFault.{StartFault}
use Rattle.vm_step.specs.declared.ending.Plain.{Plain as PlainEnding}
use Rattle.vm_step.specs.declared.ending.Ending.TheVariants as endings
use Rattle.vm_store.specs.declared.cell.Cell.{Cell}
use Rattle.vm_offend.specs.Held.{ending_of, Follows}
use Rattle.law_laid.specs.Apart.{IsSameBut}
use Rattle.cap_text.specs.Generate.{GenerateRequest, generate_text}
use Rattle.card_verify.proofs.Accepting.{accepted-typed}
use Rattle.cap_gen.proofs.Placed.{at_each}
use Rattle.capcheck_core.specs.declared.verdict.Verdict.{Verdict}
use Rattle.capcheck_core.specs.declared.verdict.Verdict.TheVariants.{Done, Refused, Limit, Malformed, Usage, ReadFault, StoreFault, Memory}
use Rattle.capcheck_core.specs.Generate.{generated, run_of, short_result, short_ended, AreBegun, AreRun, ComeOfRuns, HaveEntries, GeneratesIn, IsKeptOrBegun}
use Rattle.capcheck_core.specs.Generate.{IsNew, ComesOfRun, RunsAll, TellsParts}
use Rattle.capcheck_core.specs.Defend.{ComesTo, method_entered}
use Rattle.capcheck_core.specs.Outside.{CardWords, Outside, Untouched, card_words}
use Rattle.capcheck_core.specs.Run.{HoldsWords}
use Rattle.capcheck_core.specs.Stores.{AreInStoreOrder, AreStored}
use Rattle.capcheck_core.specs.Transform.{StopsBefore}
use Rattle.xf_share.specs.Ends.{HaveCardTypings}
use Rattle.capcheck_core.proofs.Ran.{holds, wider}
use Rattle.capcheck_core.proofs.Trials.{infos_counted, with_made, has_new, never_at_fault}
use Rattle.capcheck_core.proofs.WorldComplete.{one_package}

-- ---- what is not brought into the form is not generated

module _ (g : GenerateRequest) (w : Linked) (linked : IsLinked (generated g.seed) roles w) (typed : WorldsAreTyped) where
  -- there is no library
  one_info : length w.infos ≡ 1
  one_info = infos_counted (generated g.seed) roles w linked

  pub unbrought : (before after : Outside) (verdict : Verdict) → Untouched before after → StopsBefore (generated g.seed) w verdict
      → GeneratesIn g w before after verdict
  unbrought before after (Done text) same stops = absurd stops
  unbrought before after (Malformed text) same stops = absurd stops
  unbrought before after Usage same stops = absurd stops
  unbrought before after ReadFault same stops = absurd stops
  unbrought before after StoreFault same stops = absurd stops
  unbrought before after Memory same stops = inl same
  unbrought before after (Limit text) same stops = (same, stops)
  unbrought before after (Refused text) same (inl says) = let library = says.is.first.asked.before in absurd (omega (arith, library, one_info))
  unbrought before after (Refused text) same (inr says) =
      absurd (says.is.first.lacks (typed g.seed w linked says.is.method says.is.first.asked.method))

-- ---- the methods begin

abbrev all_methods : List MethodRec
all_methods = map method_record (range_with_len 0 200)

entered : map (λ k. method_numbered all_methods 0 0 k) (range_with_len 0 200) ≡ map (λ k. Some k) (range_with_len 0 200)
entered = refl

found : map (λ k. slice_get all_methods k) (range_with_len 0 200) ≡ map (λ k. Some (method_record k)) (range_with_len 0 200)
found = refl

-- the reason by three tests: whether the class is an interface, and whether the arguments are shorts
abbrev told : Bool → Bool → Bool → Option StartFault
told i a b = if not (not i) then Some NotStatic else or_room (if a then (if b then None else Some 1) else Some 0) None

no_reason : (w : Linked) (k : ℕ) → is_interface w.classes 0 ≡ false → k < 200 → method_fault w (method_record k) (run_of k).args ≡ None
no_reason w k class below = grind (arith)

-- the class of a method with code is no interface
class_of_first : (w : Linked) → IsWorld w → w.methods ≡ all_methods → is_interface w.classes 0 ≡ false
class_of_first w world methods =
    let there : slice_get w.methods 0 ≡ Some (method_record 0) = ap (λ (ms : List MethodRec). slice_get ms 0) methods in
    no_interface (is_interface w.classes 0)
    (All-slice_get (IsMethod w.infos w.pools w.classes) w.methods 0 (method_record 0) world.methods there).code
  where
    no_interface : (b : Bool) → MatchBool b (◌≡◌ {A = ℕ} 12 0) (IsCodeLength 12) → b ≡ false
    no_interface true none = absurd (cc)
    no_interface false has = refl

pub entries : (seed : ℕ) (w : Linked) → IsLinked (generated seed) roles w → IsWorld w → HaveEntries w
entries seed w linked world k below =
    let methods : w.methods ≡ all_methods = linked.lists.methods ∙ methods_are seed in
    let one : length w.infos ≡ 1 = infos_counted (generated seed) roles w linked in
    let last : length w.infos - 1 ≡ 0 = omega (arith, one) in
    let class : is_interface w.classes 0 ≡ false = class_of_first w world methods in
    record {
      number = k;
      entered = ap (λ (ms : List MethodRec). method_numbered ms (length w.infos - 1) 0 k) methods
          ∙ (ap (λ n. method_numbered all_methods n 0 k) last ∙ at_each (λ j. method_numbered all_methods 0 0 j) (λ j. Some j) None k entered below);
      begins = ap (λ (ms : List MethodRec). entry_fault w (run_of k).args (slice_get ms k)) methods
          ∙ (ap (entry_fault w (run_of k).args) (at_each (λ j. slice_get all_methods j) (λ j. Some (method_record j)) None k found below)
          ∙ no_reason w k class below);
    }

-- so do they in a world that differs in their code alone
pub new_entries : (w new : Linked) → HaveEntries w → IsSameBut w new → length new.infos ≡ length w.infos → StartsRefuseAlike w
    → MethodsAreNumberedAlike w
    → HaveEntries new
new_entries w new have same counted alike numbered k below =
    let entry = have k below in
    record {
      number = entry.number;
      entered = ap (λ n. method_numbered new.methods (n - 1) 0 k) counted ∙ (sym (numbered new (length w.infos - 1) 0 k same) ∙ entry.entered);
      begins = sym (alike new entry.number (run_of k).args same) ∙ entry.begins;
    }

-- ---- a run

abbrev plain_of : Ending → PlainEnding
plain_of (endings.Plain p) = p
plain_of (endings.Faulted f) = plains.Spent

-- the short of what a run comes to is that of its ending
pub ended_short : (o : Outcome Cell) (ending : PlainEnding) → answer (ending_of o) ≡ endings.Plain ending → short_result o ≡ short_ended ending
ended_short x ending is = grind (arith)

-- ---- the runs so far

-- the first methods were run, and the memory holds the words of what the last of them left; where none was, it is as it was
pub record HaveRun (w : Linked) (k : ℕ) (begun c : CardWords) (sum : ℤ) : Type 0 where
  pub outcomes : List (Outcome Cell)
  pub count : length outcomes ≡ k
  pub come : ComeOfRuns w outcomes
  pub total : sum ≡ fold ◌+ℤ◌ (pos 0) (map short_result outcomes)
  pub holds : ((k ≡ 0) × (c ≡ begun)) ⊎ IsSomeAnd (slice_get outcomes (k - 1)) (HoldsWords w c)

pub none_run : (w : Linked) (c : CardWords) → HaveRun w 0 c c (pos 0)
none_run w c = record { outcomes = []; count = refl; come = λ k o there. absurd (cc); total = refl; holds = inl (refl, refl) }

-- what stands in a list to which one is appended
there_or_last : {X : Type 0} (xs : List X) (x y : X) (n : ℕ) → slice_get (xs ++ x ∷ []) n ≡ Some y
    → (slice_get xs n ≡ Some y) ⊎ ((n ≡ length xs) × (x ≡ y))
there_or_last [] x y zero there = inr (refl, cc)
there_or_last [] x y (suc n) there = absurd (cc)
there_or_last (z ∷ zs) x y zero there = inl there
there_or_last (z ∷ zs) x y (suc n) there = grind (arith, suc, there_or_last zs x y n there)

come_more : (w : Linked) (os : List (Outcome Cell)) (o : Outcome Cell) → ComeOfRuns w os → ComesTo w (run_of (length os)) o
    → ComeOfRuns w (os ++ o ∷ [])
come_more w os o come comes k p there = grind (arith, there_or_last, length)

sum_more : (start : ℤ) (os : List (Outcome Cell)) (o : Outcome Cell) → fold ◌+ℤ◌ start (map short_result (os ++ o ∷ []))
    ≡ fold ◌+ℤ◌ start (map short_result os) +ℤ short_result o
sum_more start [] o = refl
sum_more start (p ∷ ps) o = sum_more (start +ℤ short_result p) ps o

-- one more
pub one_run_more : (w : Linked) (k : ℕ) (begun before c : CardWords) (sum more : ℤ) (ending : PlainEnding) → HaveRun w k begun before sum
    → ComesOfRun w k c ending
    → more ≡ sum +ℤ short_ended ending → HaveRun w (k + 1) begun c more
one_run_more w k begun before c sum more ending have is adds =
    let o = is.outcome in
    let os = have.outcomes in
    let count : length (os ++ o ∷ []) ≡ k + 1 = length_push os o ∙ ap (λ n. n + 1) have.count in
    let there : slice_get (os ++ o ∷ []) k ≡ Some o =
    subst (λ n. slice_get (os ++ o ∷ []) n ≡ Some o) have.count (slice_get-farther os (o ∷ []) 0 (length os) (omega arith)) in
    let before_it : (k + 1) - 1 ≡ k = omega arith in
    let old_sum : ℤ = fold ◌+ℤ◌ (pos 0) (map short_result os) in
    record {
      outcomes = os ++ o ∷ [];
      count = count;
      come = come_more w os o have.come (subst (λ n. ComesTo w (run_of n) o) (sym have.count) is.comes);
      total = adds ∙ (ap (λ s. s +ℤ short_ended ending) have.total ∙ (ap (λ s. old_sum +ℤ s) (sym is.short) ∙ sym (sum_more (pos 0) os o)));
      holds = inr (subst (λ n. IsSomeAnd (slice_get (os ++ o ∷ []) n) (HoldsWords w c)) (sym before_it)
          (subst (λ found. IsSomeAnd found (HoldsWords w c)) (sym there) is.holds));
    }

pub all_run : (w : Linked) (begun c : CardWords) (sum : ℤ) → HaveRun w 200 begun c sum → AreRun w c sum
all_run w begun c sum have = grind (arith, holds)

-- they are begun, or the memory is as it was
pub some_run : (w : Linked) (k : ℕ) (begun c : CardWords) (sum : ℤ) → k ≤ 200 → HaveRun w k begun c sum → IsKeptOrBegun w begun c
some_run w k begun c sum most have = by have.holds
  where
    by : ((k ≡ 0) × (c ≡ begun)) ⊎ IsSomeAnd (slice_get have.outcomes (k - 1)) (HoldsWords w c) → IsKeptOrBegun w begun c
    by (inl none) = inl none.1
    by (inr holds) = from (slice_get have.outcomes (k - 1)) refl holds
      where
        from : (o : Option (Outcome Cell)) → slice_get have.outcomes (k - 1) ≡ o → IsSomeAnd o (HoldsWords w c) → IsKeptOrBegun w begun c
        from None at h = absurd h
        from (Some o) at h =
            let below = slice_get_within have.outcomes (k - 1) o at in
            let count = have.count in
            inr (record {
              outcomes = have.outcomes;
              last = k - 1;
              few = omega (arith, most, below, count);
              count = have.count ∙ omega (arith, below, count);
              come = have.come;
              holds = holds;
            })

pub begun_unless : {A E : Type 0} (w : Linked) (begun c : CardWords) (end : Result A E) → IsKeptOrBegun w begun c → OnErr end (IsKeptOrBegun w begun c)
begun_unless w begun c x some = grind (arith)

pub run_begun : (w : Linked) (c : CardWords) (sum : ℤ) → AreRun w c sum → AreBegun w c
run_begun w c sum run = grind (arith, holds)

-- in the whole memory of a card
pub run_wider : (w : Linked) (ram heap fields others : List ℕ) (sum : ℤ) → length fields ≡ static_cells w → AreRun w (card_words ram heap fields) sum
    → AreRun w (card_words ram heap (fields ++ others)) sum
run_wider w ram heap fields others sum long run = record {
  outcomes = run.outcomes;
  count = run.count;
  come = run.come;
  total = run.total;
  holds = by (slice_get run.outcomes 199) run.holds;
}
  where
    by : (o : Option (Outcome Cell)) → IsSomeAnd o (HoldsWords w (card_words ram heap fields))
        → IsSomeAnd o (HoldsWords w (card_words ram heap (fields ++ others)))
    by None h = h
    by (Some o) h = wider w ram heap fields others o long h

pub begun_wider : (w : Linked) (ram heap fields others : List ℕ) (begun : CardWords) → length fields ≡ static_cells w
    → IsKeptOrBegun w begun (card_words ram heap fields) → IsKeptOrBegun w (card_words begun.ram begun.heap (begun.statics ++ others))
    (card_words ram heap (fields ++ others))
begun_wider w ram heap fields others begun long (inl same) = inl (ap (λ (c : CardWords). card_words c.ram c.heap (c.statics ++ others)) same)
begun_wider w ram heap fields others begun long (inr some) = inr (record {
  outcomes = some.outcomes;
  last = some.last;
  few = some.few;
  count = some.count;
  come = some.come;
  holds = by (slice_get some.outcomes some.last) some.holds;
})
  where
    by : (o : Option (Outcome Cell)) → IsSomeAnd o (HoldsWords w (card_words ram heap fields))
        → IsSomeAnd o (HoldsWords w (card_words ram heap (fields ++ others)))
    by None h = h
    by (Some o) h = wider w ram heap fields others o long h

pub begun_in_card : {E : Type 0} (w : Linked) (ram heap fields others whole : List ℕ) (begun : CardWords) (end : Result ℤ E)
    → length fields ≡ static_cells w
    → begun.statics ++ others ≡ whole → OnErr end (IsKeptOrBegun w begun (card_words ram heap fields))
    → OnErr end (IsKeptOrBegun w (card_words begun.ram begun.heap whole) (card_words ram heap (fields ++ others)))
begun_in_card w ram heap fields others whole begun (Ok sum) long is some = tt {0}
begun_in_card w ram heap fields others whole begun (Err e) long is some =
    subst (λ all. IsKeptOrBegun w (card_words begun.ram begun.heap all) (card_words ram heap (fields ++ others))) is
    (begun_wider w ram heap fields others begun long some)

-- what comes of one run, from what its machine did
pub one_run : (w : Linked) (k number : ℕ) (m after : Machine) (ram heap statics ram_after heap_after statics_after : List ℕ) (ending : PlainEnding)
    → method_entered w (run_of k).entry ≡ Some number → IsBegun w number (run_of k).args m ram heap statics
    → Follows w 1000 (running (entry_state tagged w number (run_of k).args)) after ram_after heap_after statics_after ending
    → ComesOfRun w k (card_words ram_after heap_after statics_after) ending
one_run w k number m after ram heap statics ram_after heap_after statics_after ending entered begun follows = record {
  outcome = follows.after;
  comes = record { number = number; entered = entered; begins = begun.begins; runs = follows.runs };
  short = ended_short follows.after ending follows.answers;
  holds = holds w after ram_after heap_after statics_after follows.after follows.words;
}

-- ---- what is told

-- one package alone has no library
no_library : (ls : List PackageRecord) (last p : PackageRecord) → p ∷ [] ≡ ls ++ last ∷ [] → [] ≡ ls
no_library [] last p e = refl
no_library (l ∷ []) last p e = absurd (cc)
no_library (l ∷ m ∷ ls) last p e = absurd (cc)

-- the package that the parts stand for is the one that was made, and makes this world
module _ (seed : ℕ) (w : Linked) (parts : List Lent) (made : PackageRecord) (all : List PackageRecord) (t : IsTransformed (generated seed) roles w parts)
    (stands : StandsFor parts made) (are : all ≡ made ∷ [])
  where
    alone : all ≡ and_last t.keeps.libraries t.keeps.made
    alone =
        with_made (generated seed) roles w parts t made all stands
        (λ ls last e. are ∙ ap (λ before. before ++ made ∷ []) (no_library ls last (package_record seed) e))

    pub is_new : (new : Linked) (size : ℕ) → IsLinked all roles new → size ≡ length made.methods.info → IsNew seed w parts new size
    is_new new size linked is_size =
        let has = has_new (generated seed) roles w parts t all new alone linked in
        let same = one_package parts made has.0.keeps.made stands has.0.keeps.stands in
        record { made = has.0; world = has.1; is_size = is_size ∙ ap (λ (p : PackageRecord). length p.methods.info) same }

    pub is_linked : (fault : LinkFault) → LinkTells all roles (Err (ends.Fault fault)) → ⊥
    is_linked fault tells = never_at_fault (generated seed) roles w parts t all fault alone tells

-- with the world, of which all is accepted
pub run_in_card : {E : Type 0} (w : Linked) (ram heap fields others : List ℕ) (end : Result ℤ E) → length fields ≡ static_cells w
    → HaveCardTypings w → AreAccepted w
    → TypedCodeIsFaultFree w → IfOk end (AreRun w (card_words ram heap fields)) → IfOk end (RunsAll w (card_words ram heap (fields ++ others)))
run_in_card w ram heap fields others (Ok sum) long carded accepted free run =
    (carded, free Bottom (accepted-typed w accepted), run_wider w ram heap fields others sum long run)
run_in_card w ram heap fields others (Err e) long carded accepted free run = tt {0}

-- as many packages make the new world
new_counted : (seed : ℕ) (w new : Linked) (parts : List Lent) (size : ℕ) → IsLinked (generated seed) roles w → IsNew seed w parts new size
    → length new.infos ≡ length w.infos
new_counted seed w new parts size linked n =
    let t = n.made in
    let none = no_library t.keeps.libraries t.keeps.source (package_record seed) t.keeps.are in
    ap (λ (v : Linked). length v.infos) (sym n.world)
    ∙ (infos_counted (and_last t.keeps.libraries t.keeps.made) roles t.keeps.world t.keeps.linked
    ∙ (ap (λ (ls : List PackageRecord). length (ls ++ t.keeps.made ∷ [])) (sym none) ∙ sym (infos_counted (generated seed) roles w linked)))

pub entries_there : (seed : ℕ) (w new : Linked) (parts : List Lent) (size : ℕ) → IsLinked (generated seed) roles w → IsWorld w
    → IsNew seed w parts new size → StartsRefuseAlike w → MethodsAreNumberedAlike w → HaveEntries new
entries_there seed w new parts size linked world n alike numbered =
    new_entries w new (entries seed w linked world) (subst (λ v. IsSameBut w v) n.world n.made.anew.same) (new_counted seed w new parts size linked n)
    alike numbered

pub carded_there : (seed : ℕ) (w new : Linked) (parts : List Lent) (size : ℕ) → IsNew seed w parts new size → HaveCardTypings new
carded_there seed w new parts size n = subst HaveCardTypings n.world n.made.keeps.carded

pub told_of : {E : Type 0} (seed : ℕ) (w new : Linked) (parts : List Lent) (before c : CardWords) (size made_size : ℕ) (sum : ℤ) (text : Result _ E)
    (verdict : Verdict)
    → IsNew seed w parts new made_size → size ≡ length (method_info seed) → RunsAll new c sum
    → IfOk text (λ t. string_bytes t ≡ generate_text size made_size sum)
    → MatchResult text (λ t. verdict ≡ Done t) (λ _. verdict ≡ Memory) → TellsParts seed w parts before c verdict
told_of seed w new parts before c size made_size sum (Ok t) verdict n is runs says result =
    let there : RunsAll n.made.keeps.world c sum = subst (λ v. RunsAll v c sum) (sym n.world) runs in
    subst (TellsParts seed w parts before c) (sym result) (
      n.made,
      record {
        carded = there.0;
        fault_free = there.1;
        sum = sum;
        run = there.2;
        prints = says ∙ (ap (λ k. generate_text k made_size sum) is ∙ ap (λ k. generate_text (length (method_info seed)) k sum) n.is_size);
      },
    )
told_of seed w new parts before c size made_size sum (Err e) verdict n is runs says result =
    let there : RunsAll n.made.keeps.world c sum = subst (λ v. RunsAll v c sum) (sym n.world) runs in
    subst (TellsParts seed w parts before c) (sym result) (n.made, inr (run_begun n.made.keeps.world c sum there.2))

-- without memory for its world nothing is run
pub untold_there : (seed : ℕ) (w : Linked) (parts : List Lent) (c : CardWords) → IsTransformed (generated seed) roles w parts
    → TellsParts seed w parts c c Memory
untold_there seed w parts c made = (made, inl refl)

-- all is stored, and of it is told
pub all_told : (g : GenerateRequest) (w : Linked) (parts stores : List Lent) (before after : Outside) (verdict : Verdict)
    → AreInStoreOrder parts (Some roles) stores
    → AreStored g.out stores before.folders after.folders → TellsParts g.seed w parts before.card after.card verdict
    → GeneratesIn g w before after verdict
all_told g w parts stores before after (Done text) order stored told =
    record { stored = record { stores = stores; brings = record { parts = parts; made = told.0; order = order }; stored = stored }; told = told.1 }
all_told g w parts stores before after Memory order stored told =
    inr (record { stored = record { stores = stores; brings = record { parts = parts; made = told.0; order = order }; stored = stored }; card = told.1 })
all_told g w parts stores before after (Refused text) order stored told = absurd told.1
all_told g w parts stores before after (Limit text) order stored told = absurd told.1
all_told g w parts stores before after (Malformed text) order stored told = absurd told.1
all_told g w parts stores before after Usage order stored told = absurd told.1
all_told g w parts stores before after ReadFault order stored told = absurd told.1
all_told g w parts stores before after StoreFault order stored told = absurd told.1

-- ---- the generated package

pub source_is : (seed : ℕ) (lent : List Lent) (source : PackageRecord) → PartsStand → lent ≡ generated_parts seed → StandsFor lent source
    → source ≡ package_record seed
source_is seed lent source law are stands =
    one_package lent source (package_record seed) stands (subst (λ ps. StandsFor ps (package_record seed)) (sym are) (law seed))

pub have_source : (seed : ℕ) (lent : List Lent) → PartsStand → lent ≡ generated_parts seed → HavePackage lent
have_source seed lent law are = record { made = package_record seed; stands = subst (λ ps. StandsFor ps (package_record seed)) (sym are) (law seed) }

pub never_unlinked : (seed : ℕ) (all : List PackageRecord) (fault : LinkFault) → PackagesLink → all ≡ generated seed
    → LinkTells all roles (Err (ends.Fault fault)) → ⊥
never_unlinked seed all fault law are tells =
    let world = law seed in
    linked_faultless (generated seed) roles world.0 fault world.1 (subst (λ ps. LinkTells ps roles (Err (ends.Fault fault))) are tells)
