-- A method with code: the homes of its locals, the symbols to which it is rewritten, and what is told where a limit is passed.
use Rattle.std.proofs.Common.{arith}
use Rattle.std.proofs.Common.{◌≡◌, ◌⊎◌, ℕ, ◌<◌, ◌≤◌, List, length, All, Option, Some, None, option_map, Result, Ok, Err, IsSomeAnd}
use Rattle.std.proofs.Common.{slice_get, refl, sym, subst, inl, inr}
use Rattle.std.specs.Prelude.{◌↔◌}
use Rattle.std.proofs.Math.Nat.{eq-or-lt_of_le}
use Rattle.jc_base.specs.declared.record.MethodRec.{MethodRec}
use Rattle.jc_base.specs.Linked.{IsMethod}
use Rattle.jc_base.specs.World.{Linked}
use Rattle.jc_control.specs.Method.{Method, IsMethodOf, method_in, method_with}
use Rattle.jc_decode.specs.declared.symbols.Laid.{Laid}
use Rattle.jc_decode.specs.declared.symbols.Symbols.{Symbols}
use Rattle.jc_decode.specs.Laws.{InstructionsAreListed}
use Rattle.jc_decode.specs.Symbols.{IsItem, plain_size}
use Rattle.jc_rules.specs.Demand.{Frame}
use Rattle.jc_rules.specs.Typing.{state_at}
use Rattle.xf_homes.specs.declared.finding.HomeEnd.{HomeEnd}
use Rattle.xf_homes.specs.declared.home.Home.{Home}
use Rattle.xf_homes.specs.Answer.{TellsHomes}
use Rattle.xf_homes.specs.Order.{AreHomes, register_sum}
use Rattle.xf_code.specs.declared.rewriting.RewriteEnd.{RewriteEnd}
use Rattle.xf_code.specs.declared.rewriting.RewriteEnd.TheVariants.{StackLimit}
use Rattle.xf_emission.specs.Emission.{AreSymbolsOf}
use Rattle.xf_emission.specs.Live.{KeepsLive}
use Rattle.xf_emission.specs.Numbers.{HasNumbers}
use Rattle.law_laid.specs.Laws.{LaidIsTyped}
use Rattle.xf_layout.specs.declared.laying.LayEnd.{LayEnd}
use Rattle.xf_layout.specs.declared.laying.LayEnd.TheVariants.{MethodLong, Memory as NoBytes}
use Rattle.xf_layout.specs.Shortest.{ReachesTooFar, StandsShortest}
use Rattle.law_rewritten_typing.specs.Typed.{HasTypingByHomes}
use Rattle.law_transform.specs.Laid.{IsLaidFor}
use Rattle.xf_last.specs.Fits.{FitsMethod}
use Rattle.xf_last.proofs.Passing.{method-of}
use Rattle.xf_pack.specs.declared.transforming.MethodLimit.TheVariants as limits
use Rattle.xf_pack.specs.Limits.{HasHomes}
use Rattle.xf_pack.specs.Passes.{IsRewrittenTo, IsTypedBy}
use Rattle.xf_pack.specs.Unlaid.{IsUnlaid, TellsUnlaid, of_homes, of_layout, of_rewriting}
use Rattle.xf_pack.proofs.Sound.{is-sound}

-- ---- a method by its number

module _ (w : Linked) (n : ℕ) (rec : MethodRec) (here : slice_get w.methods n ≡ Some rec) where
  its : (P : Method → Type 0) → IsSomeAnd (method_in w n) P → P (method_with w n rec)
  its P h = subst (λ (o : Option MethodRec). IsSomeAnd (option_map (method_with w n) o) P) here h

  of-it : (P : Method → Type 0) → P (method_with w n rec) → IsSomeAnd (method_in w n) P
  of-it P h = subst (λ (o : Option MethodRec). IsSomeAnd (option_map (method_with w n) o) P) (sym here) h

  its-record : (P : MethodRec → Type 0) → IsSomeAnd (slice_get w.methods n) P → P rec
  its-record P h = subst (λ (o : Option MethodRec). IsSomeAnd o P) here h

  -- ---- its homes, and the symbols by these

  module _ (is : IsMethod w.infos w.pools w.classes rec) (filled : IsSomeAnd (slice_get w.methods n) (λ r. 0 < r.code_len))
      (typing : List (Option Frame)) (typed : IsSomeAnd (method_in w n) (λ m. IsTypedBy w m typing)) where
    its-code : IsMethodOf w (method_with w n rec)
    its-code = method-of w n rec here is (its-record (λ r. 0 < r.code_len) filled)

    its-typing : IsTypedBy w (method_with w n rec) typing
    its-typing = its (λ m. IsTypedBy w m typing) typed

    pub homes-told : (end : HomeEnd) → IsSomeAnd (method_in w n) (λ m. TellsHomes w m (state_at typing) end) → TellsUnlaid w n (of_homes end)
    homes-told x tells = grind (arith, of-it, its-code, its-typing, its)

    module _ (homes : List Home) (are : IsSomeAnd (method_in w n) (λ m. AreHomes w m (state_at typing) homes)) (few : register_sum homes ≤ 255) where
      its-homes : HasHomes w (method_with w n rec)
      its-homes = record { typing = typing; typed = its-typing.typed; homes = homes; are = its (λ m. AreHomes w m (state_at typing) homes) are; few = few }

      pub symbols-told : (end : RewriteEnd)
          → IsSomeAnd (slice_get w.methods n) (λ r. (◌≡◌ {A = Result Symbols RewriteEnd} (Err end) (Err StackLimit)) ↔ (r.max_stack ≡ 255))
          → TellsUnlaid w n (of_rewriting end)
      symbols-told x limit = grind (arith, of-it, its-code, its-homes, its-record)

      room : (symbols : Symbols) → (◌≡◌ {A = Result Symbols RewriteEnd} (Ok symbols) (Err StackLimit)) ↔ (rec.max_stack ≡ 255)
          → rec.max_stack ≤ 255 → rec.max_stack < 255
      room symbols limit byte = by (eq-or-lt_of_le byte)
        where
          by : (rec.max_stack ≡ 255) ⊎ (rec.max_stack < 255) → rec.max_stack < 255
          by (inl e) = absurd (ok-err (limit.1 e))
            where
              ok-err : ◌≡◌ {A = Result Symbols RewriteEnd} (Ok symbols) (Err StackLimit) → ⊥
              ok-err e = absurd (cc)
          by (inr lt) = lt

      pub symbols-known : (symbols : Symbols)
          → rec.max_stack ≤ 255
          → IsSomeAnd (slice_get w.methods n) (λ r. (◌≡◌ {A = Result Symbols RewriteEnd} (Ok symbols) (Err StackLimit)) ↔ (r.max_stack ≡ 255))
          → IsSomeAnd (method_in w n) (λ m. AreSymbolsOf w m (state_at typing) homes symbols)
          → IsSomeAnd (method_in w n) (λ m. HasTypingByHomes w m homes symbols)
          → IsSomeAnd (method_in w n) (λ m. KeepsLive m m.rec.handlers symbols.ranges)
          → IsSomeAnd (method_in w n) (λ m. HasNumbers m.rec homes symbols)
          → IsSomeAnd (method_in w n) (λ m. All (IsItem m.code symbols.items) symbols.items)
          → IsSomeAnd (method_in w n) (IsRewrittenTo w symbols)
      symbols-known symbols byte limit rewritten types live numbers items =
          of-it (IsRewrittenTo w symbols) (record {
            method = its-code;
            typing = typing;
            typed = its-typing;
            homes = homes;
            are = its (λ m. AreHomes w m (state_at typing) homes) are;
            few = few;
            room =
                room symbols (its-record (λ r. (◌≡◌ {A = Result Symbols RewriteEnd} (Ok symbols) (Err StackLimit)) ↔ (r.max_stack ≡ 255)) limit)
                byte;
            rewritten = its (λ m. AreSymbolsOf w m (state_at typing) homes symbols) rewritten;
            types = its (λ m. HasTypingByHomes w m homes symbols) types;
            live = its (λ m. KeepsLive m m.rec.handlers symbols.ranges) live;
            numbers = its (λ m. HasNumbers m.rec homes symbols) numbers;
            items = its (λ m. All (IsItem m.code symbols.items) symbols.items) items;
          })

-- ---- the bytes of the symbols

module _ (w : Linked) (m : Method) (symbols : Symbols) (known : IsRewrittenTo w symbols m) where
  too-long : (k : ℕ) → ReachesTooFar symbols.items → k ≡ plain_size symbols.items → IsUnlaid w (limits.MethodLong k) m
  too-long k long size = record {
    method = known.method;
    passes = record {
      homes = record { typing = known.typing; typed = known.typed.typed; homes = known.homes; are = known.are; few = known.few };
      room = known.room;
      symbols = symbols;
      rewritten = known.rewritten;
      long = long;
      size = size;
    };
  }

  pub laid-for : (laid : Laid) → StandsShortest m.code symbols laid → length laid.code ≤ 32767 → IsLaidFor w m laid
  laid-for laid stands short = grind (arith, room)

  pub laid-sound : InstructionsAreListed → LaidIsTyped w → IsMethod w.infos w.pools w.classes m.rec → (laid : Laid)
      → StandsShortest m.code symbols laid → length laid.code ≤ 32767 → FitsMethod m.rec laid
  laid-sound listed landed is laid stands short =
      is-sound w m (state_at known.typing) known.homes symbols laid _ listed landed known.method is.result known.typed.typed.least.typing known.rewritten
      known.types known.live
      known.numbers known.few stands.2 short

pub bytes-told : (w : Linked) (n : ℕ) (symbols : Symbols) → IsSomeAnd (method_in w n) (IsRewrittenTo w symbols) → (end : LayEnd)
    → ((k : ℕ) → ◌≡◌ {A = Result Laid LayEnd} (Err end) (Err (MethodLong k)) → ReachesTooFar symbols.items × (k ≡ plain_size symbols.items))
    → TellsUnlaid w n (of_layout end)
bytes-told w n symbols known (MethodLong k) long = by (method_in w n) known
  where
    by : (o : Option Method) → IsSomeAnd o (IsRewrittenTo w symbols) → IsSomeAnd o (IsUnlaid w (limits.MethodLong k))
    by None h = absurd h
    by (Some m) h = let told = long k refl in too-long w m symbols h k told.0 told.1
bytes-told w n symbols known NoBytes long = tt {0}
