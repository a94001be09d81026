-- What the machine's code does in a run that meets no fault.
use Rattle.std.proofs.Common.{◌≡◌, ◌∙◌, sym, ap, subst, ℕ, ◌+◌, ◌-◌, ◌<◌, ◌≤◌, Ok, Err, List, length, refl, arith}
use Rattle.std.proofs.lemmas.Int.{ints}
use Rattle.std.specs.Prelude.{ℤ, pos, negsuc, ◌^◌, nat_abs, IfSome, T}
use Rattle.std.specs.Int.{w16, w32}
use lib.Signed.{non_neg}
use mir.Val.{Fits, to_z, of_z}
use Rattle.jc_decode.specs.declared.insn.CodeEnd.{CodeEnd}
use Rattle.cap_bare.specs.declared.format.Bare.{Bare}
use Rattle.cap_bare.specs.declared.instruction.Instruction.{Instruction}
use Rattle.jc_decode.specs.declared.insn.Insn.{Insn}
use Rattle.jc_decode.specs.Places.{place_after}
use Rattle.cap_bare.specs.Effects.{register_of, cells_taken, cells_given}
use Rattle.cap_bare.specs.Format.{instruction_of}
use Rattle.cap_bare.specs.Code.{fetched, IsTargetPlace}
use Rattle.cap_bare.specs.Typing.{register_count}
use Rattle.cap_bare.specs.Machine.{BareFrame, BareState, running, returned, Lead, leads, gives, frame, acted, acts, branch_target, place_number}
use Rattle.cap_bare.specs.Machine.{settled, step, IsFault}
use Rattle.cap_bare.specs.Machine.{IsSafe}
use Rattle.cap_bare.specs.Leading.{CanAct, state_in_frame}
use Rattle.cap_bare.proofs.Instructions.{here, here-inside, stands-here}
use Rattle.cap_bare.proofs.Places.{place-from}
use Rattle.cap_bare.proofs.Running.{IsActing, acts_on, acts_out, acting, Sound, sound, settled-from, safe-step}

module _ (code : List ℕ) (bare : Bare) (s : BareState) (safe : IsSafe code bare s) where
  pub never-none : (end : CodeEnd) → fetched code s.place ≡ Err end → ⊥
  never-none end e = let k = sound code bare s (safe-step code bare s safe) in let found = k.1.found in cc

  module _ (i : Insn) (e : fetched code s.place ≡ Ok i) where
    pub sound-at : Sound code bare s i
    sound-at = grind (arith, sound code bare s (safe-step code bare s safe))

    settles : (l : Lead) → acts code (here s.place i) s.frame ≡ l → IsFault (settled code bare l) → ⊥
    settles l e h = grind (arith, sound-at, safe-step)

    pub can-act : length s.frame.registers ≡ register_count bare → bare.max_stack ≤ 15 → CanAct (instruction_of i) s.frame
    can-act registers low = record {
      local = subst (λ (n : ℕ). IfSome (register_of (instruction_of i)) (λ x. x < n)) (sym registers) sound-at.local;
      cells = sound-at.cells;
      room = by_lead _ (acting code (here s.place i) s.frame sound-at.cells) (settles _ refl);
    }
      where
        by_lead : (l : Lead) → IsActing code (here s.place i) s.frame l → (IsFault (settled code bare l) → ⊥)
            → 0 < cells_given (instruction_of i)
            → length s.frame.stack - cells_taken (instruction_of i) + cells_given (instruction_of i) ≤ 15
        by_lead _ (acts_on to f w r c) h lt = let k = (settled-from code bare to f h).room in omega arith
        by_lead _ (acts_out n z) h lt = absurd (omega arith)

    -- where the step leads to a place
    pub record Going (to : ℤ) (f : BareFrame) : Type 0 where
      pub place : ℕ
      pub is : to ≡ pos place
      pub small : place < length code
      pub stepped : step code bare s ≡ running (state_in_frame place f)

    going-at : (to : ℤ) (f : BareFrame) → IsTargetPlace code to → step code bare s ≡ running (state_in_frame (place_number to) f) → Going to f
    going-at (pos p) f h e = grind (arith, here-inside code h.0.place h.0 (stands-here code h.0 h.1), length)
    going-at (negsuc n) f h e = absurd h

    -- what the code makes of the frame, with this instruction and this target
    module _ (k : Instruction) (t : ℤ) (same : k ≡ instruction_of i) (target : t ≡ branch_target code (here s.place i)) where
      abbrev made : Lead
      made = acted k t (place_after (here s.place i)) s.frame.registers s.frame.stack

      is-made : (l : Lead) → l ≡ made → acts code (here s.place i) s.frame ≡ l
      is-made l a = sym (a ∙ (rw (same, target) refl))

      pub step-to : (to : ℤ) (f : BareFrame) → leads to f ≡ made → Going to f
      step-to to f a = grind (arith, is-made, settled-from, settles, going-at, place-from, sound-at)

      pub step-out : (n : ℤ) → gives n ≡ made → step code bare s ≡ returned n
      step-out n a = sound-at.is ∙ ap (settled code bare) (is-made (gives n) a)

  -- a step keeps the number of registers
  pub registers-kept : (t : BareState) → step code bare s ≡ running t → length t.frame.registers ≡ length s.frame.registers
  registers-kept t e =
      let k = sound code bare s (safe-step code bare s safe) in
      by_lead k.0 _ (acting code (here s.place k.0) s.frame k.1.cells) (sym k.1.is ∙ e)
    where
      by_lead : (i : Insn) (l : Lead) → IsActing code (here s.place i) s.frame l → settled code bare l ≡ running t
          → length t.frame.registers ≡ length s.frame.registers
      by_lead i _ (acts_on to f w r c) h =
          let k = settled-from code bare to f (λ fault. subst IsFault h fault) in
          let same : state_in_frame (place_number to) f ≡ t = cc (k.is, h) in
          ap (λ (u : BareState). length u.frame.registers) (sym same) ∙ r
      by_lead i _ (acts_out n z) h = absurd (cc)

-- a place that the machine's word holds
pub word-is : (z : ℤ) (p : ℕ) → z ≡ pos p → p < 2 ^ 15 → to_z w32 (of_z w32 z) ≡ pos p
word-is z p e h = omega (arith, ints)

pub place-fits : (z : ℤ) (p : ℕ) → z ≡ pos p → p < 2 ^ 15
    → T (non_neg (to_z w32 (of_z w32 z))) × Fits w16 (nat_abs (to_z w32 (of_z w32 z)))
place-fits z p e h = rw (word-is z p e h) (tt, omega arith)

-- a frame is its registers and its stack
pub frame-is : (f : BareFrame) (registers stack : List ℤ) → f.registers ≡ registers → f.stack ≡ stack → f ≡ frame registers stack
frame-is f registers stack r s = ap (λ (xs : List ℤ). frame xs f.stack) r ∙ ap (frame registers) s
