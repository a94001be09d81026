-- The sets of the offsets at which methods and static fields stand, one after the other.
use Rattle.std.proofs.Common.{◌≡◌, ℕ, Bool, true, false, ◌||◌, eqb, List, [], ◌∷◌, map, refl, ap, ◌∙◌}
use mathlib.Core.Path.{fun_ext}
use Rattle.std.proofs.Math.Bool.{or-false}
use Rattle.cap_desc.specs.DescriptorFormat.{MethodDescriptor, FieldDescriptor}
use Rattle.cap_package.specs.HeaderChecks.{is_static}
use Rattle.cap_class.specs.ClassFormat.{Class}
use Rattle.cap_package.specs.NameChecks.{is_method_at, is_class_at}
use Rattle.cap_package.specs.StaticChecks.{image_offset, is_static_at}
use Rattle.offset_set.specs.Sets.{also, either, is_among}
use Rattle.offset_set.specs.Tallies.{Tallied, tally_of}
use Rattle.cap_package.specs.Reaches.{method_start}
use Rattle.offset_set.proofs.Tallying.{turned}

-- the starts of methods that were counted are where methods stand
among_methods : (ms : List MethodDescriptor) (offset : ℕ) → is_among (map method_start ms) offset ≡ is_method_at ms offset
among_methods [] offset = refl
among_methods (m ∷ ms) offset = ap (λ b. eqb m.method_offset offset || b) (among_methods ms offset)

pub methods_met : (met : ℕ → Bool) (t : Tallied) (ms : List MethodDescriptor) → met ≡ t.met → t ≡ tally_of (map method_start ms) →
    met ≡ is_method_at ms
methods_met met t ms e h = e ∙ ap (λ (u : Tallied). u.met) h ∙ fun_ext (among_methods ms)

pub all_statics : (these : ℕ → Bool) → either these (is_static_at []) ≡ these
all_statics these = fun_ext (λ offset. or-false (these offset))

pub more_statics : (these : ℕ → Bool) (f : FieldDescriptor) (fs : List FieldDescriptor) → is_static f.flags ≡ true
    → either (also (image_offset f) these) (is_static_at fs) ≡ either these (is_static_at (f ∷ fs))
more_statics these f fs e = fun_ext (λ offset. rw e (turned (eqb (image_offset f) offset) (these offset) (is_static_at fs offset)))

pub no_more_statics : (these : ℕ → Bool) (f : FieldDescriptor) (fs : List FieldDescriptor) → is_static f.flags ≡ false
    → either these (is_static_at fs) ≡ either these (is_static_at (f ∷ fs))
no_more_statics these f fs e = fun_ext (λ offset. rw e refl)

pub all_classes : (these : ℕ → Bool) → either these (is_class_at []) ≡ these
all_classes these = fun_ext (λ offset. or-false (these offset))

pub more_classes : (these : ℕ → Bool) (c : Class) (cs : List Class) →
    either (also c.offset these) (is_class_at cs) ≡ either these (is_class_at (c ∷ cs))
more_classes these c cs = fun_ext (λ offset. turned (eqb c.offset offset) (these offset) (is_class_at cs offset))

pub ruleset filling = (all_statics, more_statics, no_more_statics)
