-- One edit of a loop over a table, and the edits of one method.
use Rattle.std.proofs.Common.{◌≡◌, ℕ, ◌+◌, ◌*◌, List, ◌∷◌, length, Option, true, false, refl, arith}
use Rattle.cap_class.specs.ClassFormat.{Class, is_interface}
use Rattle.cap_desc.specs.DescriptorFormat.{MethodDescriptor}
use Rattle.cap_bytes.specs.Edit.{patched, patched_all}
use Rattle.cap_bytes.proofs.Patches.{patched_append}
use Rattle.cap_renewal.specs.declared.new_methods.NewMethod.{NewMethod}
use Rattle.cap_renewal.specs.NewMethods.{new_numbers}
use Rattle.cap_renewal.specs.Along.{table_edits}
use Rattle.cap_renewal.specs.ClassEdits.{class_edits, classes_edits}
use Rattle.cap_renewal.specs.DescriptorEdits.{edits_to, methods_edits}

pub one_edit : (to : ℕ → ℕ) (at o : ℕ) (os all now new whole : List ℕ) → all ≡ o ∷ os
    → new ≡ patched (record { at = at; number = to o }) now
    → patched_all (table_edits to at all) now ≡ whole → patched_all (table_edits to (at + 2) os) new ≡ whole
one_edit to at o os all now new whole e p h = rw p (rw e at h)

pub one_method : (news : List (Option NewMethod)) (at : ℕ) (m : MethodDescriptor) (ms all : List MethodDescriptor) (now new whole : List ℕ)
    → all ≡ m ∷ ms → new ≡ patched_all (edits_to at (new_numbers news m)) now
    → patched_all (methods_edits news at all) now ≡ whole → patched_all (methods_edits news (at + 12) ms) new ≡ whole
one_method news at m ms all now new whole e p h = grind (arith, patched_append)

pub one_class : (to : ℕ → ℕ) (c : Class) (cs all : List Class) (now new whole : List ℕ) → all ≡ c ∷ cs
    → new ≡ patched_all (class_edits to c) now
    → patched_all (classes_edits to all) now ≡ whole → patched_all (classes_edits to cs) new ≡ whole
one_class to c cs all now new whole e p h = grind (arith, patched_append)

pub interface_kept : (to : ℕ → ℕ) (c : Class) (now : List ℕ) → is_interface c.flags ≡ true → now ≡ patched_all (class_edits to c) now
interface_kept to c now e = rw e refl

pub two_tables : (to : ℕ → ℕ) (c : Class) (now middle new : List ℕ) → is_interface c.flags ≡ false
    → middle ≡ patched_all (table_edits to (c.offset + 10) c.public) now
    → new ≡ patched_all (table_edits to (c.offset + 10 + 2 * length c.public) c.visible) middle → new ≡ patched_all (class_edits to c) now
two_tables to c now middle new e p q = grind (arith, patched_append)
