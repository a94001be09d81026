-- The fields and methods of several classes, one class after the other.
use Rattle.std.specs.Prelude.{ℕ, Bool, List, [], ◌∷◌, ◌++◌, if◌then◌else◌}
use Rattle.cap_desc.specs.DescriptorFormat.{ClassDescriptor, FieldDescriptor, MethodDescriptor}

-- the methods of the classes
abbrev pub methods_of : List ClassDescriptor → List MethodDescriptor
methods_of [] = []
methods_of (c ∷ cs) = c.methods ++ methods_of cs

-- the methods of the classes whose references are in a set
abbrev pub methods_in : (ℕ → Bool) → List ClassDescriptor → List MethodDescriptor
methods_in set [] = []
methods_in set (c ∷ cs) = if set c.class_ref then c.methods ++ methods_in set cs else methods_in set cs

-- those of the other classes
abbrev pub methods_but : (ℕ → Bool) → List ClassDescriptor → List MethodDescriptor
methods_but set [] = []
methods_but set (c ∷ cs) = if set c.class_ref then methods_but set cs else c.methods ++ methods_but set cs

-- the fields of the classes
abbrev pub fields_of : List ClassDescriptor → List FieldDescriptor
fields_of [] = []
fields_of (c ∷ cs) = c.fields ++ fields_of cs
