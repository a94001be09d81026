-- What packages export is read in a table of the exported classes.
use Rattle.std.proofs.Common.{◌≡◌, ℕ, List, map, Option, slice_get, option_map, option_and_then, sym, ap, ◌∙◌, arith}
use Rattle.std.proofs.lemmas.Option.{slice_get-map}
use Rattle.cap_pool.specs.Export.{field_offset_in, method_offset_in}
use Rattle.cap_pool.specs.ExportFormat.{Exported}
use Rattle.cap_package.specs.PackageRecord.{PackageRecord}
use Rattle.cap_package.specs.Agreement.{or_none}
use Rattle.jc_resolve.specs.Numbers.{exported_classes}
use Rattle.jc_resolve.specs.References.{exported_class, exported_field, exported_method}

-- ---- a class by its package and its token

entry_read : {X : Type 0} (f : X → Exported) (token : ℕ) (o : Option (List X)) (q : Option PackageRecord)
    → option_map (map f) o ≡ option_map (λ (p : PackageRecord). or_none p.export) q
    → option_map f (option_and_then (λ l. slice_get l token) o) ≡ option_and_then (λ (p : PackageRecord). slice_get (or_none p.export) token) q
entry_read f token z u h = grind (arith, slice_get-map, slice_get)

pub exported_there : {X : Type 0} (f : X → Exported) (ps : List PackageRecord) (exports : List (List X)) (k token : ℕ)
    → map (map f) exports ≡ exported_classes ps
    → option_map f (option_and_then (λ l. slice_get l token) (slice_get exports k)) ≡ exported_class ps k token
exported_there f ps exports k token h =
    entry_read f token (slice_get exports k) (slice_get ps k)
    (sym (slice_get-map (map f) exports k) ∙ ap (λ l. slice_get l k) h ∙ slice_get-map (λ (p : PackageRecord). or_none p.export) ps k)

-- ---- a member by the tokens of its class and its own

field_by : (class token : ℕ) (q : Option PackageRecord) → option_and_then (λ (p : PackageRecord). field_offset_in (or_none p.export) class token) q
    ≡ option_and_then (λ (c : Exported). slice_get c.fields token) (option_and_then (λ (p : PackageRecord). slice_get (or_none p.export) class) q)
field_by class token z = grind (arith)

method_by : (class token : ℕ) (q : Option PackageRecord) → option_and_then (λ (p : PackageRecord). method_offset_in (or_none p.export) class token) q
    ≡ option_and_then (λ (c : Exported). slice_get c.methods token) (option_and_then (λ (p : PackageRecord). slice_get (or_none p.export) class) q)
method_by class token z = grind (arith)

pub field_there : (ps : List PackageRecord) (k class token : ℕ)
    → exported_field ps k class token ≡ option_and_then (λ (c : Exported). slice_get c.fields token) (exported_class ps k class)
field_there ps k class token = field_by class token (slice_get ps k)

pub method_there : (ps : List PackageRecord) (k class token : ℕ)
    → exported_method ps k class token ≡ option_and_then (λ (c : Exported). slice_get c.methods token) (exported_class ps k class)
method_there ps k class token = method_by class token (slice_get ps k)
