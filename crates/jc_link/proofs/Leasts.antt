-- The least fault of the handlers and of the pool entries of several packages.
use Rattle.std.proofs.Common.{◌≡◌, ℕ, ◌+◌, List, ◌∷◌, Option}
use Rattle.std.proofs.lemmas.List.Sums.{fold-append}
use Rattle.cap_package.specs.PackageRecord.{PackageRecord}
use Rattle.jc_base.specs.declared.record.StaticRec.{StaticRec}
use Rattle.jc_base.specs.Class.{ClassTable}
use Rattle.jc_resolve.specs.declared.fault.LinkFault.{LinkFault}
use Rattle.jc_resolve.specs.Fault.{link_place}
use Rattle.first_fault.specs.Least.{least_from}
use Rattle.jc_link.specs.Pools.{places_from, places_after, member_fault}
use Rattle.jc_link.specs.Catches.{handlers_from, handlers_after, catch_fault}

pub least_handlers : (all : List PackageRecord) (t : ClassTable) (k : ℕ) (p : PackageRecord) (ps : List PackageRecord) (before : Option LinkFault)
    → least_from link_place before (catch_fault all t) (handlers_after k (p ∷ ps)) ≡ least_from link_place
    (least_from link_place before (catch_fault all t) (handlers_from k p.pool 0 p.methods.handlers)) (catch_fault all t) (handlers_after (k + 1) ps)
least_handlers all t k p ps before = fold-append _ before (handlers_from k p.pool 0 p.methods.handlers) (handlers_after (k + 1) ps)

pub least_entries : (all : List PackageRecord) (t : ClassTable) (statics : List StaticRec) (k : ℕ) (p : PackageRecord) (ps : List PackageRecord)
    (before : Option LinkFault)
    → least_from link_place before (member_fault all t statics) (places_after k (p ∷ ps)) ≡ least_from link_place
    (least_from link_place before (member_fault all t statics) (places_from k 0 p.pool)) (member_fault all t statics) (places_after (k + 1) ps)
least_entries all t statics k p ps before = fold-append _ before (places_from k 0 p.pool) (places_after (k + 1) ps)
