use Rattle.std.proofs.lemmas.Result.{err_from_is_err_and}
use Rattle.std.specs.Prelude.{List, ℕ, Err}
use Rattle.cap_package.specs.PackageRecord.{PackageRecord}
use Rattle.first_fault.specs.First.{AllEmpty}
use Rattle.jc_link.specs.declared.linking.Resolved.{Resolved}
use Rattle.jc_link.specs.World.{TellsFirst, LinkTells, table_conditions, member_conditions}
use Rattle.jc_link.specs.Known.{AreNamesOf, IsTableOf}
use Rattle.jc_link.proofs.Steps.{along, back, table_tells, members_tell}
use Rattle.jc_link.proofs.linking.link.Goals as goal

pub resolve-requires-clause-names : goal.resolve-requires-clause-names
resolve-requires-clause-names c =
    let n = c.in_ok-tabled.tabled.names in
    back c.args.packages.now c.args.roles n c.in_ok-tabled.ensures.names (λ (xs : List PackageRecord) (rs : List ℕ). AreNamesOf xs rs n)
    c.in_ok-tabled.ensures.names

pub resolve-requires-clause-table : goal.resolve-requires-clause-table
resolve-requires-clause-table c =
    let x = c.in_ok-tabled.tabled in
    back c.args.packages.now c.args.roles x.names c.in_ok-tabled.ensures.names (λ (xs : List PackageRecord) (rs : List ℕ). IsTableOf xs rs x.classes)
    c.in_ok-tabled.ensures.table

pub made-requires-clause-names : goal.made-requires-clause-names
made-requires-clause-names c =
    let n = c.in_ok-tabled.tabled.names in
    back c.args.packages.now c.args.roles n c.in_ok-tabled.ensures.names (λ (xs : List PackageRecord) (rs : List ℕ). AreNamesOf xs rs n)
    c.in_ok-tabled.ensures.names

pub made-requires-clause-table : goal.made-requires-clause-table
made-requires-clause-table c =
    let x = c.in_ok-tabled.tabled in
    back c.args.packages.now c.args.roles x.names c.in_ok-tabled.ensures.names (λ (xs : List PackageRecord) (rs : List ℕ). IsTableOf xs rs x.classes)
    c.in_ok-tabled.ensures.table

pub made-requires-clause-classes : goal.made-requires-clause-classes
made-requires-clause-classes c =
    let n = c.in_ok-tabled.tabled.names in
    back c.args.packages.now c.args.roles n c.in_ok-tabled.ensures.names (λ (xs : List PackageRecord) (rs : List ℕ). AllEmpty (table_conditions xs rs))
    c.in_ok-tabled.ensures.first

pub returns-in_err-tabled : goal.returns-in_err-tabled
returns-in_err-tabled c =
    let p = err_from_is_err_and c.from_residual.result c.from_residual.ensures.1 in
    rw (p.1, p.2) (record { tells = table_tells c.args.packages.now c.args.roles c.in_err-tabled.field-0.0 c.in_err-tabled.ensures.first })

pub returns-in_err-resolved : goal.returns-in_err-resolved
returns-in_err-resolved c =
    let n = c.in_ok-tabled.tabled.names in
    let p = err_from_is_err_and c.from_residual-in_err-resolved.result c.from_residual-in_err-resolved.ensures.1 in
    rw (p.1, p.2) (record {
      tells = members_tell c.args.packages.now c.args.roles c.in_err-resolved.field-0.0 c.in_ok-tabled.ensures.first
          (along c.args.packages.now c.args.roles n c.in_ok-tabled.ensures.names
          (λ (xs : List PackageRecord) (rs : List ℕ). TellsFirst {A = Resolved} (member_conditions xs rs) (Err c.in_err-resolved.field-0.0))
          c.in_err-resolved.ensures.first);
    })

pub returns : goal.returns
returns c =
    let n = c.in_ok-tabled.tabled.names in
    record {
      tells = along c.args.packages.now c.args.roles n c.in_ok-tabled.ensures.names
          (λ (xs : List PackageRecord) (rs : List ℕ). LinkTells xs rs c.made.result) c.made.ensures;
    }
