-- The keys of the version that the file says.
use Rattle.std.proofs.Common.{◌≡◌, sym, option_map}
use Rattle.toml.specs.View.{view, table_view}
use Rattle.aerodrome_file.proofs.Versions.{keys_of, same_version}
use Rattle.aerodrome_file.proofs.version.version_in.Goals as goal

pub returns-clause-keys : goal.returns-clause-keys
returns-clause-keys c =
    let given = same_version (option_map (λ v. view v.now) c.get-2.result) c.in_ok-version.version
    c.in_ok-version.ensures.value c.in_ok-version.ensures.range in
    let first : c.version_of.result ≡ c.in_ok-version.version =
    rw (c.version_of.ensures, c.get.ensures, ← c.get-2.ensures) given in
    let known = c.in_ok-only_in.ensures in
    keys_of c.in_ok-version.version (table_view c.args.table.now) (rw first at (sym known))
