use Rattle.std.proofs.Common.{◌≡◌, rules}
use Rattle.cdi_base.specs.BuiltIn.{number_of}
use Rattle.cdi_base.proofs.BuiltIns.{stands}
use Rattle.cdi_base.proofs.built_in.BuiltIn.name.Goals as goal

pub returns-clause-stands : goal.returns-clause-stands
returns-clause-stands c =
    let is : c.under.result ≡ number_of c.args.self = search rules in
    rw is (stands c.args.self)
