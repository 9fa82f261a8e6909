-- That what a deployment has forms sets, so that its equations are facts that a field can hold.
use Rattle.std.specs.Coded as coded
use Rattle.cdi_deployment.specs.DataCode.{coded_data}

pub ruleset sets = (coded.codes, coded.Coded-set, coded_data)
