use Rattle.cdi_resolve.proofs.bean_tables.enabled_beans.Goals as goal

pub enabled-requires : goal.enabled-requires
enabled-requires c = c.law_forest.ensures c.args.deployment.now c.args.list.now c.requires
