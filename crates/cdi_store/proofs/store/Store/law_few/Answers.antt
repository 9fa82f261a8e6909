use Rattle.std.proofs.Common.{◌<◌, ◌^◌, length, subst, arith}
use Rattle.cdi_base.specs.Maps.{at}
use Rattle.cdi_store.specs.Owned.{dependents_in}
use Rattle.cdi_store.proofs.Owned.{few-dependents}
use Rattle.cdi_store.proofs.store.Store.law_few.Goals as goal

pub returns : goal.returns
returns c =
    let n = c.args.number in
    let sound = c.self.invariant.sound in
    subst (λ k. length (dependents_in (at k.instances n)) < 2 ^ 32) c.self.view_is
    (let few = few-dependents _ _ n sound.positive c.self.invariant.owned in let most = sound.most in omega arith)
