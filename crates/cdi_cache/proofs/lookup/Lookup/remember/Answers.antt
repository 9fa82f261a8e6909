use Rattle.std.proofs.Common.{◌∙◌, sym, ap, subst}
use Rattle.cdi_resolve.specs.Resolution.{resolution}
use Rattle.cdi_cache.specs.Answers.{IsTold}
use Rattle.cdi_cache.proofs.Remembered.{told_after}
use Rattle.cdi_cache.proofs.lookup.Lookup.remember.Goals as goal

pub invariant_of-self : goal.invariant_of-self
invariant_of-self g c =
    let beans = g.R.Resolving.enabled c.self.inside.resolver in
    let is = subst (IsTold beans) (sym c.in-Ok.ensures) (c.requires ∙ ap (λ r. resolution c.args.ty c.args.qualifiers.now (g.R.Resolving.enabled r)) (sym c.self.view_is)) in
    told_after beans c.self.inside.answers c.args.hash c.in-Ok.answer c.self.invariant is c.put.result c.put.new.self c.put.ensures.entries c.put.ensures.err

pub invariant_of-self-in-Ok-2 : goal.invariant_of-self-in-Ok-2
invariant_of-self-in-Ok-2 g c =
    let beans = g.R.Resolving.enabled c.self.inside.resolver in
    let is = subst (IsTold beans) (sym c.in-Ok.ensures) (c.requires ∙ ap (λ r. resolution c.args.ty c.args.qualifiers.now (g.R.Resolving.enabled r)) (sym c.self.view_is)) in
    told_after beans c.self.inside.answers c.args.hash c.in-Ok.answer c.self.invariant is c.put.result c.put.new.self c.put.ensures.entries c.put.ensures.err

pub invariant_of-self-in-Ok-3 : goal.invariant_of-self-in-Ok-3
invariant_of-self-in-Ok-3 g c =
    let beans = g.R.Resolving.enabled c.self.inside.resolver in
    let is = subst (IsTold beans) (sym c.in-Ok.ensures) (c.requires ∙ ap (λ r. resolution c.args.ty c.args.qualifiers.now (g.R.Resolving.enabled r)) (sym c.self.view_is)) in
    told_after beans c.self.inside.answers c.args.hash c.in-Ok.answer c.self.invariant is c.put.result c.put.new.self c.put.ensures.entries c.put.ensures.err
