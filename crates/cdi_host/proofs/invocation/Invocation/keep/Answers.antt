use Rattle.std.proofs.Common.{◌∙◌, Result, Ok, Err, OnOk, is_some, ap}
use Rattle.cdi_base.specs.Maps.{at}
use Rattle.cdi_machine.specs.World.{Invocation}
use Rattle.cdi_host.specs.Invocation.{with_data}
use Rattle.cdi_host.proofs.Data.{put_is, has_is}
use Rattle.cdi_host.proofs.invocation.Invocation.keep.Goals as goal

-- what holds where it went well, from what does so
on_ok : {A E P Q : Type 0} (r : Result A E) → (P → Q) → OnOk r P → OnOk r Q
on_ok (Ok a) f h = f h
on_ok (Err e) f h = tt

pub returns-in-Some-clause-ok : goal.returns-in-Some-clause-ok
returns-in-Some-clause-ok c =
    let old : Invocation = record {
      target = c.self.inside.target;
      role = c.self.inside.role;
      members = c.self.inside.members;
      parameters = c.self.inside.parameters;
      references = c.self.inside.references;
      data_of = c.in-Some.data.value;
      completed = c.self.inside.completed;
    } in
    on_ok c.put.result
    (λ e.
    ap (λ d. let i : Invocation = record old { data_of = d } in i)
    (e ∙ put_is c.in-Some.data.value c.args.key c.args.value)
    ∙ ap (with_data c.args.key c.args.value) (rw c.in-Some.is at c.self.view_is))
    (rw c.deref_mut.ensures.value at c.put.ensures.ok)

pub returns-in-Some-clause-there : goal.returns-in-Some-clause-there
returns-in-Some-clause-there c =
    λ there.
    (rw c.deref_mut.ensures.value at c.put.ensures.there)
    (has_is c.in-Some.data.value c.args.key
    ∙ ap (λ (i : Invocation). is_some (at i.data_of c.args.key)) (rw c.in-Some.is at c.self.view_is) ∙ there)
