use Rattle.std.proofs.Common.{refl}
use Rattle.cdi_beans.proofs.interceptors.enabled_interceptor.Goals as goal

pub returns : goal.returns
returns c = rw (← c.indexed.view_is) (record {
  index = refl;
  name = refl;
  bound = rw c.as_slice-uses.ensures at c.in_ok-new.ensures;
  invoke = refl;
  construct = refl;
  post = refl;
  pre = refl;
})
