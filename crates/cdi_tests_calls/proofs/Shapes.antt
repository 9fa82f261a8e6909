-- The acts of a body that counts lie in its shape.
use Rattle.std.proofs.Common.{◌≡◌, ℕ, true, refl, rules}
use Rattle.cdi_base.specs.declared.act.Act.{Act}
use Rattle.cdi_base.specs.declared.act.Act.TheVariants as acts
use Rattle.cdi_bodies.specs.declared.view.View.{View}
use Rattle.cdi_bodies.specs.Shape.{in_shape}
use Rattle.cdi_tests_calls.specs.Plain.{IsPlain, plain_shape}

pub plain_in_shape : (field method : ℕ) (view : View) (act : Act) → IsPlain field method act
    → in_shape (plain_shape field method) view act ≡ true
plain_in_shape field method view (acts.Set name v) h = search (rules, h)
plain_in_shape field method view (acts.Own name args) h = search (rules, h)
plain_in_shape field method view (acts.Give v) h = refl
plain_in_shape field method view (acts.Call _ _ _) h = elim h [ ]
plain_in_shape field method view (acts.Read _) h = elim h [ ]
plain_in_shape field method view (acts.Write _ _) h = elim h [ ]
plain_in_shape field method view (acts.Fire _ _ _) h = elim h [ ]
plain_in_shape field method view (acts.Proceed _) h = elim h [ ]
plain_in_shape field method view (acts.Find _) h = elim h [ ]
plain_in_shape field method view (acts.Keep _ _) h = elim h [ ]
plain_in_shape field method view (acts.Peek _) h = elim h [ ]
plain_in_shape field method view (acts.Destroy _) h = elim h [ ]
plain_in_shape field method view (acts.Throw _) h = elim h [ ]
