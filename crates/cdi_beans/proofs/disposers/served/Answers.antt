use Rattle.std.proofs.Common.{◌∙◌, List, [], true≢false, refl, sym, subst}
use Rattle.cdi_types.specs.ListsThose.{ListsThose}
use Rattle.cdi_types.specs.Declarations.{declarations_of}
use Rattle.cdi_types.specs.declared.declaration.TypeDeclaration.{TypeDeclaration}
use Rattle.cdi_bean_rules.specs.Disposers.{Serves}
use Rattle.cdi_beans.proofs.Served.{serves_next, passes_next}
use Rattle.cdi_beans.proofs.disposers.served.Goals as goal
use Rattle.cdi_beans.proofs.disposers.served.Goals.{then-serves+in_ok-push, else-serves}

pub loop-member-init : goal.loop-member-init
loop-member-init c = rw c.empty-names.ensures (record { producers = []; served = ListsThose.none; are = refl })

pub loop-member-preserved : goal.loop-member-preserved
loop-member-preserved c =
    let i = c.loop-member in
    let tables = c.args.tables.now in
    let types = declarations_of tables.deployment.now in
    let m = c.args.disposer.now in
    let ms = c.args.members.now in
    let x = c.member-item.result in
    let served_by : List TypeDeclaration → Type 0 = λ ts. Serves ts tables.qualifiers.now m x in
    elim c.if-serves.branch [
      | then-serves+in_ok-push w ↦ rw w.names-is (serves_next types tables.qualifiers.now m ms i.member-index x c.loop-member-test.true c.member-item.is i.names w.push.new.self (subst served_by tables.types_are (c.serves.ensures.0 w.if-serves.true)) (rw w.name.ensures at w.in_ok-push.ensures.ok) i.invariant)
      | else-serves w ↦ rw w.names-is (passes_next types tables.qualifiers.now m ms i.member-index x c.loop-member-test.true c.member-item.is i.names (λ does. true≢false (sym (c.serves.ensures.1 (subst served_by (sym tables.types_are) does)) ∙ w.if-serves.false)) i.invariant)
    ]
