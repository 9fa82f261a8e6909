use Rattle.std.proofs.Common.{◌≡◌, ◌∙◌, nat_eq, sym, ap, arith}
use Rattle.std.proofs.lemmas.List.{take_all}
use Rattle.cdi_name_check.proofs.NameSteps.{one_taken, none_taken, and_all, and_none}
use Rattle.cdi_event_tables.proofs.EventClasses.{all_named, is_named_among, takes}
use Rattle.cdi_event_tables.specs.Events.{is_event_class}
use Rattle.cdi_body_check.specs.WrittenNames.{is_concrete}
use Rattle.cdi_types.specs.Line.{class_named}
use Rattle.cdi_event_tables.proofs.event_classes.event_classes.Goals as goal
use Rattle.cdi_event_tables.proofs.event_classes.event_classes.Goals.{then-is_concrete+in_ok-insert, else-is_concrete}

pub loop-class-preserved : goal.loop-class-preserved
loop-class-preserved c =
    let l = c.loop-class in
    let all = c.args.classes.now in
    let class = c.class-item.result in
    let told : c.is_concrete.result ≡ is_event_class all class.name =
    c.is_concrete.ensures ∙ ap is_concrete (c.class.ensures ∙ ap (λ cs. class_named cs class.name) c.requires) in
    elim c.if-is_concrete.branch [
      | then-is_concrete+in_ok-insert w ↦ rw w.names-is (one_taken (takes all) all l.class-index class c.loop-class-test.true c.class-item.is l.names l.invariant class.name _
          (λ q. and_all (nat_eq class.name q) (is_event_class all class.name) (sym told ∙ w.if-is_concrete.true)) w.in_ok-insert.ensures.updates.0)
      | else-is_concrete w ↦ rw w.names-is (none_taken (takes all) all l.class-index class c.loop-class-test.true c.class-item.is l.names l.invariant
          (λ q. and_none (nat_eq class.name q) (is_event_class all class.name) (sym told ∙ w.if-is_concrete.false)))
    ]

pub returns : goal.returns
returns c =
    let l = c.loop-class in
    let all = c.args.classes.now in
    record { same = λ name. l.invariant.same name ∙ ap (λ cs. is_named_among all cs name) (take_all l.class-index all (omega arith)) ∙ all_named all name }
