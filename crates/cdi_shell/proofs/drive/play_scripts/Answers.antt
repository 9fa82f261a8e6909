use Rattle.std.proofs.Common.{rules, ◌≡◌, ◌<◌, ◌∙◌, ◌++◌, ◌∷◌, [], List, Ok, true, false, refl, sym, ap, length, length-append, is_some, arith}
use Rattle.std.specs.Prelude.{fold}
use Rattle.cdi_bodies.specs.Table.{entries_of}
use Rattle.cdi_bodies.specs.Gives.{place_of}
use Rattle.cdi_script.specs.Next.{next_of}
use Rattle.cdi_script.proofs.Boxed.{made_post}
use Rattle.cdi_script.proofs.Following.{nil_of}
use Rattle.cdi_script.proofs.Within.{lies}
use Rattle.cdi_prepare.specs.declared.scripts.NamedScript.{NamedScript}
use Rattle.cdi_prepare.specs.Scripts.{added, place_under, registered}
use Rattle.cdi_base.specs.Chosen.{chosen}
use Rattle.cdi_shell.specs.Drive.{Streams}
use Rattle.cdi_prepare.proofs.Holding.{holds_add, same_length, same_place, add_known, add_new, holds_all, not_full}
use Rattle.cdi_shell.proofs.Picked.{picked}
use Rattle.cdi_shell.proofs.Scripted.{accepted_plays, refusable, refused_plays}
use Rattle.cdi_shell.proofs.drive.play_scripts.OwnLists.{own-1, at-1-1, own-2, at-2-1}
use Rattle.cdi_shell.proofs.drive.play_scripts.Goals as goal

pub loop-named-preserved-then-is_some : goal.loop-named-preserved-then-is_some
loop-named-preserved-then-is_some g c =
    let inv = c.loop-named.invariant in
    let there : is_some (place_of (entries_of c.loop-named.bodies) c.in-Some.named.name) ≡ true = search rules in
    let known : is_some (place_under inv.0 c.in-Some.named.name) ≡ true = sym (ap is_some (same_place (entries_of c.loop-named.bodies) inv.0 c.in-Some.named.name inv.1)) ∙ there in (
      inv.0,
      inv.1,
      ap (λ (f : List NamedScript). fold added f c.next.new.self.rest.items) (sym (add_known inv.0 c.in-Some.named known)) ∙ ap (λ (t : List NamedScript). fold added inv.0 t) (sym c.in-Some.ensures.steps.0) ∙ inv.2,
      omega (arith, inv.3, ap (λ (t : List NamedScript). length t) c.in-Some.ensures.steps.0),
    )

pub add-requires-clause-within : goal.add-requires-clause-within
add-requires-clause-within g c = λ fields view act h.
    let given = made_post own-1 at-1-1 c.into_dyn_box.ensures.1 (fields, (view, tt)) (Ok act) h in
    let is : act ≡ next_of c.in-Some.named.script fields.now view.now = rw c.in_ok-new.ensures.ok at given in
    lies c.in-Some.named.script c.in_ok-shape.shape fields.now view.now act c.in_ok-shape.ensures is

pub loop-named-preserved : goal.loop-named-preserved
loop-named-preserved g c =
    let inv = c.loop-named.invariant in
    let absent : is_some (place_of (entries_of c.loop-named.bodies) c.in-Some.named.name) ≡ false = search rules in
    let new : is_some (place_under inv.0 c.in-Some.named.name) ≡ false = sym (ap is_some (same_place (entries_of c.loop-named.bodies) inv.0 c.in-Some.named.name inv.1)) ∙ absent in (
      inv.0 ++ c.in-Some.named ∷ [],
      holds_add (entries_of c.loop-named.bodies) (entries_of c.add.new.self) inv.0 c.in-Some.named c.in_ok-shape.shape c.into_dyn_box.result inv.1 c.in-Ok.ensures.ok c.in_ok-shape.ensures
          (λ fields view act q. let given = made_post own-1 at-1-1 c.into_dyn_box.ensures.1 (fields, (view, tt)) (Ok act) q in rw c.in_ok-new.ensures.ok at given),
      ap (λ (f : List NamedScript). fold added f c.next.new.self.rest.items) (sym (add_new inv.0 c.in-Some.named new)) ∙ ap (λ (t : List NamedScript). fold added inv.0 t) (sym c.in-Some.ensures.steps.0) ∙ inv.2,
      omega (arith, inv.3, ap (λ (t : List NamedScript). length t) c.in-Some.ensures.steps.0, length-append inv.0 (c.in-Some.named ∷ [])),
    )

pub unreachable-requires-in-Err-Full : goal.unreachable-requires-in-Err-Full
unreachable-requires-in-Err-Full g c =
    let inv = c.loop-named.invariant in
    let few : length (entries_of c.loop-named.bodies) < 4096 = omega (arith, inv.3, ap (λ (t : List NamedScript). length t) c.in-Some.ensures.steps.0, same_length (entries_of c.loop-named.bodies) inv.0 inv.1) in
    not_full _ _ (c.in-Err-Full.ensures.full.0 (search rules)) few

pub live-requires-clause-drives : goal.live-requires-clause-drives
live-requires-clause-drives g c = c.in-Ok-accept.ensures.ok.drives

pub returns-in_ok-new-in-Ok-accept-clause-plays : goal.returns-in_ok-new-in-Ok-accept-clause-plays
returns-in_ok-new-in-Ok-accept-clause-plays g c =
    let inv = c.loop-named.invariant in
    let entries = entries_of c.loop-named.bodies in
    let scripts = c.args.prepared.scripts.items in
    let all : c.loop-named.named-iterator.rest.items ≡ [] = nil_of c.loop-named.named-iterator.rest.items (let z : c.loop-named.named-iterator.rest.len ≡ 0 = c.in-None.ensures.steps.0 in omega arith) in
    let streams : Streams = record { unread = g.R.Source.unread c.args.input.now; unread_after = g.R.Source.unread c.live.new.input; held = g.W.Sink.written c.args.output.now; held_after = g.W.Sink.written c.live.new.output } in
    accepted_plays c.args.settings c.args.prepared.deployment entries (registered scripts) streams c.live.result
    (holds_all entries inv.0 c.loop-named.named-iterator.rest.items scripts inv.1 inv.2 all)
    c.new-chooser.result c.in-Ok-accept.tables
    (λ candidates count i h.
    let given =
    made_post own-2 at-2-1 c.into_dyn_box-in_ok-new-in-Ok-accept.ensures.1 (candidates, (count, tt)) i
    (picked c.new-chooser.result c.into_dyn_box-in_ok-new-in-Ok-accept.result c.new-chooser.ensures candidates count i h) in
    let is : i ≡ chosen c.args.settings.order candidates = rw c.in_ok-new-in-Ok-accept.ensures.ok at given in
    is)
    c.requires.formed c.in-Ok-accept.ensures.ok c.live.ensures.lives

pub returns-in-Err-clause-plays : goal.returns-in-Err-clause-plays
returns-in-Err-clause-plays g c =
    let inv = c.loop-named.invariant in
    let entries = entries_of c.loop-named.bodies in
    let scripts = c.args.prepared.scripts.items in
    let all : c.loop-named.named-iterator.rest.items ≡ [] = nil_of c.loop-named.named-iterator.rest.items (let z : c.loop-named.named-iterator.rest.len ≡ 0 = c.in-None.ensures.steps.0 in omega arith) in
    let streams : Streams = record { unread = g.R.Source.unread c.args.input.now; unread_after = g.R.Source.unread c.args.input.now; held = g.W.Sink.written c.args.output.now; held_after = g.W.Sink.written c.refuse_unaccepted.new.output } in
    refused_plays c.args.settings c.args.prepared.deployment entries (registered scripts) streams c.refuse_unaccepted.result
    (holds_all entries inv.0 c.loop-named.named-iterator.rest.items scripts inv.1 inv.2 all)
    c.in-Err.unaccepted c.in-Err.ensures.err refl c.refuse_unaccepted.ensures.refuses

pub refuse_unaccepted-requires : goal.refuse_unaccepted-requires
refuse_unaccepted-requires g c =
    let inv = c.loop-named.invariant in
    let entries = entries_of c.loop-named.bodies in
    let scripts = c.args.prepared.scripts.items in
    let all : c.loop-named.named-iterator.rest.items ≡ [] = nil_of c.loop-named.named-iterator.rest.items (let z : c.loop-named.named-iterator.rest.len ≡ 0 = c.in-None.ensures.steps.0 in omega arith) in
    refusable c.args.prepared.deployment entries (registered scripts)
    (holds_all entries inv.0 c.loop-named.named-iterator.rest.items scripts inv.1 inv.2 all) c.requires.formed c.in-Err.unaccepted c.in-Err.ensures.err
