use Rattle.std.proofs.Common.{rules, ◌≡◌, ◌<◌, ◌∙◌, ◌++◌, ◌∷◌, [], List, Ok, true, false, refl, sym, ap, length, length-append, is_some, arith}
use Rattle.std.specs.Prelude.{fold}
use Rattle.cdi_bodies.specs.Table.{entries_of}
use Rattle.cdi_bodies.specs.Gives.{place_of}
use Rattle.cdi_body_check.specs.Shapes.{shape_of}
use Rattle.cdi_script.specs.Next.{next_of}
use Rattle.cdi_script.proofs.Boxed.{made_post}
use Rattle.cdi_script.proofs.Following.{nil_of}
use Rattle.cdi_script.proofs.Within.{lies}
use Rattle.cdi_prepare.specs.declared.scripts.NamedScript.{NamedScript}
use Rattle.cdi_prepare.specs.Scripts.{added, place_under, registered}
use Rattle.cdi_prepare.proofs.Holding.{holds_add, same_length, same_place, add_known, add_new, holds_all, not_full, same_shape}
use Rattle.cdi_report.specs.Reviews.{names_of}
use Rattle.cdi_report.proofs.reviewing.review_of.OwnLists.{own-1, at-1-1}
use Rattle.cdi_report.proofs.reviewing.review_of.Goals as goal

pub loop-named-preserved-then-is_some : goal.loop-named-preserved-then-is_some
loop-named-preserved-then-is_some c =
    let inv = c.loop-named.invariant in
    let there : is_some (place_of (entries_of c.loop-named.bodies) c.in-Some.named.name) ≡ true = search rules in
    let known : is_some (place_under inv.0 c.in-Some.named.name) ≡ true = sym (ap is_some (same_place (entries_of c.loop-named.bodies) inv.0 c.in-Some.named.name inv.1)) ∙ there in (
      inv.0,
      inv.1,
      ap (λ (f : List NamedScript). fold added f c.next.new.self.rest.items) (sym (add_known inv.0 c.in-Some.named known)) ∙ ap (λ (t : List NamedScript). fold added inv.0 t) (sym c.in-Some.ensures.steps.0) ∙ inv.2,
      omega (arith, inv.3, ap (λ (t : List NamedScript). length t) c.in-Some.ensures.steps.0),
    )

pub add-requires-clause-within : goal.add-requires-clause-within
add-requires-clause-within c = λ fields view act h.
    let given = made_post own-1 at-1-1 c.into_dyn_box.ensures.1 (fields, (view, tt)) (Ok act) h in
    let is : act ≡ next_of c.in-Some.named.script fields.now view.now = rw c.in_ok-new.ensures.ok at given in
    lies c.in-Some.named.script c.in_ok-shape.shape fields.now view.now act c.in_ok-shape.ensures is

pub loop-named-preserved : goal.loop-named-preserved
loop-named-preserved c =
    let inv = c.loop-named.invariant in
    let absent : is_some (place_of (entries_of c.loop-named.bodies) c.in-Some.named.name) ≡ false = search rules in
    let new : is_some (place_under inv.0 c.in-Some.named.name) ≡ false = sym (ap is_some (same_place (entries_of c.loop-named.bodies) inv.0 c.in-Some.named.name inv.1)) ∙ absent in (
      inv.0 ++ c.in-Some.named ∷ [],
      holds_add (entries_of c.loop-named.bodies) (entries_of c.add.new.self) inv.0 c.in-Some.named c.in_ok-shape.shape c.into_dyn_box.result inv.1 c.in-Ok.ensures.ok c.in_ok-shape.ensures
          (λ fields view act q. let given = made_post own-1 at-1-1 c.into_dyn_box.ensures.1 (fields, (view, tt)) (Ok act) q in rw c.in_ok-new.ensures.ok at given),
      ap (λ (f : List NamedScript). fold added f c.next.new.self.rest.items) (sym (add_new inv.0 c.in-Some.named new)) ∙ ap (λ (t : List NamedScript). fold added inv.0 t) (sym c.in-Some.ensures.steps.0) ∙ inv.2,
      omega (arith, inv.3, ap (λ (t : List NamedScript). length t) c.in-Some.ensures.steps.0, length-append inv.0 (c.in-Some.named ∷ [])),
    )

pub unreachable-requires-in-Err-Full : goal.unreachable-requires-in-Err-Full
unreachable-requires-in-Err-Full c =
    let inv = c.loop-named.invariant in
    let few : length (entries_of c.loop-named.bodies) < 4096 = omega (arith, inv.3, ap (λ (t : List NamedScript). length t) c.in-Some.ensures.steps.0, same_length (entries_of c.loop-named.bodies) inv.0 inv.1) in
    not_full _ _ (c.in-Err-Full.ensures.full.0 (search rules)) few

pub returns : goal.returns
returns c =
    let inv = c.loop-named.invariant in
    let entries = entries_of c.loop-named.bodies in
    let rest = c.loop-named.named-iterator.rest in
    let scripts = c.args.prepared.scripts.items in
    let all : rest.items ≡ [] = nil_of rest.items (let z : rest.len ≡ 0 = c.in-None.ensures.steps.0 in omega arith) in
    let held = holds_all entries inv.0 rest.items scripts inv.1 inv.2 all in
    record {
      deployment = refl;
      scripts = c.in_ok-names.ensures ∙ ap names_of c.as_slice.ensures.value;
      are = record {
        shape_of = shape_of entries;
        shapes = λ name. same_shape entries (registered scripts) name held;
        are = c.in_ok-problems.ensures;
      };
    }
