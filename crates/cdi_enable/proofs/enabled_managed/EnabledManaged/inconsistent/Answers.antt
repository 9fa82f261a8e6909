use Rattle.std.proofs.Common.{◌≡◌, ◌∙◌, ℕ, true, false, List, true≢false, sym, ap, subst, refl}
use Rattle.cdi_paths.specs.Graph.{ProperPath}
use Rattle.cdi_enable.specs.Enabled.{Enabled, Specializes, graph_of}
use Rattle.cdi_enable.proofs.Free.{once}
use Rattle.cdi_enable.proofs.Two.{next_such, next_other}
use Rattle.cdi_enable.proofs.enabled_managed.EnabledManaged.inconsistent.Goals as goal
use Rattle.cdi_enable.proofs.enabled_managed.EnabledManaged.inconsistent.Goals.{then-contains+then-reaches_properly+else-seen, else-contains, else-contains-via-then-contains+else-reaches_properly, else-contains-via-else-contains}

pub loop-other-preserved : goal.loop-other-preserved
loop-other-preserved c =
    let i = c.loop-other in
    let edges : c.self.inside.reach ≡ graph_of c.args.self.now = c.self.invariant.edges ∙ ap graph_of c.self.view_is in
    let to : List (List ℕ) → Type 0 = λ g. ProperPath g i.other c.args.bean in
    let Such : ℕ → Type 0 = λ x. Enabled c.args.self.now x true × Specializes c.args.self.now x c.args.bean in
    elim c.if-contains.branch [
      | then-contains+then-reaches_properly+else-seen w ↦ rw w.seen-is (next_such Such i.other (rw w.if-seen.false at i.invariant) (w.if-contains.ensures, subst to edges (w.if-reaches_properly.ensures.0 refl)))
      | else-contains w ↦ rw w.seen-is (
          next_other Such i.other i.seen i.invariant (λ s. elim w.else-contains.branch [
            | else-contains-via-then-contains+else-reaches_properly w' ↦ true≢false (sym (w'.if-reaches_properly.ensures.1 (subst to (sym edges) s.1)))
            | else-contains-via-else-contains w' ↦ true≢false (once i.other true false s.0 w'.if-contains.ensures)
          ])
          )
    ]
