use Rattle.cdi_findings.proofs.hint_tables.HintTables.build.Goals as goal

pub invariant_of-result : goal.invariant_of-result
invariant_of-result c = record {
  are_needs = rw c.as_ref.ensures.value at c.in_ok-needs.ensures;
  is_index = c.in_ok-index.ensures;
}
