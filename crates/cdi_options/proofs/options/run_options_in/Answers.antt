use Rattle.std.proofs.Common.{◌≤◌, arith, codes}
use Rattle.std.proofs.lemmas.Bool.{and_from}
use Rattle.clap.specs.Words.{subcommand_rows_of, first_of}
use Rattle.cdi_options.specs.Options as spec
use Rattle.cdi_options.proofs.Numbers.{in_range, of_some}
use Rattle.cdi_options.proofs.options.run_options_in.Goals as goal

-- the usual numbers are in their ranges
usual_depth : (1 ≤ 32) × (32 ≤ 1024)
usual_depth = (omega arith, omega arith)

usual_ticks : (1 ≤ 100000) × (100000 ≤ 100000)
usual_ticks = (omega arith, omega arith)

pub invariant_of-settings : goal.invariant_of-settings
invariant_of-settings c =
    let rows = spec.rows_under (subcommand_rows_of c.args.matches.now) in
    let depth = of_some _ _ _ (rw (c.default-usual.ensures.depth, c.text_in.ensures) at c.in_ok-depth.ensures) in
    let ticks = of_some _ _ _ (rw (c.default-usual.ensures.ticks, c.text_in-2.ensures) at c.in_ok-ticks.ensures) in
    let deep = in_range 32 1024 (first_of (codes "depth") rows) usual_depth.0 usual_depth.1 depth.0 in
    let long = in_range 100000 100000 (first_of (codes "ticks") rows) usual_ticks.0 usual_ticks.1 ticks.0 in
    record {
      deep = rw depth.1 deep.0;
      within_depth = rw depth.1 deep.1;
      long = rw ticks.1 long.0;
      within_ticks = rw ticks.1 long.1;
    }

pub returns : goal.returns
returns c =
    let depth = of_some _ _ _ (rw (c.default-usual.ensures.depth, c.text_in.ensures) at c.in_ok-depth.ensures) in
    let ticks = of_some _ _ _ (rw (c.default-usual.ensures.ticks, c.text_in-2.ensures) at c.in_ok-ticks.ensures) in
    let rows = spec.rows_under (subcommand_rows_of c.args.matches.now) in
    let order = of_some _ _ _ (rw c.text_in-3.ensures at c.in_ok-order.ensures) in
    let slice = of_some _ _ _ (rw c.text_in-4.ensures at c.in_ok-slice.ensures) in
    let sliced = in_range 100000 100000 (first_of (codes "slice") rows) usual_ticks.0 usual_ticks.1 slice.0 in
    record {
      are_fit = and_from _ _ depth.0 (and_from _ _ ticks.0 (and_from _ _ order.0 slice.0));
      depth = depth.1;
      ticks = ticks.1;
      order = order.1;
      shows_trace = rw c.text_in-5.ensures at c.is_set.ensures;
      slice_is = slice.1;
      some_slice = rw slice.1 sliced.0;
      within_slice = rw slice.1 sliced.1;
    }
