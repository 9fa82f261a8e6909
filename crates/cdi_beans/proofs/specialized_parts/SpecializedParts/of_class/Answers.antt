use Rattle.std.proofs.Common.{◌∙◌, sym, ap}
use Rattle.std.specs.Option.{option_copied}
use Rattle.cdi_beans.proofs.Specialized.{ends, goes_down, specialized_named, specializes, steps-fall_specialized}
use Rattle.cdi_beans.proofs.specialized_parts.SpecializedParts.of_class.Goals as goal

pub loop-specialized-smaller : goal.loop-specialized-smaller
loop-specialized-smaller c = steps-fall_specialized c.args.beans.now c.requires.acyclic c.loop-specialized.lowest.now c.in-Some.specialized.now c.loop-specialized.invariant.listed (sym c.in-Some.ensures)

pub part-requires-clause-found : goal.part-requires-clause-found
part-requires-clause-found c = specialized_named c.args.beans.now c.loop-specialized.lowest.now c.in-Some.specialized.now (sym c.in-Some.ensures)

pub loop-specialized-preserved : goal.loop-specialized-preserved
loop-specialized-preserved c =
    let i = c.loop-specialized in
    let classes = c.args.beans.now in
    record {
      listed = (specializes classes i.lowest.now c.in-Some.specialized.now (sym c.in-Some.ensures)).listed;
      own = c.in_ok-part.ensures.own;
      so_far =
          goes_down classes c.args.types.now c.args.class.now i.lowest.now c.in-Some.specialized.now i.found c.push.new.self c.in_ok-part.field-0 i.invariant.so_far (sym c.in-Some.ensures) c.in_ok-part.ensures.part c.in_ok-push.ensures.ok;
    }

pub returns-clause-are : goal.returns-clause-are
returns-clause-are c =
    let i = c.loop-specialized in
    ends c.args.beans.now c.args.types.now c.args.class.now i.lowest.now _ i.invariant.so_far (sym c.specialized.ensures ∙ ap option_copied c.in_default.is)
