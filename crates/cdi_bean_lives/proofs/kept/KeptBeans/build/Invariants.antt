use Rattle.std.proofs.Common.{take}
use Rattle.std.specs.List.{AllZip}
use Rattle.cdi_bean_lives.specs.Beans.{IsKeptWith}
use Rattle.cdi_bean_lives.specs.Lives.{AreLives}
use Rattle.cdi_numbered_plans.specs.Numbered.{AsksNumbered}
use Rattle.cdi_bean_lives.proofs.kept.KeptBeans.build.Given as goal

-- the beans that were looked at are kept by their plans
abbrev pub invariant-loop-bean : goal.invariant-loop-bean
invariant-loop-bean l =
    record {
      kept : AllZip (IsKeptWith l.planner l.numbering l.lines.lives) (take l.bean-index l.beans) l.kept;
      lives : AreLives l.planner l.numbering l.lines.lives;
      asks : AsksNumbered l.numbering l.lookup.now;
    }
