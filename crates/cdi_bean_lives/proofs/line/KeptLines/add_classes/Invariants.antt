use Rattle.std.proofs.Common.{map, length, ◌-◌}
use Rattle.cdi_bean_lives.specs.Lives.{AreLives, KeepsLives}
use Rattle.cdi_bean_lives.specs.Parts.{IsPartKept, names_of}
use Rattle.cdi_numbered_plans.specs.Numbered.{AsksNumbered}
use Rattle.cdi_bean_lives.proofs.line.KeptLines.add_classes.Given as goal

-- the classes up to a count are kept, and what was kept stays
abbrev pub invariant-loop-class : goal.invariant-loop-class
invariant-loop-class l =
    record {
      part : IsPartKept l.self.lives (names_of (map (λ c. c.now) l.line)) l.count l.last;
      lives : AreLives l.planner l.numbering l.self.lives;
      others : KeepsLives l.fn.self.lives l.self.lives;
      asks : AsksNumbered l.numbering l.lookup.now;
    }

abbrev pub decreases-loop-class : goal.decreases-loop-class
decreases-loop-class l = length l.line - l.count
