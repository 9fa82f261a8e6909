-- What stands behind a part runs alike if it goes on alike.
use Rattle.cdi_machine.specs.Tables.{Tables}
use Rattle.cdi_machine.specs.World.{World}
use Rattle.cdi_machine.specs.Programs.{Given, Completion, Gave, Threw, Prog, ret, throw, cut, miss, see, change, tick, mark, act, choose, nested}
use Rattle.cdi_machine.specs.Runs as runs
use Rattle.cdi_machine.specs.Runs.{Legal, Runs}
use Rattle.cdi_steps.specs.Meanings.{around}

module _ {tables : Tables} {legal : Legal} {Starved : Type 0} {j k : Completion Given → Prog Given}
    (alike : (c : Completion Given) (w : World) (o : runs.Outcome) (v : World) → Runs tables legal Starved (k c) w o v → Runs tables legal Starved (j c) w o v) where
  pub behind_part : (p : Prog Given) {w v : World} {o : runs.Outcome} → Runs tables legal Starved (around p k) w o v → Runs tables legal Starved (around p j) w o v
  behind_part (ret g) {w = w} {v = v} {o = o} r = alike (Gave g) w o v r
  behind_part (throw x) {w = w} {v = v} {o = o} r = alike (Threw x) w o v r
  behind_part (cut cause) r = r
  behind_part (miss p) (Runs.misses r) = Runs.misses (behind_part p r)
  behind_part (miss p) (Runs.starves s) = Runs.starves s
  behind_part (see m) (Runs.sees r) = Runs.sees (behind_part (m tables _) r)
  behind_part (see m) (Runs.starves s) = Runs.starves s
  behind_part (change g p) (Runs.changes r) = Runs.changes (behind_part p r)
  behind_part (change g p) (Runs.starves s) = Runs.starves s
  behind_part (tick e p) (Runs.writes room r) = Runs.writes room (behind_part p r)
  behind_part (tick e p) (Runs.is_full h) = Runs.is_full h
  behind_part (tick e p) (Runs.starves s) = Runs.starves s
  behind_part (mark n p) (Runs.marks r) = Runs.marks (behind_part p r)
  behind_part (mark n p) (Runs.starves s) = Runs.starves s
  behind_part (act b fields view m) (Runs.does a l (Runs.writes room r)) = Runs.does a l (Runs.writes room (behind_part (m _) r))
  behind_part (act b fields view m) (Runs.does a l (Runs.is_full h)) = Runs.does a l (Runs.is_full h)
  behind_part (act b fields view m) (Runs.does a l (Runs.starves s)) = Runs.does a l (Runs.starves s)
  behind_part (act b fields view m) (Runs.starves s) = Runs.starves s
  behind_part (choose n m) (Runs.picks i h l (Runs.writes room r)) = Runs.picks i h l (Runs.writes room (behind_part (m i) r))
  behind_part (choose n m) (Runs.picks i h l (Runs.is_full f)) = Runs.picks i h l (Runs.is_full f)
  behind_part (choose n m) (Runs.picks i h l (Runs.starves s)) = Runs.picks i h l (Runs.starves s)
  behind_part (choose n m) (Runs.starves s) = Runs.starves s
  behind_part (nested c m) (Runs.calls {o1 = runs.Ends x} a b) = Runs.calls a (behind_part (m x) b)
  behind_part (nested c m) (Runs.calls {o1 = runs.Cut cause} a b) = Runs.calls a b
  behind_part (nested c m) (Runs.starves s) = Runs.starves s
