-- The law of order as one sentence, over states with refusals.
use Rattle.cdi_machine.specs.Tables.{Tables}
use Rattle.cdi_machine.specs.Runs.{Legal}
use Rattle.cdi_ledger.specs.Ends.{OrdersAll}
use Rattle.cdi_ledger.proofs.Ledgered.{in_order}
use Rattle.cdi_ledger.proofs.Settled.{sane_story}
use Rattle.cdi_ledger.proofs.Nesting.{ends_nested}
use Rattle.cdi_ledger.proofs.Births.{one_of_the_application}

pub orders_all : (tables : Tables) (legal : Legal) → OrdersAll tables legal
orders_all tables legal s h l =
    let q = in_order s.world h (λ n. sane_story tables legal n l) in
    record {
      numbered = q.new_numbers;
      each_way = q.each_way;
      one_at_a_time = λ apart. one_of_the_application tables legal apart s h l;
      nested = ends_nested tables legal s h l;
    }
