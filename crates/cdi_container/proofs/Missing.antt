-- A command of a container misses nothing, since that of the machine in the same state doesn't.
use Rattle.std.proofs.Common.{◌≡◌, ◌∙◌, None, sym, subst}
use Rattle.cdi_machine.specs.Commands.{task}
use Rattle.cdi_machine.specs.Container.{refusal}
use Rattle.cdi_machine.specs.Runs.{Legal, Runs}
use Rattle.cdi_machine.specs.Tables.{Tables}
use Rattle.cdi_whole.specs.Missing.{MissesNothing, NothingMissing}
use Rattle.cdi_container.specs.Missing.{NoneMissed}
use Rattle.cdi_container.proofs.Halted.{works_on}
use Rattle.cdi_container.proofs.Stories.{is_story, led_to, refused_alike}

pub none_missed : (tables : Tables) (legal : Legal) (Starved : Type 0) → MissesNothing tables legal Starved → NoneMissed tables legal Starved
none_missed tables legal Starved none fits s h history c e o v =
    let l = is_story tables legal s h history (works_on tables s c e) in
    let led = led_to tables legal l.story in
    let admitted : refusal tables l.at c ≡ None = sym (refused_alike tables legal s h l c) ∙ e in
    subst (λ w. (r : Runs tables legal Starved (task c) w o v) → NothingMissing r) (sym l.alike)
    (none fits led.ticks led.depth led.commands l.at led.leads c admitted o v)
