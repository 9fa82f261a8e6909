use Rattle.cdi_whole.proofs.Replied.{answers_with_text}
use Rattle.cdi_whole.proofs.laws.law_replied_has_text.Goals as goal

pub returns : goal.returns
returns g c tables = answers_with_text tables (g.D.Driver.legal c.args.driver.now)
