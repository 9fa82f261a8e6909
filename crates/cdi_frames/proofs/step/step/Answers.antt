use Rattle.cdi_steps.proofs.Driving.{passed_on, starves_alone}
use Rattle.cdi_steps.proofs.Made.{driven}
use Rattle.cdi_frames.proofs.step.step.Goals as goal

pub returns-in_err-begin-in-Begin-clause-failed : goal.returns-in_err-begin-in-Begin-clause-failed
returns-in_err-begin-in-Begin-clause-failed g c = passed_on _ c.from_residual.result starves_alone c.from_residual.ensures

pub returns-in_ok-begin-in-Begin-clause-step : goal.returns-in_ok-begin-in-Begin-clause-step
returns-in_ok-begin-in-Begin-clause-step g c = rw c.in-Begin.is (driven (g.D.Driver.legal c.args.driver.now) c.in_ok-begin-in-Begin.ensures.step)

pub returns-in_err-using-in-Using-clause-failed : goal.returns-in_err-using-in-Using-clause-failed
returns-in_err-using-in-Using-clause-failed g c = passed_on _ c.from_residual-in_err-using-in-Using.result starves_alone c.from_residual-in_err-using-in-Using.ensures

pub returns-in_ok-using-in-Using-clause-step : goal.returns-in_ok-using-in-Using-clause-step
returns-in_ok-using-in-Using-clause-step g c = rw c.in-Using.is (driven (g.D.Driver.legal c.args.driver.now) c.in_ok-using-in-Using.ensures.step)

pub returns-in_err-through-in-Through-clause-failed : goal.returns-in_err-through-in-Through-clause-failed
returns-in_err-through-in-Through-clause-failed g c = passed_on _ c.from_residual-in_err-through-in-Through.result starves_alone c.from_residual-in_err-through-in-Through.ensures

pub returns-in_ok-through-in-Through-clause-step : goal.returns-in_ok-through-in-Through-clause-step
returns-in_ok-through-in-Through-clause-step g c = rw c.in-Through.is (driven (g.D.Driver.legal c.args.driver.now) c.in_ok-through-in-Through.ensures.step)

pub returns-in_err-creating-in-Creating-clause-failed : goal.returns-in_err-creating-in-Creating-clause-failed
returns-in_err-creating-in-Creating-clause-failed g c = passed_on _ c.from_residual-in_err-creating-in-Creating.result starves_alone c.from_residual-in_err-creating-in-Creating.ensures

pub returns-in_ok-creating-in-Creating-clause-step : goal.returns-in_ok-creating-in-Creating-clause-step
returns-in_ok-creating-in-Creating-clause-step g c = rw c.in-Creating.is (driven (g.D.Driver.legal c.args.driver.now) c.in_ok-creating-in-Creating.ensures.step)

pub returns-in_err-provide-in-Providing-clause-failed : goal.returns-in_err-provide-in-Providing-clause-failed
returns-in_err-provide-in-Providing-clause-failed g c = passed_on _ c.from_residual-in_err-provide-in-Providing.result starves_alone c.from_residual-in_err-provide-in-Providing.ensures

pub returns-in_ok-provide-in-Providing-clause-step : goal.returns-in_ok-provide-in-Providing-clause-step
returns-in_ok-provide-in-Providing-clause-step g c = rw c.in-Providing.is (driven (g.D.Driver.legal c.args.driver.now) c.in_ok-provide-in-Providing.ensures.step)

pub returns-in_err-go_on-in-Continue-clause-failed : goal.returns-in_err-go_on-in-Continue-clause-failed
returns-in_err-go_on-in-Continue-clause-failed g c = passed_on _ c.from_residual-in_err-go_on-in-Continue.result starves_alone c.from_residual-in_err-go_on-in-Continue.ensures

pub returns-in_ok-go_on-in-Continue-clause-step : goal.returns-in_ok-go_on-in-Continue-clause-step
returns-in_ok-go_on-in-Continue-clause-step g c = rw c.in-Continue.is (driven (g.D.Driver.legal c.args.driver.now) c.in_ok-go_on-in-Continue.ensures.step)

pub returns-in_err-begin-in-Calling-clause-failed : goal.returns-in_err-begin-in-Calling-clause-failed
returns-in_err-begin-in-Calling-clause-failed g c = passed_on _ c.from_residual-in_err-begin-in-Calling.result starves_alone c.from_residual-in_err-begin-in-Calling.ensures

pub returns-in_ok-begin-in-Calling-clause-step : goal.returns-in_ok-begin-in-Calling-clause-step
returns-in_ok-begin-in-Calling-clause-step g c = rw c.in-Calling.is (driven (g.D.Driver.legal c.args.driver.now) c.in_ok-begin-in-Calling.ensures.step)

pub returns-in_err-supply-in-Supplying-clause-failed : goal.returns-in_err-supply-in-Supplying-clause-failed
returns-in_err-supply-in-Supplying-clause-failed g c = passed_on _ c.from_residual-in_err-supply-in-Supplying.result starves_alone c.from_residual-in_err-supply-in-Supplying.ensures

pub returns-in_ok-supply-in-Supplying-clause-step : goal.returns-in_ok-supply-in-Supplying-clause-step
returns-in_ok-supply-in-Supplying-clause-step g c = rw c.in-Supplying.is (driven (g.D.Driver.legal c.args.driver.now) c.in_ok-supply-in-Supplying.ensures.step)

pub returns-in-Receiving-clause-step : goal.returns-in-Receiving-clause-step
returns-in-Receiving-clause-step g c = rw c.in-Receiving.is (driven (g.D.Driver.legal c.args.driver.now) c.receive.ensures)
