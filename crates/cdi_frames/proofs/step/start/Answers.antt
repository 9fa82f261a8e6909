use Rattle.cdi_steps.proofs.Driving.{passed_on, starves_alone}
use Rattle.cdi_steps.proofs.Made.{driven}
use Rattle.cdi_frames.proofs.step.start.Goals as goal

pub returns-in_err-rest-in-Rest-clause-failed : goal.returns-in_err-rest-in-Rest-clause-failed
returns-in_err-rest-in-Rest-clause-failed g c = passed_on _ c.from_residual-in_err-rest-in-Rest.result starves_alone c.from_residual-in_err-rest-in-Rest.ensures

pub returns-in_err-fire-in-Fire-clause-failed : goal.returns-in_err-fire-in-Fire-clause-failed
returns-in_err-fire-in-Fire-clause-failed g c = passed_on _ c.from_residual-in_err-fire-in-Fire.result starves_alone c.from_residual-in_err-fire-in-Fire.ensures

pub returns-in_ok-rest-in-Rest-clause-step : goal.returns-in_ok-rest-in-Rest-clause-step
returns-in_ok-rest-in-Rest-clause-step g c = rw c.in-Rest.is (driven (g.D.Driver.legal c.args.driver.now) c.in_ok-rest-in-Rest.ensures.step)

pub returns-in_ok-fire-in-Fire-clause-step : goal.returns-in_ok-fire-in-Fire-clause-step
returns-in_ok-fire-in-Fire-clause-step g c = rw c.in-Fire.is (driven (g.D.Driver.legal c.args.driver.now) c.in_ok-fire-in-Fire.ensures)

pub returns-in_err-obtain-in-Obtain-clause-failed : goal.returns-in_err-obtain-in-Obtain-clause-failed
returns-in_err-obtain-in-Obtain-clause-failed g c = passed_on _ c.from_residual.result starves_alone c.from_residual.ensures

pub returns-in_ok-obtain-in-Obtain-clause-step : goal.returns-in_ok-obtain-in-Obtain-clause-step
returns-in_ok-obtain-in-Obtain-clause-step g c = rw c.in-Obtain.is (driven (g.D.Driver.legal c.args.driver.now) c.in_ok-obtain-in-Obtain.ensures.step)

pub returns-in_err-intercept-in-Intercept-clause-failed : goal.returns-in_err-intercept-in-Intercept-clause-failed
returns-in_err-intercept-in-Intercept-clause-failed g c = passed_on _ c.from_residual-in_err-intercept-in-Intercept.result starves_alone c.from_residual-in_err-intercept-in-Intercept.ensures

pub returns-in_ok-intercept-in-Intercept-clause-step : goal.returns-in_ok-intercept-in-Intercept-clause-step
returns-in_ok-intercept-in-Intercept-clause-step g c = rw c.in-Intercept.is (driven (g.D.Driver.legal c.args.driver.now) c.in_ok-intercept-in-Intercept.ensures)

pub returns-in_err-create-in-Create-clause-failed : goal.returns-in_err-create-in-Create-clause-failed
returns-in_err-create-in-Create-clause-failed g c = passed_on _ c.from_residual-in_err-create-in-Create.result starves_alone c.from_residual-in_err-create-in-Create.ensures

pub returns-in_ok-create-in-Create-clause-step : goal.returns-in_ok-create-in-Create-clause-step
returns-in_ok-create-in-Create-clause-step g c = rw c.in-Create.is (driven (g.D.Driver.legal c.args.driver.now) c.in_ok-create-in-Create.ensures)

pub returns-in-Body-clause-step : goal.returns-in-Body-clause-step
returns-in-Body-clause-step g c = rw c.in-Body.is (driven (g.D.Driver.legal c.args.driver.now) c.begin.ensures)

pub returns-in-Destroy-clause-step : goal.returns-in-Destroy-clause-step
returns-in-Destroy-clause-step g c = rw c.in-Destroy.is (driven (g.D.Driver.legal c.args.driver.now) c.destroy.ensures)

pub returns-in-Dismiss-clause-step : goal.returns-in-Dismiss-clause-step
returns-in-Dismiss-clause-step g c = rw c.in-Dismiss.is (driven (g.D.Driver.legal c.args.driver.now) c.dismiss.ensures)

pub returns-in-Clear-clause-step : goal.returns-in-Clear-clause-step
returns-in-Clear-clause-step g c = rw c.in-Clear.is (driven (g.D.Driver.legal c.args.driver.now) c.clear.ensures)

pub returns-in-Acts-clause-step : goal.returns-in-Acts-clause-step
returns-in-Acts-clause-step g c = rw c.in-Acts.is c.act.ensures.step

pub returns-in-Release-clause-step : goal.returns-in-Release-clause-step
returns-in-Release-clause-step g c = rw c.in-Release.is c.release.ensures.step

pub returns-in_err-publish-in-Publish-clause-failed : goal.returns-in_err-publish-in-Publish-clause-failed
returns-in_err-publish-in-Publish-clause-failed g c = passed_on _ c.from_residual-in_err-publish-in-Publish.result starves_alone c.from_residual-in_err-publish-in-Publish.ensures

pub returns-in_ok-publish-in-Publish-clause-step : goal.returns-in_ok-publish-in-Publish-clause-step
returns-in_ok-publish-in-Publish-clause-step g c = rw c.in-Publish.is (driven (g.D.Driver.legal c.args.driver.now) c.in_ok-publish-in-Publish.ensures)

pub returns-in-Notify-clause-step : goal.returns-in-Notify-clause-step
returns-in-Notify-clause-step g c = rw c.in-Notify.is c.notify.ensures.step
