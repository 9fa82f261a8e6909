use Rattle.std.proofs.Common.{refl}
use Rattle.cdi_planner.specs.Plans.{IsPlanOf}
use Rattle.cdi_bean_lives.proofs.kept.KeptBean.build.Goals as goal

pub returns-clause-kept : goal.returns-clause-kept
returns-clause-kept c =
    record {
      by_plan = record {
        plan = IsPlanOf.product c.in_ok-plan.ensures;
        numbered = c.in_ok-numbered.ensures.numbered;
        methods = record { same = λ h name. refl };
        numbers = refl;
        fields = λ life e. absurd cc;
      };
      has_line = tt;
      few_steps = refl;
    }
