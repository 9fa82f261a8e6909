-- A plan has at most 2,048 steps for interceptors, 128 for each class of its line, and two.
use Rattle.std.proofs.Common.{◌≡◌, ◌+◌, ◌*◌, ◌≤◌, List, [], ◌∷◌, ◌++◌, filter, length, map, Option, refl, arith, length-append}
use Rattle.std.proofs.lemmas.List.{length-map}
use Rattle.std.specs.List.{AllByRecursion, filter_map}
use Rattle.cdi_beans.specs.declared.bean.Bean.{Bean}
use Rattle.cdi_plans.specs.Chains.{ChainTables, interceptors_of}
use Rattle.cdi_deployment.specs.declared.deployment.Class.{Class}
use Rattle.cdi_deployment.specs.declared.deployment.Constructor.{Constructor}
use Rattle.cdi_deployment.specs.declared.deployment.Member.{Member}
use Rattle.cdi_types.specs.Members.{comes_down, members_of, parts_of}
use Rattle.cdi_planner.specs.Codes.{completion}
use Rattle.cdi_planner.specs.Steps.{class_steps, construction, initialization, injection, injections, steps_of}
use Rattle.cdi_plans.specs.declared.plan.Step.{Step}
use Rattle.cdi_plans.specs.declared.plan.Step.TheVariants as steps
use Rattle.cdi_report.proofs.Lengths.{filter_map_no_longer, filter_no_longer}
use Rattle.cdi_report.proofs.Places.{few_instances}
use Rattle.cdi_report.proofs.Within.{HasFew, HasFewMembers}

-- a class has a step for each injected field, and at most one for each member
of_class : (c : Class) (below : List Class)
    → length (class_steps c below) ≤ length c.inject + length c.members
of_class c below =
    let coming : List Member = filter (comes_down below) c.members in
    let parts : List (Class × Member) = parts_of c coming in
    omega (
      arith,
      length-append (map injection c.inject) (filter_map initialization parts),
      length-map c.inject injection,
      filter_map_no_longer initialization parts,
      length-map {B = Class × Member} coming (λ (m : Member). (c, m)),
      filter_no_longer (comes_down below) c.members,
    )

-- a line of classes that declare few
of_line : (line : List Class) → AllByRecursion HasFew line → AllByRecursion HasFewMembers line
    → length (injections line) ≤ length line * 128
of_line [] few members = omega arith
of_line (c ∷ below) few members =
    omega (
      arith,
      length-append (class_steps c below) (injections below),
      of_class c below,
      few.0,
      members.0,
      of_line below few.1 members.1,
    )

module _ (t : ChainTables) (enabled : length t.interceptors ≤ 2048) (b : Bean) (line : List Class) where
  -- those of its interceptors, of its line, its construction and its completion
  pub few_steps : (constructor : Option Constructor) → AllByRecursion HasFew line
      → AllByRecursion HasFewMembers line
      → length (steps_of t constructor b line) ≤ 2050 + length line * 128
  few_steps constructor few members =
      let first : List Step = map steps.Intercept (interceptors_of t b) in
      let making : List Step = construction t b.class constructor ∷ [] in
      let last : List Step = steps.Complete (completion t b.class (members_of line)) ∷ [] in
      let two : length making + length last ≡ 2 = refl in
      omega (
        arith,
        length-append (first ++ making ++ injections line) last,
        length-append (first ++ making) (injections line),
        length-append first making,
        length-map (interceptors_of t b) steps.Intercept,
        few_instances t enabled b,
        of_line line few members,
        two,
      )
