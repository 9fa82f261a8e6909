-- One class more on the way up from a bean that specializes others.
use Rattle.std.proofs.Common.{◌≡◌, ◌∙◌, ℕ, suc, ◌+◌, ◌-◌, ◌<◌, ◌==◌, ◌||◌, false, List, Some, sym, ap, arith}
use Rattle.cdi_deployment.specs.declared.deployment.Class.{Class}
use Rattle.cdi_problem_hints.specs.Specializers.{specialized_by, specializes}

module _ (classes : List Class) (class : ℕ) where
  one_less : (n k : ℕ) → k < n → n - k ≡ suc (n - (k + 1))
  one_less n k lt = omega arith

  pub goes_on : (n k above : ℕ) → k < n → (above == class) ≡ false → specializes (n - (k + 1)) classes class (specialized_by classes above) ≡ specializes (n - k) classes class (Some above)
  goes_on n k above lt other =
      sym (ap (λ m. specializes m classes class (Some above)) (one_less n k lt)
      ∙ ap (λ t. t || specializes (n - (k + 1)) classes class (specialized_by classes above)) other)
