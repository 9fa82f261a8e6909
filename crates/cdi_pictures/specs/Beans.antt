-- The beans of a picture.
use Rattle.std.specs.Prelude.{ℕ, List, ◌++◌, codes}
use Rattle.std.specs.List.{flat_map}
use Rattle.cdi_base.specs.declared.scope.Scope.{Scope}
use Rattle.cdi_base.specs.declared.scope.Scope.TheVariants as scopes
use Rattle.cdi_beans.specs.declared.bean.Bean.{Bean}
use Rattle.cdi_candidates.specs.Candidates.{place_of}
use Rattle.cdi_problems.specs.Places.{place_text}

abbrev pub scope_text : Scope → List ℕ
scope_text scopes.ApplicationScoped = codes "ApplicationScoped"
scope_text scopes.SessionScoped = codes "SessionScoped"
scope_text scopes.RequestScoped = codes "RequestScoped"
scope_text scopes.Dependent = codes "Dependent"

-- a node with the place of a bean, and its scope below that
abbrev pub node_line : List ℕ → List ℕ → List ℕ
node_line place scope =
    codes "  \"" ++ (place ++ (codes "\" [label=\"" ++ (place ++ (codes "\\n" ++ (scope
    ++ codes "\", style=solid, color=black];\n")))))

abbrev pub bean_line : List (List ℕ) → Bean → List ℕ
bean_line names b = node_line (place_text names (place_of b)) (scope_text b.scope)

abbrev pub beans_text : List (List ℕ) → List (ℕ × Bean) → List ℕ
beans_text names beans = flat_map (λ b. bean_line names b.1) beans
