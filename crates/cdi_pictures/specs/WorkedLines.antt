-- Worked lines of pictures. Graphviz's own program reads and draws them.
use Rattle.std.specs.Prelude.{ℕ, ◌≡◌, false, List, [], ◌∷◌, ◌++◌, codes, Some, None}
use Rattle.cdi_base.specs.declared.place.Place.TheVariants as places
use Rattle.cdi_base.specs.declared.scope.Scope.TheVariants as scopes
use Rattle.cdi_base.specs.declared.uses.Use.{Use}
use Rattle.cdi_deployment.specs.declared.deployment.Class.{Class}
use Rattle.cdi_deployment.specs.declared.deployment.Deployment.{Deployment}
use Rattle.cdi_deployment.specs.declared.deployment.Member.TheVariants as members
use Rattle.cdi_pictures.specs.Beans.{node_line, scope_text}
use Rattle.cdi_pictures.specs.Interceptors.{interceptor_text}
use Rattle.cdi_pictures.specs.Pictures.{picture}
use Rattle.cdi_pictures.specs.Points.{Asker, label_text, left_text}
use Rattle.cdi_problems.specs.Places.{place_text}
use Rattle.cdi_problems.specs.declared.problem.Problem.{Problem}
use Rattle.cdi_problems.specs.declared.problem.ProblemKind.{ProblemKind}
use Rattle.cdi_problems.specs.declared.problem.ProblemKind.TheVariants as kinds
use Rattle.cdi_resolve.specs.declared.bean_tables.BeanTables.{BeanTables}

-- names at 0 to 8
abbrev pub names : List (List ℕ)
names =
    codes "Shop" ∷ codes "Drawer" ∷ codes "open" ∷ codes "Till" ∷ codes "Fast" ∷ codes "Sale"
    ∷ codes "note" ∷ codes "Audit" ∷ codes "Trace" ∷ []

-- the nodes of a product, and of the second interceptor behind the first
pub record Nodes : Type 0 where
  pub product :
      node_line (place_text names (places.Member 1 2)) (scope_text scopes.RequestScoped)
      ≡ codes "  \"Drawer#open\" [label=\"Drawer#open\\nRequestScoped\", style=solid, color=black];\n"
  pub interceptor :
      interceptor_text names 2 (Some 7) 8
      ≡ codes "  \"Trace\" [label=\"2. Trace\", shape=component, style=solid, color=black];\n"
      ++ codes "  \"Audit\" -> \"Trace\" [label=\"then\", style=dashed];\n"

-- an injected field of the shop, with problems
abbrev pub asker : BeanTables → List Problem → Asker
asker t problems =
    record {
      drawing = record { names = names; tables = t; problems = problems };
      owner = 0;
      place = places.Member 0 6;
    }

abbrev pub at_field : ProblemKind → Problem
at_field kind = record { kind = kind; place = Some (places.Member 0 6) }

abbrev pub fast : Use
fast = record { name = 4; members = [] }

-- it asks for a till: a fast one, and there is one; and there is none; and there are two
pub record Points (t : BeanTables) : Type 0 where
  pub one :
      left_text (asker t []) 3 (label_text names 3 (fast ∷ [])) (places.Member 1 2 ∷ [])
      ≡ codes "  \"Shop\" -> \"Drawer#open\" [label=\"Till @Fast\"];\n"
  pub none :
      left_text (asker t (at_field kinds.Unsatisfied ∷ [])) 3 (label_text names 3 []) []
      ≡ codes "  \"Shop\" -> \"?Till\" [label=\"Till\", color=red];\n"
  pub several :
      left_text (asker t (at_field kinds.Ambiguous ∷ [])) 3 (label_text names 3 [])
      (places.Class 3 ∷ places.Member 1 2 ∷ [])
      ≡ codes "  \"Shop\" -> \"Till\" [label=\"Till\", color=red];\n"
      ++ codes "  \"Shop\" -> \"Drawer#open\" [label=\"Till\", color=red];\n"
  -- the shop is disabled, so nothing is wrong
  pub not_live :
      left_text (asker t []) 3 (label_text names 3 []) []
      ≡ codes "  \"Shop\" -> \"?Till\" [label=\"Till\"];\n"

-- a bean with a producer and an observer
abbrev pub drawer : Class
drawer =
    record {
      name = 1;
      extends = None;
      implements = [];
      is_abstract = false;
      is_final = false;
      bindings = [];
      bean = Some (record {
        scope = scopes.ApplicationScoped;
        quals = [];
        typed = None;
        alternative = false;
        priority = None;
        specializes = false;
      });
      fields = [];
      inject = [];
      constructor = None;
      members =
          members.Producer (record {
            name = 2;
            body = 2;
            ty = 3;
            quals = [];
            typed = None;
            scope = scopes.RequestScoped;
            params = [];
            bindings = [];
          })
          ∷ members.Observer (record {
            name = 6;
            body = 6;
            ty = 5;
            quals = [];
            params = [];
            priority = None;
            if_exists = false;
            bindings = [];
          })
          ∷ [];
    }

abbrev pub deployment : Deployment
deployment =
    record {
      names = names;
      interfaces = [];
      qualifiers = [];
      bindings = [];
      exceptions = [];
      classes = drawer ∷ [];
      interceptors = [];
      selected = [];
      order = [];
      scripts = [];
    }

-- its picture without tables, with a problem
abbrev pub Whole : Type 0
Whole =
    picture (record {
      deployment = deployment;
      tables = None;
      problems =
          (record { kind = kinds.UnknownBody; place = Some (places.Member 1 2) })
          ∷ (record { kind = kinds.TooMany; place = None }) ∷ [];
    })
    ≡ codes "digraph \"cdi\" {\n"
    ++ (codes "  rankdir=LR;\n"
    ++ (codes "  node [shape=box, style=dashed, color=gray];\n"
    ++ (codes "  \"Drawer\" -> \"Drawer#open\" [label=\"produces\", style=dotted];\n"
    ++ (codes "  \"event Sale\" [label=\"Sale\", shape=ellipse, style=solid, color=black];\n"
    ++ (codes "  \"event Sale\" -> \"Drawer\" [label=\"note\"];\n"
    ++ (codes "  \"P12 UnknownBody Drawer#open\" [shape=note, style=solid, color=red];\n"
    ++ (codes "  \"P12 UnknownBody Drawer#open\" -> \"Drawer\" [label=\"at\", color=red];\n"
    ++ (codes "  \"P22 TooMany\" [shape=note, style=solid, color=red];\n"
    ++ codes "}\n"))))))))

pub record WorkedLines : Type 0 where
  pub nodes : Nodes
  pub points : (t : BeanTables) → Points t
  pub whole : Whole
