-- The injection points of a picture (Jakarta CDI 4.0, Injection points), with the beans that are left for each. No bean is built in,
-- so what a point asks for has to be declared.
use Rattle.std.specs.Prelude.{ℕ, ◌-◌, ◌==◌, Bool, true, false, ◌&&◌, List, [], ◌∷◌, ◌++◌, codes, decimal, length, min, take, Option, Some, None, if◌then◌else◌}
use Rattle.std.specs.List.{flat_map, list_any}
use Rattle.cdi_base.specs.declared.place.Place.{Place}
use Rattle.cdi_base.specs.declared.uses.Use.{Use}
use Rattle.cdi_bean_check.specs.Qualifiers.{full_uses}
use Rattle.cdi_candidates.specs.Candidates.{candidates}
use Rattle.cdi_deployment.specs.Member.{member_params}
use Rattle.cdi_deployment.specs.declared.deployment.Point.{Point}
use Rattle.cdi_pictures.specs.Edges.{edge_line}
use Rattle.cdi_pictures.specs.declared.asker.Asker.{Asker as LentAsker}
use Rattle.cdi_pictures.specs.declared.asker.Drawing.{Drawing as LentDrawing}
use Rattle.cdi_pictures.specs.declared.edge.Look.{Look}
use Rattle.cdi_pictures.specs.declared.edge.Look.TheVariants as looks
use Rattle.cdi_problems.specs.Elements.{Element, place_of}
use Rattle.cdi_problems.specs.Places.{name_text, place_text, same_place}
use Rattle.cdi_problems.specs.declared.problem.Problem.{Problem}
use Rattle.cdi_problems.specs.declared.problem.ProblemKind.{ProblemKind}
use Rattle.cdi_problems.specs.declared.problem.ProblemKind.TheVariants as kinds
use Rattle.cdi_resolve.specs.Filters.{enabled_of}
use Rattle.cdi_resolve.specs.declared.bean_tables.BeanTables.{BeanTables}

-- by what the points of a deployment are drawn
pub record Drawing : Type 0 where
  pub names : List (List ℕ)
  pub tables : BeanTables
  pub problems : List Problem

-- the class or the interceptor that has a point, and the place of its field, its constructor or its member
pub record Asker : Type 0 where
  pub drawing : Drawing
  pub owner : ℕ
  pub place : Place

abbrev pub drawing_of : LentDrawing → Drawing
drawing_of d = record { names = d.names.now; tables = d.tables.now; problems = d.problems.now }

abbrev pub asker_of : LentAsker → Asker
asker_of a = record { drawing = drawing_of a.drawing; owner = a.owner; place = a.place }

-- what is told where not just one bean is left
abbrev pub is_of_point : ProblemKind → Bool
is_of_point kinds.Unsatisfied = true
is_of_point kinds.Ambiguous = true
is_of_point _ = false

abbrev pub is_at : Option Place → Place → Bool
is_at None place = false
is_at (Some own) place = same_place own place

abbrev pub is_faulty : List Problem → Place → Bool
is_faulty problems place = list_any (λ p. is_of_point p.kind && is_at p.place place) problems

-- red if such a problem is told of the place; a point that isn't live has none
abbrev pub look_at : List Problem → Place → Look
look_at problems place = if is_faulty problems place then looks.Red else looks.Plain

-- a type with qualifiers
abbrev pub label_text : List (List ℕ) → ℕ → List Use → List ℕ
label_text names ty quals =
    name_text names ty ++ flat_map (λ u. codes " @" ++ name_text names u.name) quals

-- to a node for a type that no bean has
abbrev pub unknown_line : Asker → ℕ → List ℕ → List ℕ
unknown_line a ty label =
    edge_line (name_text a.drawing.names a.owner) (codes "?" ++ name_text a.drawing.names ty) label
    (look_at a.drawing.problems a.place)

abbrev pub bean_edge : Asker → List ℕ → Look → Place → List ℕ
bean_edge a label look place =
    edge_line (name_text a.drawing.names a.owner) (place_text a.drawing.names place) label look

abbrev pub bean_edges : Asker → List ℕ → Look → List Place → List ℕ
bean_edges a label look places = flat_map (bean_edge a label look) places

-- to a node that tells how many beans aren't drawn, if there are some
unfoldable pub others_line : Asker → List ℕ → ℕ → List ℕ
others_line a label count =
    if count == 0 then []
    else edge_line (name_text a.drawing.names a.owner) (decimal count ++ codes " more") label
    (look_at a.drawing.problems a.place)

-- of several beans 16 at most are drawn
abbrev pub drawn : List Place → ℕ
drawn places = min (length places) 16

abbrev pub several_text : Asker → List ℕ → List Place → List ℕ
several_text a label places =
    bean_edges a label (look_at a.drawing.problems a.place) (take (drawn places) places)
    ++ others_line a label (length places - drawn places)

-- to each bean that is left
abbrev pub left_text : Asker → ℕ → List ℕ → List Place → List ℕ
left_text a ty label [] = unknown_line a ty label
left_text a ty label (p ∷ []) = bean_edge a label looks.Plain p
left_text a ty label (p ∷ q ∷ ps) = several_text a label (p ∷ q ∷ ps)

abbrev pub left : BeanTables → ℕ → List Use → List Place
left t ty quals = candidates ty (full_uses t.declared.qualifiers quals) (enabled_of t.resolver)

unfoldable pub asked_text : Asker → ℕ → List Use → List ℕ
asked_text a ty quals =
    left_text a ty (label_text a.drawing.names ty quals) (left a.drawing.tables ty quals)

abbrev pub params_text : Asker → List Point → List ℕ
params_text a params = flat_map (λ p. asked_text a p.ty p.quals) params

abbrev pub asker_in : Drawing → ℕ → Element → Asker
asker_in d owner e = record { drawing = d; owner = owner; place = place_of e }

-- an injected field is a point, and so is each injected parameter
abbrev pub element_text : Drawing → Element → List ℕ
element_text d (Element.AnInjectedField i c f) =
    asked_text (asker_in d c.name (Element.AnInjectedField i c f)) f.ty f.quals
element_text d (Element.AnInterceptorInjectedField i j f) =
    asked_text (asker_in d j.name (Element.AnInterceptorInjectedField i j f)) f.ty f.quals
element_text d (Element.AConstructor i c k) =
    params_text (asker_in d c.name (Element.AConstructor i c k)) k.params
element_text d (Element.AMember i c m) =
    params_text (asker_in d c.name (Element.AMember i c m)) (member_params m)
element_text d _ = []

abbrev pub points_text : Drawing → List Element → List ℕ
points_text d elements = flat_map (element_text d) elements
