-- The parts of an own instance by its tables, and by the definition.
use Rattle.std.proofs.Common.{◌≡◌, ◌∙◌, ◌&&◌, ℕ, Bool, true, false, List, [], ◌∷◌, ◌++◌, Option, Some, None, option_map, option_to_list, refl, sym, ap}
use Rattle.std.proofs.Math.Path.{fun_ext}
use Rattle.std.specs.Prelude.{◌↔◌, IsTrue}
use Rattle.std.specs.List.{filter_map, cons_option}
use Rattle.std.specs.Prelude.{option_and_then}
use Rattle.cdi_base.specs.declared.place.InterceptorMethod.{InterceptorMethod}
use Rattle.cdi_base.specs.declared.place.InterceptorMethod.TheVariants as methods
use Rattle.cdi_base.specs.declared.place.Place.{Place}
use Rattle.cdi_bodies.specs.declared.shape.Shape.{Shape}
use Rattle.cdi_body_check.specs.Findings.{AddsPlacesOf}
use Rattle.cdi_body_check.specs.Sites.{Site, is_live, params_of, body_of, constructor_site, member_body, member_site, class_sites, method_body, method_sites, interceptor_sites}
use Rattle.cdi_deployment.specs.declared.deployment.Class.{Class}
use Rattle.cdi_deployment.specs.declared.deployment.Constructor.{Constructor}
use Rattle.cdi_deployment.specs.declared.deployment.InjectedField.{InjectedField}
use Rattle.cdi_deployment.specs.declared.deployment.Interceptor.{Interceptor}
use Rattle.cdi_deployment.specs.declared.deployment.Member.{Member}
use Rattle.cdi_live.specs.Enabled.{Enabled}
use Rattle.cdi_types.proofs.Lines.{one_line}
use Rattle.cdi_types.specs.ListsThose.{ListsThose}
use Rattle.cdi_types.specs.Declarations.{declarations_of}
use Rattle.cdi_shape_check.specs.Application.{Application}
use Rattle.cdi_shape_check.specs.BodyOutsideShape.{HasBodyOutsideShape, is_outside, is_outside_with}
use Rattle.cdi_shape_check.specs.OwnParts.{OwnParts, AreClassParts, ArePartsOf, parts_of_line, parts_of_interceptor}

module _ (f g : ℕ → Bool) (i j : ℕ → Option InjectedField) (m n : ℕ → ℕ → Bool) where
  parts : (ℕ → Bool) → (ℕ → Option InjectedField) → (ℕ → ℕ → Bool) → OwnParts
  parts f i m = record { has_field = f; injected = i; has_method = m }

  pub same_parts : ((name : ℕ) → f name ≡ g name) → i ≡ j → ((name count : ℕ) → m name count ≡ n name count)
      → ◌≡◌ {A = OwnParts} (record { has_field = f; injected = i; has_method = m }) (record { has_field = g; injected = j; has_method = n })
  unfolding parts
  same_parts same_fields same_injected same_methods =
      let fields : f ≡ g = fun_ext same_fields in
      let owns : m ≡ n = fun_ext (λ name. fun_ext (same_methods name)) in
      ap (λ (x : ℕ → Bool). parts x i m) fields ∙ ap (λ (x : ℕ → Option InjectedField). parts g x m) same_injected ∙ ap (λ (x : ℕ → ℕ → Bool). parts g j x) owns

-- for each site of a list
unfoldable pub Each : (Site → Type 0) → List Site → Type 0
Each P [] = Unit {0}
Each P (s ∷ ss) = P s × Each P ss

module _ (P : Site → Type 0) where
  each_both : (xs ys : List Site) → Each P xs → Each P ys → Each P (xs ++ ys)
  unfolding Each
  each_both [] ys e f = f
  each_both (x ∷ xs) ys e f = (e.0, each_both xs ys e.1 f)

  each_option : {A : Type 0} (site : A → Site) (o : Option A) → ((a : A) → P (site a)) → Each P (option_to_list (option_map site o))
  unfolding Each
  each_option site None h = tt
  each_option site (Some a) h = (h a, tt)

-- two sentences that hold of the same sites
module _ (P Q : Site → Type 0) where
  lists : (ss found : List Site) → Each (λ s. P s ↔ Q s) ss → ListsThose P ss found → ListsThose Q ss found
  unfolding Each
  lists [] [] same ListsThose.none = ListsThose.none
  lists [] (f ∷ found) same l = elim l [ ]
  lists (s ∷ ss) [] same (ListsThose.skip out rest) = ListsThose.skip (λ q. out (same.0.1 q)) (lists ss [] same.1 rest)
  lists (s ∷ ss) (f ∷ found) same (ListsThose.keep p rest) = ListsThose.keep (same.0.0 p) (lists ss found same.1 rest)
  lists (s ∷ ss) (f ∷ found) same (ListsThose.skip out rest) = ListsThose.skip (λ q. out (same.0.1 q)) (lists ss (f ∷ found) same.1 rest)

  pub adds_same : (ss : List Site) (old new : List Place) → Each (λ s. P s ↔ Q s) ss → AddsPlacesOf P ss old new → AddsPlacesOf Q ss old new
  adds_same ss old new same a = record { those = a.those; listed = lists ss a.those same a.listed; are = a.are }

first_true : (a b : Bool) → (a && b) ≡ true → a ≡ true
first_true true b e = refl
first_true false b e = absurd cc

second_true : (a b : Bool) → (a && b) ≡ true → b ≡ true
second_true true b e = e
second_true false b e = absurd cc

both_true : (a b : Bool) → a ≡ true → b ≡ true → (a && b) ≡ true
both_true true b e f = f
both_true false b e f = absurd cc

module _ (app : Application) (e : Enabled) (shape_of : ℕ → Option Shape) (own : OwnParts) where
  Sentence : Site → Type 0
  Sentence s = HasBodyOutsideShape app e shape_of s

  Tested : Site → Type 0
  Tested s = IsTrue (is_outside_with app e shape_of own s)

  same_sentence : (s : Site) → ArePartsOf app.deployment s own → ((other : OwnParts) → ArePartsOf app.deployment s other → other ≡ own) → Tested s ↔ Sentence s
  unfolding Tested Sentence
  same_sentence s are only = (
    λ h. record {
      live = first_true (is_live e s) (is_outside app own (params_of s) (shape_of (body_of s))) h;
      parts = own;
      are_parts = are;
      outside = second_true (is_live e s) (is_outside app own (params_of s) (shape_of (body_of s))) h;
    },
    λ h. both_true (is_live e s) (is_outside app own (params_of s) (shape_of (body_of s))) h.live
        (ap (λ parts. is_outside app parts (params_of s) (shape_of (body_of s))) (sym (only h.parts h.are_parts)) ∙ h.outside),
  )

  Same : Site → Type 0
  Same s = Tested s ↔ Sentence s

  module _ (c : Class) (are : AreClassParts app.deployment c own) where
    only : (other : OwnParts) → AreClassParts app.deployment c other → other ≡ own
    only other there =
        there.are ∙ ap parts_of_line (one_line (declarations_of app.deployment) app.deployment.classes c.name there.line are.line there.is_line are.is_line)
        ∙ sym are.are

    of_constructor : (o : Option Constructor) → Each Same (option_to_list (option_and_then (constructor_site c) o))
    unfolding Each Same
    of_constructor None = tt
    of_constructor (Some k) = each_option (λ s. Tested s ↔ Sentence s) (Site.AConstructor c k) k.body (λ body. same_sentence (Site.AConstructor c k body) are only)

    of_members : (ms : List Member) → Each Same (filter_map (member_site c) ms)
    unfolding Each Same
    of_members [] = tt
    of_members (m ∷ ms) = by (of_members ms) (member_body m)
      where
        by : Each (λ s. Tested s ↔ Sentence s) (filter_map (member_site c) ms) → (o : Option ℕ) → Each (λ s. Tested s ↔ Sentence s) (cons_option (option_map (Site.AMember c m) o) (filter_map (member_site c) ms))
        by rest None = rest
        by rest (Some body) = (same_sentence (Site.AMember c m body) are only, rest)

    pub class_places : (old new : List Place) → AddsPlacesOf (λ s. IsTrue (is_outside_with app e shape_of own s)) (class_sites c) old new → AddsPlacesOf (HasBodyOutsideShape app e shape_of) (class_sites c) old new
    unfolding Same Tested Sentence
    class_places old new adds =
        adds_same (λ s. IsTrue (is_outside_with app e shape_of own s)) (HasBodyOutsideShape app e shape_of) (class_sites c) old new
        (each_both Same (option_to_list (option_and_then (constructor_site c) c.constructor)) (filter_map (member_site c) c.members) (of_constructor c.constructor) (of_members c.members)) adds

  module _ (j : Interceptor) (are : own ≡ parts_of_interceptor j) where
    of_method : (method : InterceptorMethod) → Each Same (method_sites j method)
    unfolding Same
    of_method method = each_option (λ s. Tested s ↔ Sentence s) (Site.AnInterceptorMethod j method) (method_body j method) (λ body. same_sentence (Site.AnInterceptorMethod j method body) are (λ other there. there ∙ sym are))

    pub interceptor_places : (old new : List Place) → AddsPlacesOf (λ s. IsTrue (is_outside_with app e shape_of own s)) (interceptor_sites j) old new → AddsPlacesOf (HasBodyOutsideShape app e shape_of) (interceptor_sites j) old new
    unfolding Same Tested Sentence
    interceptor_places old new adds =
        adds_same (λ s. IsTrue (is_outside_with app e shape_of own s)) (HasBodyOutsideShape app e shape_of) (interceptor_sites j) old new
        (each_both Same _ (method_sites j methods.PreDestroy)
        (each_both Same _ (method_sites j methods.PostConstruct)
        (each_both Same (method_sites j methods.AroundInvoke) (method_sites j methods.AroundConstruct) (of_method methods.AroundInvoke) (of_method methods.AroundConstruct))
        (of_method methods.PostConstruct)) (of_method methods.PreDestroy)) adds
