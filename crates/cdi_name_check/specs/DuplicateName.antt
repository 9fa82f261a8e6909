-- Names that stand twice.
use Rattle.std.specs.Prelude.{ℕ, ◌≡◌, List, [], ◌∷◌, ◌++◌, map, Option, Some, None, Contains}
use Rattle.std.specs.List.{flat_map, filter_map}
use Rattle.cdi_base.specs.BuiltIn.{number_of, all_built_in}
use Rattle.cdi_base.specs.declared.built_in.BuiltIn.{BuiltIn}
use Rattle.cdi_base.specs.declared.built_in.BuiltIn.TheVariants as names
use Rattle.cdi_base.specs.declared.place.Place.{Place}
use Rattle.cdi_deployment.specs.declared.deployment.Member.{Member}
use Rattle.cdi_deployment.specs.declared.deployment.Member.TheVariants as members
use Rattle.cdi_name_check.specs.declared.claim.Claim.{Claim}
use Rattle.cdi_name_check.specs.declared.claim.Claim.TheVariants as claims
use Rattle.cdi_problems.specs.Elements.{Element, place_of}
use Rattle.cdi_deployment.specs.Member.{member_name}
use Rattle.cdi_problems.specs.Findings.{Placed, placed}
use Rattle.cdi_types.specs.ListsThose.{ListsThose}

-- the name of a member within its class, and the place of a callback
abbrev pub member_claims : ℕ → Member → List Claim
member_claims i (members.PostConstruct m) = claims.ClassPart i m.name ∷ claims.PostConstruct i ∷ []
member_claims i (members.PreDestroy m) = claims.ClassPart i m.name ∷ claims.PreDestroy i ∷ []
member_claims i m = claims.ClassPart i (member_name m) ∷ []

-- what an element claims for itself alone
abbrev pub claims_of : Element → List Claim
claims_of (Element.AnInterface i) = claims.Type i.name ∷ []
claims_of (Element.AQualifier q) = claims.Qualifier q.name ∷ []
claims_of (Element.ABinding b) = claims.Binding b.name ∷ []
claims_of (Element.AnException x) = claims.Exception x.name ∷ []
claims_of (Element.AClass i c) = claims.Type c.name ∷ []
claims_of (Element.AField i c f) = claims.ClassPart i f.name ∷ []
claims_of (Element.AnInjectedField i c f) = claims.ClassPart i f.name ∷ []
claims_of (Element.AConstructor i c k) = []
claims_of (Element.AMember i c m) = member_claims i m
claims_of (Element.AnInterceptor i j) = claims.Type j.name ∷ []
claims_of (Element.AnInterceptorField i j f) = claims.InterceptorPart i f.name ∷ []
claims_of (Element.AnInterceptorInjectedField i j f) = claims.InterceptorPart i f.name ∷ []
claims_of (Element.ASelectedName name) = claims.SelectedName name ∷ []
claims_of (Element.AnOrderedName name) = claims.OrderedName name ∷ []
claims_of (Element.AScript s) = claims.Script s.name ∷ []

-- what a built-in name claims before anything is declared: it is a class, a qualifier, the member of a qualifier, or an exception
abbrev pub built_in_claim : BuiltIn → Option Claim
built_in_claim names.Object = Some (claims.Type (number_of names.Object))
built_in_claim names.Startup = Some (claims.Type (number_of names.Startup))
built_in_claim names.Shutdown = Some (claims.Type (number_of names.Shutdown))
built_in_claim names.Any = Some (claims.Qualifier (number_of names.Any))
built_in_claim names.Default = Some (claims.Qualifier (number_of names.Default))
built_in_claim names.Named = Some (claims.Qualifier (number_of names.Named))
built_in_claim names.Initialized = Some (claims.Qualifier (number_of names.Initialized))
built_in_claim names.BeforeDestroyed = Some (claims.Qualifier (number_of names.BeforeDestroyed))
built_in_claim names.Destroyed = Some (claims.Qualifier (number_of names.Destroyed))
built_in_claim names.Value = None
built_in_claim names.ContextNotActiveException =
    Some (claims.Exception (number_of names.ContextNotActiveException))
built_in_claim names.CreationException = Some (claims.Exception (number_of names.CreationException))
built_in_claim names.IllegalProductException =
    Some (claims.Exception (number_of names.IllegalProductException))
built_in_claim names.IllegalStateException =
    Some (claims.Exception (number_of names.IllegalStateException))
built_in_claim names.IllegalArgumentException =
    Some (claims.Exception (number_of names.IllegalArgumentException))
built_in_claim names.NullPointerException =
    Some (claims.Exception (number_of names.NullPointerException))
built_in_claim names.ObserverException = Some (claims.Exception (number_of names.ObserverException))
built_in_claim names.UnsatisfiedResolutionException =
    Some (claims.Exception (number_of names.UnsatisfiedResolutionException))
built_in_claim names.AmbiguousResolutionException =
    Some (claims.Exception (number_of names.AmbiguousResolutionException))

abbrev pub built_in_claims : List Claim
built_in_claims = filter_map built_in_claim all_built_in

-- what is claimed once some elements have come
abbrev pub claims_after : List Element → List Claim
claims_after before = built_in_claims ++ flat_map claims_of before

-- P1 DuplicateName: the element claims what is claimed before it
pub record HasDuplicateName (p : Placed) : Type 0 where
  pub claim : Claim
  pub claimed : Contains (claims_of p.element) claim
  pub earlier : Contains (claims_after p.before) claim

-- the places of duplicate names before each is kept once
pub record ListDuplicates (elements : List Element) (found : List Place) : Type 0 where
  pub those : List Placed
  pub listed : ListsThose HasDuplicateName (placed elements) those
  pub are : found ≡ map (λ p. place_of p.element) those
