-- The managed beans of a bean list, by their classes.
use Rattle.std.proofs.Common.{ℕ, ◌≡◌, ◌∙◌, inl, inr, Bool, true, false, List, [], ◌∷◌, filter, refl, sym, ap, subst, if◌then◌else◌}
use Rattle.std.specs.List.{AllZip, flat_map}
use Rattle.cdi_bean_check.specs.ManagedBeans.{is_bean}
use Rattle.cdi_bean_rules.specs.Limits.{is_producer}
use Rattle.cdi_beans.specs.Beans.{IsBeanOf, Source, products_in, sources_in}
use Rattle.cdi_beans.specs.declared.bean.Bean.{Bean}
use Rattle.cdi_beans.specs.declared.bean.BeanKind.TheVariants as kinds
use Rattle.cdi_deployment.specs.declared.deployment.Class.{Class}
use Rattle.cdi_deployment.specs.declared.deployment.Deployment.{Deployment}
use Rattle.cdi_quals.specs.declared.types.QualifierType.{QualifierType}
use Rattle.cdi_accepted.proofs.Beans.{before}
use Rattle.cdi_accepted.proofs.Lists.{Among, among_flat_map, mapped, part_of}

after : {A B : Type 0} (R : A → B → Type 0) (xs : List A) (ys : List B) (x : A) → AllZip R xs ys → Among x xs → (y : B) × Among y ys × R x y
after R [] [] x zip a = absurd a
after R [] (z ∷ ys) x zip a = absurd zip
after R (z ∷ xs) [] x zip a = absurd zip
after {A} {B} R (x ∷ xs) (z ∷ ys) y zip (inl e) = (z, inl refl, subst (λ (k : A). R k z) (sym e) zip.0)
after R (x ∷ xs) (z ∷ ys) y zip (inr a) = let more = after R xs ys y zip.1 a in (more.0, inr more.1, more.2)

abbrev source_class : Source → ℕ
source_class (Source.AClass c) = c.name
source_class (Source.AProducer c m) = c.name

class_of : (d : Deployment) (qualifiers : List QualifierType) (s : Source) (b : Bean) → IsBeanOf d qualifiers s b → b.class ≡ source_class s
class_of d qualifiers (Source.AClass c) b (IsBeanOf.managed uses by has with) = by.class
class_of d qualifiers (Source.AProducer c m) b (IsBeanOf.produced by with) = by.declared.class
class_of d qualifiers (Source.AProducer c m) b (IsBeanOf.held by with) = by.declared.class

managed_parts : (d : Deployment) (qualifiers : List QualifierType) (c : Class) (b : Bean) → IsBeanOf d qualifiers (Source.AClass c) b → (b.kind ≡ kinds.Managed) × (b.class ≡ c.name)
managed_parts d qualifiers c b (IsBeanOf.managed uses by has with) = (with.kind_is, by.class)

-- a class that makes a bean
class_makes : (c : Class) → is_bean c ≡ true → Among (Source.AClass c) (sources_in c)
class_makes c e = subst (λ (k : Bool). Among (Source.AClass c) (if k then Source.AClass c ∷ products_in c c.members else [])) (sym e) (inl refl)

record MakesClass (s : Source) (c : Class) : Type 0 where
  named : source_class s ≡ c.name
  is_bean : is_bean c ≡ true

makes_class : (s : Source) (c : Class) → Among s (sources_in c) → MakesClass s c
makes_class s c a = by (is_bean c) refl a
  where
    by : (k : Bool) → is_bean c ≡ k → Among s (if k then Source.AClass c ∷ products_in c c.members else []) → MakesClass s c
    by false e a = absurd a
    by true e (inl q) = record { named = ap source_class q; is_bean = e }
    by true e (inr q) =
        let m = mapped (Source.AProducer c) (filter is_producer c.members) s q in
        record { named = ap source_class m.is; is_bean = e }

pub record HasManaged (beans : List Bean) (class : ℕ) : Type 0 where
  pub bean : Bean
  pub stands : Among bean beans
  pub kind : bean.kind ≡ kinds.Managed
  pub of_class : bean.class ≡ class

module _ (d : Deployment) (qualifiers : List QualifierType) (beans : List Bean) (zip : AllZip (IsBeanOf d qualifiers) (flat_map sources_in d.classes) beans) where
  -- the bean of a class that makes one
  pub managed_of : (c : Class) → Among c d.classes → is_bean c ≡ true → HasManaged beans c.name
  managed_of c stands e =
      let found = after (IsBeanOf d qualifiers) (flat_map sources_in d.classes) beans (Source.AClass c) zip (among_flat_map sources_in d.classes c (Source.AClass c) stands (class_makes c e)) in
      let both = managed_parts d qualifiers c found.0 found.2 in
      record { bean = found.0; stands = found.1; kind = both.0; of_class = both.1 }

  -- the bean of the class that declares a bean of the list
  pub has_managed : (b : Bean) → Among b beans → HasManaged beans b.class
  has_managed b a =
      let source = before (IsBeanOf d qualifiers) (flat_map sources_in d.classes) beans b zip a in
      let part = part_of sources_in d.classes source.item source.stands in
      let makes = makes_class source.item part.item part.part in
      let P : ℕ → Type 0 = HasManaged beans in
      subst P (sym makes.named ∙ sym (class_of d qualifiers source.item b source.related)) (managed_of part.item part.stands makes.is_bean)
