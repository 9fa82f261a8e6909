-- What fits tables and bodies that may do more fits them if they may do less.
use Rattle.std.proofs.Common.{ℕ, List, [], ◌∷◌}
use Rattle.std.specs.List.{AllByRecursion}
use Rattle.cdi_base.specs.declared.act.Act.{Act}
use Rattle.cdi_base.specs.declared.place.InterceptorMethod.{InterceptorMethod}
use Rattle.cdi_base.specs.declared.place.InterceptorMethod.TheVariants as roles
use Rattle.cdi_bodies.specs.declared.view.View.{View}
use Rattle.cdi_machine.specs.Runs.{Legal}
use Rattle.cdi_machine.specs.Tables.{Bean, Interceptor, Kind, Lifecycle, Managed, Member, Method, Observer, Product, Source, Step, Tables}
use Rattle.cdi_machine.specs.Words.{Asked, Fields}
use Rattle.cdi_ledger.specs.Whose.{IsIn}
use Rattle.cdi_whole.specs.Fits.{Fits, FitsBean, FitsBody, FitsChain, FitsClass, FitsKind, FitsLifecycle, FitsManaged, FitsMember, FitsMethod, FitsObserver, FitsProduct, FitsRole, FitsSource, FitsStep, FitsSteps, Site, class_site, intercepted_by, interceptor_site, ready_after}

each : {A : Type 0} (P Q : A → Type 0) → ((x : A) → P x → Q x) → (xs : List A) → AllByRecursion P xs → AllByRecursion Q xs
each P Q f [] h = tt
each P Q f (x ∷ xs) h = (f x h.0, each P Q f xs h.1)

module _ (t : Tables) (large small : Legal) (less : (id count : ℕ) (fields : Fields) (view : View) (act : Act) → small.gives id count fields view act → large.gives id count fields view act) where
  body_less : (s : Site) → FitsBody t large s → FitsBody t small s
  body_less s f count fields view a given = f count fields view a (less s.body count fields view a given)

  role_less : (i : ℕ) (role : InterceptorMethod) → FitsRole t large i role → FitsRole t small i role
  role_less i role f = record { interceptor = f.interceptor; known = f.known; body = f.body; has = f.has; fits = body_less (interceptor_site f.interceptor f.body) f.fits }

  chain_less : (role : InterceptorMethod) (ready chain : List ℕ) → FitsChain t large role ready chain → FitsChain t small role ready chain
  chain_less role ready chain =
      each (λ i. FitsRole t large i role × IsIn i ready) (λ i. FitsRole t small i role × IsIn i ready) (λ i f. (role_less i role f.0, f.1)) chain

  lifecycle_less : (c : Managed) (points : List Asked) (role : InterceptorMethod) (ready : List ℕ) (l : Lifecycle) → FitsLifecycle t large c points role ready l → FitsLifecycle t small c points role ready l
  lifecycle_less c points role ready l f =
      record {
        chain = chain_less role ready l.chain f.chain;
        callbacks = each (λ m. FitsBody t large (class_site c points m.body)) (λ m. FitsBody t small (class_site c points m.body)) (λ m. body_less (class_site c points m.body)) l.callbacks f.callbacks;
      }

  member_less : (c : Managed) (m : Member) → FitsMember t large c m → FitsMember t small c m
  member_less c m f = record { chain = chain_less roles.AroundInvoke (intercepted_by c.plan) m.chain f.chain; body = body_less (class_site c m.points m.code.body) f.body }

  method_less : (c : Managed) (m : Method) → FitsMethod t large c m → FitsMethod t small c m
  method_less c m f = record { chain = chain_less roles.AroundInvoke (intercepted_by c.plan) m.chain f.chain; body = body_less (class_site c [] m.code.body) f.body }

  step_less : (c : Managed) (ready : List ℕ) (s : Step) → FitsStep t large c ready s → FitsStep t small c ready s
  step_less c ready (Step.Intercept i) f = f
  step_less c ready (Step.Construct points l) f = lifecycle_less c points roles.AroundConstruct ready l f
  step_less c ready (Step.Inject field point) f = f
  step_less c ready (Step.Initialize m points) f = body_less (class_site c points m.body) f
  step_less c ready (Step.Complete l) f = lifecycle_less c [] roles.PostConstruct ready l f

  steps_less : (c : Managed) (ready : List ℕ) (ss : List Step) → FitsSteps t large c ready ss → FitsSteps t small c ready ss
  steps_less c ready [] f = tt
  steps_less c ready (s ∷ more) f = (step_less c ready s f.0, steps_less c (ready_after s ready) more f.1)

  class_less : (c : Managed) → FitsClass t large c → FitsClass t small c
  class_less c f =
      record {
        steps = steps_less c [] c.plan f.steps;
        methods = λ name m has. method_less c m (f.methods name m has);
        pre_destroy = lifecycle_less c [] roles.PreDestroy (intercepted_by c.plan) c.pre_destroy f.pre_destroy;
      }

  source_less : (c : Managed) (s : Source) → FitsSource t large c s → FitsSource t small c s
  source_less c (Source.ProducerMethod m) f = member_less c m f
  source_less c (Source.ProducerField field) f = f

  managed_less : (b : ℕ) (c : Managed) → FitsManaged t large b c → FitsManaged t small b c
  managed_less b c f = record { is = f.is; fits = class_less c f.fits }

  product_less : (p : Product) → FitsProduct t large p → FitsProduct t small p
  product_less p f =
      record {
        class = f.class;
        declares = managed_less p.declaring f.class f.declares;
        source = source_less f.class p.source f.source;
        disposers = each (FitsMember t large f.class) (FitsMember t small f.class) (member_less f.class) p.disposers f.disposers;
      }

  kind_less : (k : Kind) → FitsKind t large k → FitsKind t small k
  kind_less (Kind.Class c) f = class_less c f
  kind_less (Kind.Producer p) f = product_less p f

  bean_less : (b : ℕ) → FitsBean t large b → FitsBean t small b
  bean_less b f = record { bean = f.bean; known = f.known; kind = kind_less f.bean.kind f.kind }

  observer_less : (o : Observer) → FitsObserver t large o → FitsObserver t small o
  observer_less o f = record { class = f.class; observes = managed_less o.bean f.class f.observes; member = member_less f.class o.member f.member }

  pub fits_less : Fits t large → Fits t small
  fits_less f =
      record {
        resolved = λ asked b e. bean_less b (f.resolved asked b e);
        observed = λ class qualifiers.
            each (AllByRecursion (FitsObserver t large)) (AllByRecursion (FitsObserver t small)) (each (FitsObserver t large) (FitsObserver t small) observer_less)
            (t.observers class qualifiers) (f.observed class qualifiers);
        texts = f.texts;
      }
