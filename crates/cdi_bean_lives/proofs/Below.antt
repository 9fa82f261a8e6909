-- A class that is added has what the classes of its line give it.
use Rattle.std.proofs.Common.{ℕ, ◌≡◌, ◌∙◌, ◌&&◌, Bool, true, false, not, cond, List, [], ◌∷◌, ◌++◌, map, filter, Option, Some, None, option_and_then, option_map, refl, sym, ap, append-nil}
use Rattle.std.proofs.lemmas.Option.{same_Some}
use Rattle.std.proofs.lemmas.Grind.{flat_map-append}
use Rattle.std.proofs.lemmas.List.{map-append}
use Rattle.std.specs.List.{cons_option, filter_map}
use Rattle.std.specs.Option.{option_or}
use Rattle.cdi_base.specs.Maps.{at}
use Rattle.cdi_bean_lives.proofs.Declared.{codes_below, declared, names, steps_below}
use Rattle.cdi_bean_lives.proofs.Overriding.{overriding}
use Rattle.cdi_bean_lives.specs.Lives.{HasLife, IsOwnLife, given_methods, method_told}
use Rattle.cdi_bean_lives.specs.declared.class.KeptClass.{KeptClass}
use Rattle.cdi_class_lives.specs.ClassLives.{IsAdded, fields_in, injections_in, life_from, method_in, post_constructs_in, pre_destroys_in}
use Rattle.cdi_class_lives.specs.Inheriting as lives
use Rattle.cdi_class_lives.specs.declared.life.ClassLife.{ClassLife}
use Rattle.cdi_class_lives.specs.declared.lives.ClassLives.{ClassLives}
use Rattle.cdi_class_lives.specs.declared.own_life.OwnLife.{OwnLife}
use Rattle.cdi_deployment.specs.declared.deployment.Class.{Class}
use Rattle.cdi_deployment.specs.declared.deployment.Field.{Field}
use Rattle.cdi_deployment.specs.declared.deployment.Member.{Member}
use Rattle.cdi_deployment.specs.declared.deployment.Member.TheVariants as members
use Rattle.cdi_deployment.specs.Member.{member_name}
use Rattle.cdi_machine.specs.Tables as machine
use Rattle.cdi_numbered_plans.specs.Machine.{machine_code, machine_method, machine_methods, method_with}
use Rattle.cdi_numbered_plans.specs.Methods.{method_by}
use Rattle.cdi_numbered_plans.specs.Numbered.{bodies_by, steps_by}
use Rattle.cdi_numbered_plans.specs.declared.numbering.Numbering.{Numbering}
use Rattle.cdi_method_maps.specs.NamedMethods.{is_among, method_named}
use Rattle.cdi_planner.proofs.Inheriting.{injections_below, post_constructs_below, pre_destroys_below}
use Rattle.cdi_planner.specs.Codes.{business_method, member_chain, member_code, post_construct, pre_destroy}
use Rattle.cdi_planner.specs.Plans.{initial_fields}
use Rattle.cdi_planner.specs.Steps.{injections}
use Rattle.cdi_planner.specs.Tables.{PlanTables}
use Rattle.cdi_plans.specs.Chains.{HaveSameChains}
use Rattle.cdi_plans.specs.declared.plan.BusinessMethod.{BusinessMethod}
use Rattle.cdi_types.proofs.Lines.{one_line}
use Rattle.cdi_types.specs.Line.{IsLineOf}
use Rattle.cdi_types.specs.Members.{declares, fields_of as declared_fields, is_inherited, members_of, parts_of}

-- ---- methods by what they are of

module _ (t : PlanTables) (n : Numbering) (bean : ℕ) where
  -- a business method of the bean, with its name, if its body is registered
  abbrev pub told_of : Class × Member → Option (ℕ × machine.Method)
  told_of p = option_and_then (machine_method (bodies_by n)) (business_method t.chains bean p)

  pub told_all : (ps : List (Class × Member)) → machine_methods (bodies_by n) (filter_map (business_method t.chains bean) ps) ≡ filter_map told_of ps
  told_all [] = refl
  told_all (p ∷ ps) = by (told_all ps) (business_method t.chains bean p)
    where
      by : machine_methods (bodies_by n) (filter_map (business_method t.chains bean) ps) ≡ filter_map told_of ps → (o : Option BusinessMethod)
          → filter_map (machine_method (bodies_by n)) (cons_option o (filter_map (business_method t.chains bean) ps)) ≡ cons_option (option_and_then (machine_method (bodies_by n)) o) (filter_map told_of ps)
      by rest None = rest
      by rest (Some m) = ap (cons_option (machine_method (bodies_by n) m)) rest

  named_by : (k : BusinessMethod) (y : ℕ × machine.Method) (body : Option ℕ) → option_map (method_with k) body ≡ Some y → y.0 ≡ k.name
  named_by k y None e = absurd cc
  named_by k y (Some body) e = ap (λ (z : ℕ × machine.Method). z.0) (sym (same_Some (method_with k body) y e))

  pub keyed : (owner : Class) (m : Member) (y : ℕ × machine.Method) → told_of (owner, m) ≡ Some y → (y.0 ≡ member_name m) × (is_inherited m ≡ true)
  keyed owner (members.Method m) y e =
      (named_by (record { name = m.name; code = member_code owner m.name m.body; count = m.args; chain = member_chain t.chains bean owner m.name }) y (bodies_by n m.body) e, refl)
  keyed owner (members.Initializer m) y e = absurd cc
  keyed owner (members.PostConstruct m) y e = absurd cc
  keyed owner (members.PreDestroy m) y e = absurd cc
  keyed owner (members.Producer m) y e = absurd cc
  keyed owner (members.ProducerField m) y e = absurd cc
  keyed owner (members.Disposer m) y e = absurd cc
  keyed owner (members.Observer m) y e = absurd cc

  -- those of a line of one class more
  pub told_below : (class : Class) (line : List Class) (name : ℕ) → method_told t n bean (line ++ class ∷ []) name
      ≡ option_or (method_told t n bean (class ∷ []) name) (cond (declares name class) None (method_told t n bean line name))
  told_below class line name =
      ap (λ ms. at ms name) (told_all (members_of (line ++ class ∷ [])))
      ∙ overriding class told_of keyed name line
      ∙ sym (ap (λ ms. option_or (at ms name) (cond (declares name class) None (method_told t n bean line name))) (told_all (members_of (class ∷ [])))
      ∙ ap (λ ms. option_or (at (filter_map told_of (members_of (class ∷ []))) name) (cond (declares name class) None (at ms name))) (told_all (members_of line)))

-- ---- fields

values_of_parts : (class : Class) (fields : List Field) → map (λ (f : Class × Field). f.1) (parts_of class fields) ≡ fields
values_of_parts class [] = refl
values_of_parts class (f ∷ fields) = ap (λ fs. f ∷ fs) (values_of_parts class fields)

-- those of a line of one class more
fields_below : (class : Class) (line : List Class) → initial_fields (line ++ class ∷ []) ≡ initial_fields line ++ class.fields
fields_below class line =
    ap (map (λ (f : Class × Field). f.1)) (flat_map-append (λ (c : Class). parts_of c c.fields) line (class ∷ []))
    ∙ map-append (λ (f : Class × Field). f.1) (declared_fields line) (parts_of class class.fields ++ [])
    ∙ ap (λ fs. initial_fields line ++ fs) (ap (map (λ (f : Class × Field). f.1)) (append-nil (parts_of class class.fields)) ∙ values_of_parts class class.fields)

-- ---- a class more

-- the place of a class that is kept, if there is one
abbrev pub place_of : Option KeptClass → Option ℕ
place_of above = option_map (λ (a : KeptClass). a.place) above

-- what the class above has, if there is one
abbrev pub HasAbove : PlanTables → Numbering → ClassLives → Bool → ℕ → List Class → Option KeptClass → Type 0
HasAbove t n l inherits_methods class line None = line ≡ []
HasAbove t n l inherits_methods class line (Some a) = HasLife t n l a.place a.name line × (inherits_methods ≡ true → HaveSameChains t.chains class a.name)

module _ (t : PlanTables) (n : Numbering) (old new : ClassLives) (above : Option KeptClass) (inherits_methods : Bool) (class : Class) (own : OwnLife) (place : ℕ)
    (added : IsAdded old (place_of above) inherits_methods own new place) (is_own : IsOwnLife t n class inherits_methods own) (line : List Class)
  where
    -- what is kept of it
    abbrev kept_above : Option KeptClass → Option ClassLife
    kept_above a = life_from old (place_of a)

    -- what it has, in the words of the line
    record IsAbove (life : Option ClassLife) : Type 0 where
      fields : fields_in old life ≡ initial_fields line
      steps : injections_in old life ≡ steps_by n (injections line)
      post : post_constructs_in old life ≡ map (machine_code (bodies_by n)) (filter_map post_construct (members_of line))
      pre : pre_destroys_in old life ≡ map (machine_code (bodies_by n)) (filter_map pre_destroy (members_of line))
      method : inherits_methods ≡ true → (name : ℕ) → method_in old life name ≡ option_map method_by (method_told t n class.name line name)

    -- a member has one chain for both beans
    same_method : (a : ℕ) → HaveSameChains t.chains class.name a → (p : Class × Member) → told_of t n a p ≡ told_of t n class.name p
    same_method a same (owner, members.Method m) =
        ap (λ (chain : List ℕ). option_map (λ (body : ℕ). method_with (record { name = m.name; code = member_code owner m.name m.body; count = m.args; chain = chain }) body) (bodies_by n m.body))
        (sym (same (record { class = owner.name; name = m.name })))
    same_method a same (owner, members.Initializer m) = refl
    same_method a same (owner, members.PostConstruct m) = refl
    same_method a same (owner, members.PreDestroy m) = refl
    same_method a same (owner, members.Producer m) = refl
    same_method a same (owner, members.ProducerField m) = refl
    same_method a same (owner, members.Disposer m) = refl
    same_method a same (owner, members.Observer m) = refl

    same_methods : (a : ℕ) → HaveSameChains t.chains class.name a → (ps : List (Class × Member)) → filter_map (told_of t n a) ps ≡ filter_map (told_of t n class.name) ps
    same_methods a same [] = refl
    same_methods a same (p ∷ ps) =
        ap (λ o. cons_option o (filter_map (told_of t n a) ps)) (same_method a same p) ∙ ap (cons_option (told_of t n class.name p)) (same_methods a same ps)

    same_told : (a : ℕ) → HaveSameChains t.chains class.name a → (name : ℕ) → method_told t n a line name ≡ method_told t n class.name line name
    same_told a same name =
        ap (λ ms. at ms name) (told_all t n a (members_of line) ∙ same_methods a same (members_of line) ∙ sym (told_all t n class.name (members_of line)))

    is_above : (o : Option KeptClass) → HasAbove t n old inherits_methods class.name line o → IsAbove (kept_above o)
    is_above None has = record {
      fields = ap initial_fields (sym has);
      steps = ap (λ l. steps_by n (injections l)) (sym has);
      post = ap (λ l. map (machine_code (bodies_by n)) (filter_map post_construct (members_of l))) (sym has);
      pre = ap (λ l. map (machine_code (bodies_by n)) (filter_map pre_destroy (members_of l))) (sym has);
      method = λ i name. ap (λ l. option_map method_by (method_told t n class.name l name)) (sym has);
    }
    is_above (Some a) has = record {
      fields = has.0.fields;
      steps = has.0.injections;
      post = has.0.post_constructs;
      pre = has.0.pre_destroys;
      method = λ i name. has.0.methods name ∙ ap (option_map method_by) (same_told a.name (has.1 i) name);
    }

    map_or : (a b : Option machine.Method) → option_or (option_map method_by a) (option_map method_by b) ≡ option_map method_by (option_or a b)
    map_or None b = refl
    map_or (Some x) b = refl

    or_nothing : {X : Type 0} (a : Option X) → option_or a None ≡ a
    or_nothing None = refl
    or_nothing (Some x) = refl

    module _ (is_line : IsLineOf t.types t.classes class.name (line ++ class ∷ [])) (has : HasAbove t n old inherits_methods class.name line above) where
      from_above : IsAbove (kept_above above)
      from_above = is_above above has

      inherited_or_not : (i : Bool) → inherits_methods ≡ i → (name : ℕ)
          → option_or (method_named name own.methods) (cond (i && not (is_among name own.declared)) (method_in old (kept_above above) name) None)
          ≡ option_map method_by (method_told t n class.name (line ++ class ∷ []) name)
      inherited_or_not true e name =
          ap (λ o. option_or o (cond (not (is_among name own.declared)) (method_in old (kept_above above) name) None))
          (is_own.methods name ∙ ap (λ i. option_map method_by (at (machine_methods (bodies_by n) (given_methods t n i class is_own.all)) name)) e)
          ∙ ap (λ b. option_or (option_map method_by (method_told t n class.name (class ∷ []) name)) (cond (not b) (method_in old (kept_above above) name) None))
          (ap (is_among name) is_own.declared ∙ declared class name)
          ∙ ap (λ o. option_or (option_map method_by (method_told t n class.name (class ∷ []) name)) (cond (not (declares name class)) o None)) (from_above.method e name)
          ∙ ap (option_or (option_map method_by (method_told t n class.name (class ∷ []) name))) (by (declares name class))
          ∙ map_or (method_told t n class.name (class ∷ []) name) (cond (declares name class) None (method_told t n class.name line name))
          ∙ ap (option_map method_by) (sym (told_below t n class.name class line name))
        where
          by : (b : Bool) → cond (not b) (option_map method_by (method_told t n class.name line name)) None ≡ option_map method_by (cond b None (method_told t n class.name line name))
          by true = refl
          by false = refl
      inherited_or_not false e name =
          let all = is_own.are_all e in
          or_nothing (method_named name own.methods)
          ∙ is_own.methods name
          ∙ ap (λ i. option_map method_by (at (machine_methods (bodies_by n) (given_methods t n i class is_own.all)) name)) e
          ∙ ap (λ ms. option_map method_by (at (machine_methods (bodies_by n) ms) name)) all.are
          ∙ ap (λ l. option_map method_by (method_told t n class.name l name)) (one_line t.types t.classes class.name all.line (line ++ class ∷ []) all.is_line is_line)

      pub has_life : HasLife t n new place class.name (line ++ class ∷ [])
      has_life = record {
        fields =
            added.fields
            ∙ ap (λ fs. fs ++ own.fields) from_above.fields
            ∙ ap (λ fs. initial_fields line ++ fs) is_own.fields
            ∙ sym (fields_below class line);
        injections =
            added.injections
            ∙ ap (λ names. filter (lives.leaves_step names) (injections_in old (kept_above above)) ++ own.injections) is_own.declared
            ∙ ap (λ ss. filter (lives.leaves_step (names class)) ss ++ own.injections) from_above.steps
            ∙ ap (λ ss. filter (lives.leaves_step (names class)) (steps_by n (injections line)) ++ ss) is_own.injections
            ∙ steps_below class n (injections line) (injections (class ∷ [])) (injections (line ++ class ∷ [])) (injections_below class line);
        post_constructs =
            added.post_constructs
            ∙ ap (λ names. filter (lives.leaves_code names) (post_constructs_in old (kept_above above)) ++ own.post_constructs) is_own.declared
            ∙ ap (λ cs. filter (lives.leaves_code (names class)) cs ++ own.post_constructs) from_above.post
            ∙ ap (λ cs. filter (lives.leaves_code (names class)) (map (machine_code (bodies_by n)) (filter_map post_construct (members_of line))) ++ cs) is_own.post_constructs
            ∙ codes_below class (bodies_by n) (filter_map post_construct (members_of line)) (filter_map post_construct (members_of (class ∷ []))) (filter_map post_construct (members_of (line ++ class ∷ []))) (post_constructs_below class line);
        pre_destroys =
            added.pre_destroys
            ∙ ap (λ names. filter (lives.leaves_code names) (pre_destroys_in old (kept_above above)) ++ own.pre_destroys) is_own.declared
            ∙ ap (λ cs. filter (lives.leaves_code (names class)) cs ++ own.pre_destroys) from_above.pre
            ∙ ap (λ cs. filter (lives.leaves_code (names class)) (map (machine_code (bodies_by n)) (filter_map pre_destroy (members_of line))) ++ cs) is_own.pre_destroys
            ∙ codes_below class (bodies_by n) (filter_map pre_destroy (members_of line)) (filter_map pre_destroy (members_of (class ∷ []))) (filter_map pre_destroy (members_of (line ++ class ∷ []))) (pre_destroys_below class line);
        methods = λ name. added.methods name ∙ inherited_or_not inherits_methods refl name;
      }
