-- Where a bean stands, and its scope, is told by the bean list.
use Rattle.std.proofs.Common.{ℕ, zero, suc, ◌≡◌, ◌∙◌, true, false, List, [], ◌∷◌, Option, Some, None, length, refl, sym, ap, subst, arith}
use Rattle.std.specs.Prelude.{slice_get, option_map, option_and_then}
use Rattle.std.specs.Option.{is_some}
use Rattle.std.proofs.lemmas.Bool.{true≢false}
use Rattle.cdi_base.specs.declared.place.Place.{Place}
use Rattle.cdi_base.specs.declared.scope.Scope.{Scope}
use Rattle.cdi_bean_lives.specs.Beans.{numbered_at}
use Rattle.cdi_bean_lives.specs.declared.kept.KeptBean.{KeptBean}
use Rattle.cdi_beans.specs.declared.bean.Bean.{Bean}
use Rattle.cdi_class_lives.specs.declared.lives.ClassLives.{ClassLives}
use Rattle.cdi_event_tables.specs.Ids.{id_in}
use Rattle.cdi_machine.specs.Tables as machine
use Rattle.cdi_planner.specs.Tables.{PlanTables}
use Rattle.cdi_run_tables.proofs.Enabled.{enabled_at}
use Rattle.cdi_run_tables.proofs.Telling.{both_or_none, kind_in, tells_at}
use Rattle.cdi_run_tables.specs.Kept.{AreKept}
use Rattle.cdi_run_tables.specs.Machine.{bean_at, bean_with, machine_bean, machine_kind, planned_at}
use Rattle.cdi_run_tables.specs.Numbered as spec
use Rattle.cdi_run_tables.specs.Parts.{PlannedBean, RunParts}
use Rattle.cdi_run_tables.specs.Places.{place_of, plan_tables}
use Rattle.cdi_run_tables.specs.Seen.{parts_seen, planned_beans}
use Rattle.cdi_run_tables.specs.declared.parts.KeptParts.{KeptParts}
use Rattle.cdi_resolve.specs.Filters.{is_enabled}

abbrev listed_head : Bean → Place × Scope
listed_head b = (place_of b, b.scope)

abbrev planned_head : PlannedBean → Place × Scope
planned_head b = (b.place, b.scope)

abbrev pub machine_head : machine.Bean → Place × Scope
machine_head b = (b.place, b.scope)

-- a planned bean stands where the listed one does
heads_at : (t : PlanTables) (l : ClassLives) (beans : List Bean) (kept : List KeptBean) → length (planned_beans t l beans kept) ≡ length beans → (n : ℕ)
    → option_map listed_head (slice_get beans n) ≡ option_map planned_head (slice_get (planned_beans t l beans kept) n)
heads_at t l [] kept e n = refl
heads_at t l (b ∷ bs) [] e n = absurd (omega (arith, e))
heads_at t l (b ∷ bs) (k ∷ ks) e zero = refl
heads_at t l (b ∷ bs) (k ∷ ks) e (suc n) = heads_at t l bs ks (omega (arith, e)) n

-- so does the machine's, if there is one
with_kind : (t : RunParts) (b : Option PlannedBean) → is_some (kind_in t b) ≡ true
    → option_map planned_head b ≡ option_map machine_head (option_and_then (machine_bean (id_in t.ids) t.tables.resolver.beans) b)
with_kind t None e = refl
with_kind t (Some b) e = by (machine_kind (id_in t.ids) t.tables.resolver.beans b.plan) e
  where
    by : (k : Option machine.Kind) → is_some (option_map (λ (bean : machine.Bean). bean.kind) (option_map (bean_with b) k)) ≡ true
        → Some (planned_head b) ≡ option_map machine_head (option_map (bean_with b) k)
    by None e = absurd (true≢false (sym e))
    by (Some k) e = refl

without_kind : (t : RunParts) (b : Option PlannedBean) → is_some (kind_in t b) ≡ false
    → None ≡ option_map machine_head (option_and_then (machine_bean (id_in t.ids) t.tables.resolver.beans) b)
without_kind t None e = refl
without_kind t (Some b) e = by (machine_kind (id_in t.ids) t.tables.resolver.beans b.plan) e
  where
    by : (k : Option machine.Kind) → is_some (option_map (λ (bean : machine.Bean). bean.kind) (option_map (bean_with b) k)) ≡ false
        → None ≡ option_map machine_head (option_map (bean_with b) k)
    by None e = refl
    by (Some k) e = absurd (true≢false e)

module _ (p : KeptParts) (kept : AreKept p) (n : ℕ) (t : RunParts) (is : parts_seen p ≡ t) (on : is_enabled t.tables.resolver.flags n ≡ true) (all : spec.is_numbered t ≡ true) where
  same_kind : is_some (numbered_at p.beans n) ≡ is_some (spec.kind_at t n)
  same_kind = both_or_none (spec.kind_at t n) (numbered_at p.beans n) (tells_at p kept n t is on all)

  listed : option_map listed_head (slice_get t.tables.resolver.beans n) ≡ option_map planned_head (planned_at t n)
  listed =
      subst (λ (x : RunParts). option_map listed_head (slice_get x.tables.resolver.beans n) ≡ option_map planned_head (slice_get x.beans n)) is
      (heads_at (plan_tables p.deployment p.tables) p.beans.lives p.tables.resolver.beans p.beans.beans kept.count n)
      ∙ ap (option_map planned_head) (enabled_at t n on)

  pub listed_head_is : is_some (numbered_at p.beans n) ≡ true → option_map listed_head (slice_get t.tables.resolver.beans n) ≡ option_map machine_head (bean_at t n)
  listed_head_is some = listed ∙ with_kind t (planned_at t n) (sym same_kind ∙ some)

  pub no_head : is_some (numbered_at p.beans n) ≡ false → None ≡ option_map machine_head (bean_at t n)
  no_head none = without_kind t (planned_at t n) (sym same_kind ∙ none)
