-- The first interceptor of a chain stands in it once, and the members of a bean have names of their own.
use Rattle.std.proofs.Common.{ℕ, ◌≡◌, ◌∙◌, ◌⊎◌, inl, inr, Bool, true, false, not, cond, nat_eq, List, [], ◌∷◌, ◌++◌, map, filter, Option, Some, None, refl, sym, ap, subst, arith}
use Rattle.std.specs.Prelude.{◌+◌}
use Rattle.std.specs.List.{enumerate_from, filter_map, list_any}
use Rattle.std.proofs.lemmas.Bool.{and_parts, true≢false}
use Rattle.cdi_base.specs.declared.place.Place.TheVariants as places
use Rattle.cdi_beans.specs.declared.bean.EnabledInterceptor.{EnabledInterceptor}
use Rattle.cdi_plans.specs.Chains.{places_from}
use Rattle.cdi_deployment.specs.Member.{member_name}
use Rattle.cdi_deployment.specs.declared.deployment.Class.{Class}
use Rattle.cdi_deployment.specs.declared.deployment.Deployment.{Deployment}
use Rattle.cdi_deployment.specs.declared.deployment.Member.{Member}
use Rattle.cdi_machine.specs.Tables as machine
use Rattle.cdi_name_check.specs.NameProblems.{AreNameProblems}
use Rattle.cdi_name_check.specs.declared.claim.Claim.TheVariants as claims
use Rattle.cdi_planner.proofs.Names.{same}
use Rattle.cdi_planner.specs.Codes.{pre_destroy}
use Rattle.cdi_plans.specs.declared.plan.Code.{Code}
use Rattle.cdi_run_tables.specs.Machine.{machine_code}
use Rattle.cdi_types.specs.Line.{class_named}
use Rattle.cdi_types.specs.Members.{comes_down, declares, is_inherited, members_of, parts_of}
use Rattle.cdi_ledger.specs.Whose.{IsIn}
use Rattle.cdi_accepted.proofs.Duplicates.{OnceBy, is_free, members_once}
use Rattle.cdi_accepted.proofs.Lines.{is_listed}
use Rattle.cdi_accepted.proofs.Lists.{Among, any_passes, given, mapped, of_filter, of_is_in}
use Rattle.cdi_accepted.proofs.Members.{of_line}
use Rattle.cdi_accepted.proofs.MemberCodes.{of_pre_destroy}
use Rattle.cdi_accepted.proofs.Planned.{placed}

-- ---- chains

same_list : (a b : ℕ) (xs ys : List ℕ) → ◌≡◌ {A = List ℕ} (a ∷ xs) (b ∷ ys) → (a ≡ b) × (xs ≡ ys)
same_list a b xs ys e = (cc, cc)

-- the places rise
pub stands_once : (p : EnabledInterceptor → Bool) (first : ℕ) (js : List EnabledInterceptor) (i : ℕ) (chain : List ℕ) → places_from p first js ≡ i ∷ chain → IsIn i chain → ⊥
stands_once p first [] i chain e a = absurd (cc)
stands_once p first (j ∷ js) i chain e a = by (p j) (stands_once p (first + 1) js i chain) e
  where
    by : (b : Bool) → (places_from p (first + 1) js ≡ i ∷ chain → IsIn i chain → ⊥)
        → map (λ (x : ℕ × EnabledInterceptor). x.0) (cond b ((first, j) ∷ filter (λ x. p x.1) (enumerate_from (first + 1) js)) (filter (λ x. p x.1) (enumerate_from (first + 1) js))) ≡ i ∷ chain → ⊥
    by false more q = more q a
    by true more q =
        let both = same_list first i (places_from p (first + 1) js) chain q in
        let P : List ℕ → Type 0 = λ l. IsIn i l in
        let later = placed p (first + 1) js i (subst P (sym both.1) a) in
        let one = both.0 in
        let far = later.1 in
        omega (arith, one, far)

-- ---- names of members

-- each has a name of its own
abbrev pub NamesOnce : List (Class × Member) → Type 0
NamesOnce [] = Unit {0}
NamesOnce (p ∷ ps) = ((q : Class × Member) → Among q ps → member_name p.1 ≡ member_name q.1 → ⊥) × NamesOnce ps

abbrev pub MembersOnce : List Member → Type 0
MembersOnce [] = Unit {0}
MembersOnce (m ∷ ms) = ((n : Member) → Among n ms → member_name m ≡ member_name n → ⊥) × MembersOnce ms

claimed_once : (i : ℕ) (ms : List Member) → OnceBy (λ (m : Member). claims.ClassPart i (member_name m)) ms → MembersOnce ms
claimed_once i [] once = tt
claimed_once i (m ∷ ms) once = ((λ n a e. once.0 n a (ap (λ k. claims.ClassPart i k) e)), claimed_once i ms once.1)

pub class_once : (d : Deployment) → AreNameProblems d [] → (c : Class) → class_named d.classes c.name ≡ Some c → MembersOnce c.members
class_once d well c named =
    let listed = is_listed d well c.name c named in
    claimed_once (is_free d well c listed).index c.members (members_once d well c listed)

filtered_once : (p : Member → Bool) (ms : List Member) → MembersOnce ms → MembersOnce (filter p ms)
filtered_once p [] once = tt
filtered_once p (m ∷ ms) once = by (p m) (filtered_once p ms once.1)
  where
    by : (b : Bool) → MembersOnce (filter p ms) → MembersOnce (cond b (m ∷ filter p ms) (filter p ms))
    by true more = ((λ n a e. once.0 n (of_filter p ms n a).0 e), more)
    by false more = more

parted_once : (c : Class) (ms : List Member) → MembersOnce ms → NamesOnce (parts_of c ms)
parted_once c [] once = tt
parted_once c (m ∷ ms) once = (
  (λ q a e. (let found = mapped (λ (part : Member). (c, part)) ms q a in once.0 found.item found.stands (e ∙ ap (λ (x : Class × Member). member_name x.1) found.is))),
  parted_once c ms once.1,
)

append_once : (ps qs : List (Class × Member)) → NamesOnce ps → NamesOnce qs → ((p q : Class × Member) → Among p ps → Among q qs → member_name p.1 ≡ member_name q.1 → ⊥) → NamesOnce (ps ++ qs)
append_once [] qs a b apart = b
append_once (p ∷ ps) qs a b apart = (
  (λ q there e. by q (parts ps qs q there) e),
  append_once ps qs a.1 b (λ x y s r e. apart x y (inr s) r e),
)
  where
    parts : (xs ys : List (Class × Member)) (x : Class × Member) → Among x (xs ++ ys) → Among x xs ⊎ Among x ys
    parts xs ys x h = Rattle.cdi_accepted.proofs.Lists.among_parts xs ys x h

    by : (q : Class × Member) → Among q ps ⊎ Among q qs → member_name p.1 ≡ member_name q.1 → ⊥
    by q (inl s) e = a.0 q s e
    by q (inr s) e = apart p q (inl refl) s e

-- what comes down is declared by no class below
not_below : (below : List Class) (m : Member) (c : Class) → comes_down below m ≡ true → Among c below → declares (member_name m) c ≡ true → ⊥
not_below [] m c e a h = absurd a
not_below (k ∷ below) m c e a h =
    let both = and_parts (is_inherited m) (not (list_any (declares (member_name m)) (k ∷ below))) e in
    true≢false (sym both.1 ∙ ap not (any_passes (declares (member_name m)) (k ∷ below) c a h))

pub names_once : (line : List Class) → ((c : Class) → Among c line → MembersOnce c.members) → NamesOnce (members_of line)
names_once [] once = tt
names_once (c ∷ below) once =
    append_once (parts_of c (filter (comes_down below) c.members)) (members_of below)
    (parted_once c (filter (comes_down below) c.members) (filtered_once (comes_down below) c.members (once c (inl refl))))
    (names_once below (λ k a. once k (inr a)))
    apart
  where
    apart : (p q : Class × Member) → Among p (parts_of c (filter (comes_down below) c.members)) → Among q (members_of below) → member_name p.1 ≡ member_name q.1 → ⊥
    apart p q a b e =
        let found = mapped (λ (part : Member). (c, part)) (filter (comes_down below) c.members) p a in
        let down = (of_filter (comes_down below) c.members found.item found.stands).1 in
        let name : member_name found.item ≡ member_name q.1 = ap (λ (x : Class × Member). member_name x.1) (sym found.is) ∙ e in
        let of = of_line below q.0 q.1 b in
        let P : ℕ → Type 0 = λ n. nat_eq (member_name q.1) n ≡ true in
        not_below below found.item q.0 down of.class
        (any_passes (λ (m : Member). nat_eq (member_name m) (member_name found.item)) q.0.members q.1 of.member (subst P (sym name) (same (member_name q.1))))

-- ---- callbacks

module _ (ids : ℕ → Option ℕ) where
  -- the first callback's place is no further one's
  pub callbacks_once : (ps : List (Class × Member)) → NamesOnce ps → (m : machine.Code) (more : List machine.Code) → map (machine_code ids) (filter_map pre_destroy ps) ≡ m ∷ more
      → IsIn m.place (map (λ k. k.place) more) → ⊥
  callbacks_once [] once m more e a = absurd (cc)
  callbacks_once (p ∷ ps) once m more e a = by (callbacks_once ps once.1 m more) (pre_destroy p) refl e
    where
      same_codes : (x y : machine.Code) (xs ys : List machine.Code) → ◌≡◌ {A = List machine.Code} (x ∷ xs) (y ∷ ys) → (x ≡ y) × (xs ≡ ys)
      same_codes x y xs ys q = (cc, cc)

      by : (map (machine_code ids) (filter_map pre_destroy ps) ≡ m ∷ more → IsIn m.place (map (λ k. k.place) more) → ⊥)
          → (o : Option Code) → pre_destroy p ≡ o → map (machine_code ids) (Rattle.std.specs.List.cons_option o (filter_map pre_destroy ps)) ≡ m ∷ more → ⊥
      by further None is q = further q a
      by further (Some k) is q =
          let both = same_codes (machine_code ids k) m (map (machine_code ids) (filter_map pre_destroy ps)) more q in
          let P : List machine.Code → Type 0 = λ l. IsIn m.place (map (λ x. x.place) l) in
          let others = map (machine_code ids) (filter_map pre_destroy ps) in
          let place = mapped (λ (x : machine.Code). x.place) others m.place (of_is_in m.place (map (λ x. x.place) others) (subst P (sym both.1) a)) in
          let code = mapped (machine_code ids) (filter_map pre_destroy ps) place.item place.stands in
          let other = given pre_destroy ps code.item code.stands in
          let first = of_pre_destroy p k is in
          let second = of_pre_destroy other.item code.item other.is in
          let one : places.Member p.0.name (member_name p.1) ≡ places.Member other.item.0.name (member_name other.item.1) =
          sym (ap (λ (x : Code). x.place) first.is) ∙ ap (λ (x : machine.Code). x.place) both.0 ∙ place.is ∙ ap (λ (x : machine.Code). x.place) code.is ∙ ap (λ (x : Code). x.place) second.is in
          let named : member_name p.1 ≡ member_name other.item.1 = cc in
          once.0 other.item other.stands named
