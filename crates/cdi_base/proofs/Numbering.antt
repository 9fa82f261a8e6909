-- A loop over the members of a use numbers their names as `numbered_members` does.
use Rattle.std.proofs.Common.{◌≡◌, ◌∙◌, ℕ, List, [], ◌∷◌, ◌++◌, Option, Some, None, Err, option_map, option_and_then, refl, sym, ap, append_assoc, append-nil}
use Rattle.cdi_base.specs.declared.name.TableFull.{TableFull}
use Rattle.cdi_base.specs.declared.or_memory.OrMemory.{OrMemory}
use Rattle.cdi_base.specs.declared.or_memory.OrMemory.TheVariants as errors
use Rattle.cdi_base.specs.declared.uses.MemberValue.{MemberValue}
use Rattle.cdi_base.specs.declared.uses.WrittenMember.{WrittenMember}
use Rattle.cdi_base.specs.Uses.{Interns, numbered_member, numbered_members}

abbrev Numbered : Type 0
Numbered = Option (List MemberValue × List (List ℕ))

abbrev pub with_front : List MemberValue → Option (List MemberValue × List (List ℕ)) → Option (List MemberValue × List (List ℕ))
with_front front (Some p) = Some (front ++ p.0, p.1)
with_front front None = None

regroup : (front : List MemberValue) (x : MemberValue) (r : Numbered)
    → with_front front (option_map (λ rest. (x ∷ rest.0, rest.1)) r) ≡ with_front (front ++ x ∷ []) r
regroup front x (Some p) = ap (λ (xs : List MemberValue). Some (xs, p.1)) (sym (append_assoc front (x ∷ []) p.0))
regroup front x None = refl

pub starts : (names : List (List ℕ)) (ms : List WrittenMember) → with_front [] (numbered_members names ms) ≡ numbered_members names ms
starts names ms = by (numbered_members names ms)
  where
    by : (r : Numbered) → with_front [] r ≡ r
    by (Some p) = refl
    by None = refl

pub goes_on : (front : List MemberValue) (names after : List (List ℕ)) (m : WrittenMember) (x : MemberValue) (ms : List WrittenMember) (total : Numbered)
    → numbered_member names m ≡ Some (x, after) → with_front front (numbered_members names (m ∷ ms)) ≡ total
    → with_front (front ++ x ∷ []) (numbered_members after ms) ≡ total
goes_on front names after m x ms total read so_far =
    let one : with_front front (numbered_members names (m ∷ ms)) ≡ with_front (front ++ x ∷ []) (numbered_members after ms) =
    ap (λ (r : Option (MemberValue × List (List ℕ))). with_front front (option_and_then (λ first. option_map (λ rest. (first.0 ∷ rest.0, rest.1)) (numbered_members first.1 ms)) r)) read
    ∙ regroup front x (numbered_members after ms) in
    sym one ∙ so_far

-- where a name has no room, the members have none
pub ends : (e : OrMemory TableFull) (front : List MemberValue) (names : List (List ℕ)) (m : WrittenMember) (ms : List WrittenMember) (total : Numbered)
    → (h : Interns {A = MemberValue} (λ x. (x, names)) (Err e) (numbered_member names m)) → with_front front (numbered_members names (m ∷ ms)) ≡ total
    → Interns {A = List MemberValue} (λ xs. (xs, names)) (Err e) total
ends errors.Memory front names m ms total h so_far = tt
ends (errors.Fault full) front names m ms total h so_far =
    sym so_far ∙ ap (λ (r : Option (MemberValue × List (List ℕ))). with_front front (option_and_then (λ first. option_map (λ rest. (first.0 ∷ rest.0, rest.1)) (numbered_members first.1 ms)) r)) h

pub is_done : (front : List MemberValue) (names : List (List ℕ)) (total : Numbered) → with_front front (numbered_members names []) ≡ total → total ≡ Some (front, names)
is_done front names total so_far = sym so_far ∙ ap (λ (xs : List MemberValue). Some (xs, names)) (append-nil front)
