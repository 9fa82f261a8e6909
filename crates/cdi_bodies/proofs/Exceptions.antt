-- The places of exceptions when one answer more has come.
use Rattle.std.proofs.Common.{◌≡◌, ◌∙◌, refl, ℕ, ◌+◌, Bool, true, false, List, [], ◌∷◌, ◌++◌, length, ap, arith, if◌then◌else◌}
use Rattle.std.proofs.lemmas.List.{append-nil}
use Rattle.cdi_base.specs.declared.act.Answer.{Answer}
use Rattle.cdi_bodies.specs.Answers.{threw, exceptions_from}

-- one more behind a first one, whether that is an exception or not
behind : (t : Bool) (place : ℕ) (longer shorter last : List ℕ) → longer ≡ shorter ++ last
    → (if t then place ∷ longer else longer) ≡ (if t then place ∷ shorter else shorter) ++ last
behind true place longer shorter last is = ap (λ ps. place ∷ ps) is
behind false place longer shorter last is = is

one_more : (place : ℕ) (answers : List Answer) (answer : Answer) → exceptions_from place (answers ++ answer ∷ []) ≡ exceptions_from place answers ++ exceptions_from (place + length answers) (answer ∷ [])
one_more place [] answer = let same : place ≡ place + 0 = omega arith in ap (λ n. exceptions_from n (answer ∷ [])) same
one_more place (a ∷ answers) answer =
    let at : place + 1 + length answers ≡ place + length (a ∷ answers) = omega arith in
    behind (threw a) place (exceptions_from (place + 1) (answers ++ answer ∷ [])) (exceptions_from (place + 1) answers)
    (exceptions_from (place + length (a ∷ answers)) (answer ∷ []))
    (one_more (place + 1) answers answer ∙ ap (λ n. exceptions_from (place + 1) answers ++ exceptions_from n (answer ∷ [])) at)

quiet_more : (answers : List Answer) (answer : Answer) → threw answer ≡ false → exceptions_from 0 (answers ++ answer ∷ []) ≡ exceptions_from 0 answers
quiet_more answers answer quiet =
    one_more 0 answers answer
    ∙ ap (λ t. exceptions_from 0 answers ++ (if t then (0 + length answers) ∷ [] else [])) quiet
    ∙ append-nil (exceptions_from 0 answers)

-- the same, also if it hasn't come
pub quiet_either : (t : Bool) (answers : List Answer) (answer : Answer) → threw answer ≡ false → exceptions_from 0 (if t then (answers ++ answer ∷ []) else answers) ≡ exceptions_from 0 answers
quiet_either true answers answer quiet = quiet_more answers answer quiet
quiet_either false answers answer quiet = refl

pub thrown_more : (answers : List Answer) (answer : Answer) → threw answer ≡ true → exceptions_from 0 (answers ++ answer ∷ []) ≡ exceptions_from 0 answers ++ length answers ∷ []
thrown_more answers answer thrown =
    let same : 0 + length answers ≡ length answers = omega arith in
    one_more 0 answers answer
    ∙ ap (λ t. exceptions_from 0 answers ++ (if t then (0 + length answers) ∷ [] else [])) thrown
    ∙ ap (λ n. exceptions_from 0 answers ++ n ∷ []) same
