-- A code for terms, by which a proof tells them apart.
use Rattle.std.specs.Prelude.{◌≡◌, ℕ, refl}
use Rattle.std.proofs.Common.{ap, ap₂}
use base.Stored.{Gv, gnil, gnum, gcons, Coded, coded_ℕ, coded_ℤ, coded_list}
use Rattle.cdi_script.specs.Term.{Term, null, whole, text, field, argument, answer, last, sum}

abbrev head : Gv → Gv
head gnil = gnil
head (gnum n) = gnil
head (gcons a b) = a

abbrev tail : Gv → Gv
tail gnil = gnil
tail (gnum n) = gnil
tail (gcons a b) = b

abbrev number : Gv → ℕ
number gnil = 0
number (gnum n) = n
number (gcons a b) = 0

abbrev term_code : Term → Gv
term_code null = gcons (gnum 0) gnil
term_code (whole n) = gcons (gnum 1) (coded_ℤ.code n)
term_code (text s) = gcons (gnum 2) ((coded_list coded_ℕ).code s)
term_code (field name) = gcons (gnum 3) (gnum name)
term_code (argument k) = gcons (gnum 4) (gnum k)
term_code (answer k) = gcons (gnum 5) (gnum k)
term_code last = gcons (gnum 6) gnil
term_code (sum a b) = gcons (gnum 7) (gcons (term_code a) (term_code b))

pub term_inj : (x y : Term) → term_code x ≡ term_code y → x ≡ y
term_inj null null p = refl
term_inj (whole m) (whole n) p = ap whole (coded_ℤ.inj m n (ap tail p))
term_inj (text s) (text t) p = ap text ((coded_list coded_ℕ).inj s t (ap tail p))
term_inj (field m) (field n) p = ap (λ g. field (number (tail g))) p
term_inj (argument j) (argument k) p = ap (λ g. argument (number (tail g))) p
term_inj (answer j) (answer k) p = ap (λ g. answer (number (tail g))) p
term_inj last last p = refl
term_inj (sum a b) (sum c d) p =
    ap₂ sum (term_inj a c (ap (λ g. head (tail g)) p)) (term_inj b d (ap (λ g. tail (tail g)) p))
term_inj x y p = absurd cc

abbrev pub coded_term : Coded Term
coded_term = record { code = term_code; inj = term_inj }
