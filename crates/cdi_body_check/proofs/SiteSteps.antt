-- Sites that are listed one after the other.
use Rattle.std.proofs.Common.{◌≡◌, ◌∙◌, ℕ, ◌+◌, ◌<◌, List, [], ◌∷◌, ◌++◌, length, take, get_or, Option, Some, None, sym, ap, append_assoc, append-nil}
use Rattle.std.proofs.lemmas.List.{take_more, map_push}
use Rattle.std.proofs.lemmas.List.Elements.{filter_map-append}
use Rattle.std.specs.List.{filter_map, cons_option}
use Rattle.cdi_body_check.specs.Sites.{Site, site_of, shown}
use Rattle.cdi_body_check.specs.declared.site.BodySite.{BodySite}

module _ {X : Type 0} (h : X → Option Site) (xs : List X) (i : ℕ) (x : X) (lt : i < length xs) (is : x ≡ get_or xs i x) (before : List Site) (sites : List BodySite) (so_far : shown sites ≡ before ++ filter_map h (take i xs)) where
  next : (o : Option Site) → h x ≡ o → filter_map h (take (i + 1) xs) ≡ filter_map h (take i xs) ++ cons_option o []
  next o e =
      ap (filter_map h) (take_more xs i x lt ∙ ap (λ y. take i xs ++ y ∷ []) (sym is))
      ∙ filter_map-append h (take i xs) (x ∷ [])
      ∙ ap (λ o. filter_map h (take i xs) ++ cons_option o []) e

  pub one_site : (site : BodySite) → h x ≡ Some (site_of site) → shown (sites ++ site ∷ []) ≡ before ++ filter_map h (take (i + 1) xs)
  one_site site e =
      map_push site_of sites site ∙ ap (λ ss. ss ++ site_of site ∷ []) so_far
      ∙ append_assoc before (filter_map h (take i xs)) (site_of site ∷ [])
      ∙ ap (λ ss. before ++ ss) (sym (next (Some (site_of site)) e))

  pub no_site : h x ≡ None → shown sites ≡ before ++ filter_map h (take (i + 1) xs)
  no_site e = so_far ∙ ap (λ ss. before ++ ss) (sym (next None e ∙ append-nil (filter_map h (take i xs))))
