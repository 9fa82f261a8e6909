-- Walks against the edges, from one node after another, the last that a walk in depth is done with first.
use Rattle.std.proofs.Common.{◌≡◌, ◌∙◌, ◌↔◌, IsTrue, ℕ, ◌<◌, ◌≤◌, Bool, true, false, List, [], ◌∷◌, ◌++◌, length, set, replicate, length-set, refl, sym, ap, subst, ◌⊎◌, inl, inr, arith, get_or-set_same, get_or-set_other}
use Rattle.std.proofs.lemmas.Bool.{cases_Bool, cases_eq, cases_lt, true≢false}
use Rattle.std.proofs.lemmas.List.{get_or_past, get_or_push, length_push, length-replicate, get_or-replicate}
use Rattle.std.proofs.lemmas.List.Elements.{All-contains, Contains-append_left, Contains-push, Contains-push_cases}
use Rattle.std.specs.List.{Contains}
use Rattle.cdi_paths.specs.Graph.{targets_of, Path, ProperPath}
use Rattle.cdi_paths.specs.Marks.{is_marked, IsNewTarget, IsFound, IsClosed, HasSeenGroup, HasMarkedCycles}
use Rattle.cdi_paths.specs.FinishOrder.{IsAt, IsInOrder, IsFinishOrder}
use Rattle.cdi_paths.specs.Reversed.{IsReversed}
use Rattle.cdi_paths.proofs.Paths.{join}
use Rattle.cdi_paths.proofs.Reversal.{proper_path_back}
use Rattle.cdi_paths.proofs.Steps.{at_left, at_push_cases}
use Rattle.cdi_paths.proofs.Walks.{unmarked, none_closed, marked_same, marked_kept, marked_cases, path_from_found, marked_by_path, told_all}

-- the nodes that are taken already have a mark, and are told
pub record IsSorting (graph sources : List (List ℕ)) (order : List ℕ) (seen on_cycle : List Bool) : Type 0 where
  pub seen_len : length seen ≡ length graph
  pub told_len : length on_cycle ≡ length graph
  pub nodes : (a : ℕ) → Contains order a → a < length graph
  pub ahead : (a : ℕ) → a < length graph → Contains order a ⊎ IsTrue (is_marked seen a)
  pub ordered : IsInOrder graph order
  pub closed : IsClosed sources seen
  pub told : (a : ℕ) → IsTrue (is_marked seen a) → IsTrue (is_marked on_cycle a) ↔ ProperPath graph a a
  pub open_yet : (a : ℕ) → a < length graph → is_marked seen a ≡ false → is_marked on_cycle a ≡ true

pub sorting_begins : (graph sources : List (List ℕ)) (order : List ℕ) → IsFinishOrder graph order → IsSorting graph sources order (replicate (length graph) false) (replicate (length graph) true)
sorting_begins graph sources order f = record {
  seen_len = length-replicate (length graph) false;
  told_len = length-replicate (length graph) true;
  nodes = λ a c. All-contains (λ b. b < length graph) order a f.nodes c;
  ahead = λ a lt. inl (f.all a lt);
  ordered = f.ordered;
  closed = none_closed sources (length graph);
  told = λ a h. absurd (true≢false (sym h ∙ unmarked (length graph) a));
  open_yet = λ a lt h. get_or-replicate (length graph) a true false lt;
}

pub sorting_ends : (graph sources : List (List ℕ)) (seen on_cycle : List Bool) → IsSorting graph sources [] seen on_cycle → HasMarkedCycles graph on_cycle
sorting_ends graph sources seen on_cycle o = told_all graph on_cycle o.told_len (λ a lt. o.told a (elim (o.ahead a lt) [ inl none ↦ absurd (omega (arith, none.1)) | inr h ↦ h ]))

module _ (graph sources : List (List ℕ)) (rest : List ℕ) (r : ℕ) (seen on_cycle : List Bool) (o : IsSorting graph sources (rest ++ r ∷ []) seen on_cycle) where
  shorter : IsInOrder graph rest
  shorter i j k a b c h g m = o.ordered i j k a b c (at_left rest (r ∷ []) i a h) (at_left rest (r ∷ []) j b g) (at_left rest (r ∷ []) k c m)

  pub root_within : r < length graph
  root_within = o.nodes r (Contains-push rest r)

  -- a root that has a mark
  pub root_skipped : is_marked seen r ≡ true → IsSorting graph sources rest seen on_cycle
  root_skipped h = record {
    seen_len = o.seen_len;
    told_len = o.told_len;
    nodes = λ a c. o.nodes a (Contains-append_left rest (r ∷ []) a c);
    ahead = λ a lt. elim (o.ahead a lt) [
      | inl c ↦ elim (Contains-push_cases rest r a c) [ inl was ↦ inl was | inr is ↦ inr (let P : ℕ → Type 0 = λ b. is_marked seen b ≡ true in subst P is h) ]
      | inr m ↦ inr m
    ];
    ordered = shorter;
    closed = o.closed;
    told = o.told;
    open_yet = o.open_yet;
  }

  module _ (rev : IsReversed graph sources) where
    -- a node that leads to the root, with all that is between them in the order reached from the root
    record LeadsToRoot (a : ℕ) : Type 0 where
      path : Path graph a r
      place : ℕ
      at_place : IsAt (rest ++ r ∷ []) place a
      reached : (j b : ℕ) → place ≤ j → IsAt (rest ++ r ∷ []) j b → Path graph r b

    the_root : LeadsToRoot r
    the_root = record {
      path = Path.here;
      place = length rest;
      at_place = (omega (arith, length_push rest r), get_or_push rest r r (length rest) refl);
      reached = λ j b le h. elim (at_push_cases rest r j b h) [ inl was ↦ absurd (omega (arith, was.0, le)) | inr is ↦ (let P : ℕ → Type 0 = λ c. Path graph r c in subst P is.1 Path.here) ];
    }

    source : (a b : ℕ) → LeadsToRoot b → IsNewTarget (targets_of sources b) seen a → LeadsToRoot a
    source a b g n = record {
      path = Path.step edge g.path;
      place = there.0;
      at_place = (there.1, there.2);
      reached = λ j c le h. elim (cases_lt j g.place) [
        | inl lt ↦ join graph (g.reached g.place b (omega arith) g.at_place) (o.ordered there.0 j g.place a c b (there.1, there.2) h g.at_place le lt edge)
        | inr past ↦ g.reached j c past h
      ];
    }
      where
        edge : Contains (targets_of graph a) b
        edge = (rev.edges b a).0 n.listed

        within : a < length graph
        within = elim (cases_lt a (length graph)) [ inl lt ↦ lt | inr past ↦ absurd (omega (arith, edge.1, ap length (get_or_past graph a [] past))) ]

        there : Contains (rest ++ r ∷ []) a
        there = elim (o.ahead a within) [ inl c ↦ c | inr h ↦ absurd (true≢false (sym h ∙ n.unmarked)) ]

    leads : (a : ℕ) → IsFound sources seen r a → LeadsToRoot a
    leads a (IsFound.first n) = source a r the_root n
    leads a (IsFound.later {a = b} f n) = source a b (leads b f) n

    found_cycle : (a : ℕ) → IsFound sources seen r a → ProperPath graph a a
    found_cycle a f =
        let g = leads a f in
        let p = proper_path_back sources graph (λ x y. (rev.edges x y).0) r a (path_from_found sources seen r a f) in
        (p.0, p.1, join graph p.2 (g.reached g.place a (omega arith) g.at_place))

    -- a root without a mark
    pub root_seen : (new : List Bool) (back : Bool) → is_marked seen r ≡ false → HasSeenGroup sources r seen new back → IsSorting graph sources rest new (set on_cycle r back)
    root_seen new back not g = record {
      seen_len = ap length g.new_is ∙ length-set g.walked r true ∙ g.len ∙ o.seen_len;
      told_len = length-set on_cycle r back ∙ o.told_len;
      nodes = λ a c. o.nodes a (Contains-append_left rest (r ∷ []) a c);
      ahead = λ a lt. elim (o.ahead a lt) [
        | inl c ↦ elim (Contains-push_cases rest r a c) [ inl was ↦ inl was | inr is ↦ inr (let P : ℕ → Type 0 = λ b. is_marked new b ≡ true in subst P is root_marked) ]
        | inr m ↦ inr (into a (g.walk.kept a m))
      ];
      ordered = shorter;
      closed = λ a b h e. elim (from a h) [
        | inl m ↦ into b (g.walk.closed a b m e)
        | inr is ↦ into b (g.walk.begun b (let P : ℕ → Type 0 = λ c. Contains (targets_of sources c) b in subst P (sym is) e))
      ];
      told = λ a h. elim (cases_eq a r) [
        | inl is ↦ (let P : ℕ → Type 0 = λ b. IsTrue (is_marked (set on_cycle r back) b) ↔ ProperPath graph b b in subst P (sym is) (rw (get_or-set_same on_cycle r back false told_within) root_told))
        | inr ne ↦ rw (get_or-set_other on_cycle r a back false ne) (other_told a (elim (from a h) [ inl m ↦ m | inr is ↦ absurd (ne (sym is)) ]))
      ];
      open_yet = λ a lt h. elim (cases_eq a r) [
        | inl is ↦ (let P : ℕ → Type 0 = λ b. is_marked new b ≡ false in absurd (true≢false (sym root_marked ∙ subst P is h)))
        | inr ne ↦ get_or-set_other on_cycle r a back false ne ∙ o.open_yet a lt (elim (cases_Bool (is_marked seen a)) [ inl m ↦ absurd (true≢false (sym (into a (g.walk.kept a m)) ∙ h)) | inr m ↦ m ])
      ];
    }
      where
        told_within : r < length on_cycle
        told_within = omega (arith, root_within, o.told_len)

        into : (a : ℕ) → is_marked g.walked a ≡ true → is_marked new a ≡ true
        into a h = rw g.new_is (marked_kept g.walked r a h)

        from : (a : ℕ) → is_marked new a ≡ true → (is_marked g.walked a ≡ true) ⊎ (r ≡ a)
        from a h = marked_cases g.walked r a (rw g.new_is at h)

        root_marked : is_marked new r ≡ true
        root_marked = rw g.new_is (marked_same g.walked r (omega (arith, root_within, g.len, o.seen_len)))

        root_told : IsTrue back ↔ ProperPath graph r r
        root_told = (
          λ h. elim (g.walk.found r (sym g.back_is ∙ h)) [ inl was ↦ absurd (true≢false (sym was ∙ not)) | inr f ↦ found_cycle r f ],
          λ p. let q = proper_path_back graph sources (λ x y. (rev.edges y x).1) r r p in g.back_is ∙ marked_by_path sources g.walked q.0 r g.walk.closed q.2 (g.walk.begun q.0 q.1),
        )

        rowed : (a : ℕ) → ProperPath graph a a → a < length graph
        rowed a p = elim (cases_lt a (length graph)) [ inl lt ↦ lt | inr past ↦ absurd (omega (arith, p.1.1, ap length (get_or_past graph a [] past))) ]

        other_told : (a : ℕ) → is_marked g.walked a ≡ true → IsTrue (is_marked on_cycle a) ↔ ProperPath graph a a
        other_told a h = elim (g.walk.found a h) [
          | inl was ↦ o.told a was
          | inr f ↦ elim (cases_Bool (is_marked seen a)) [
            | inl m ↦ o.told a m
            | inr m ↦ (λ _. found_cycle a f, λ p. o.open_yet a (rowed a p) m)
          ]
        ]
