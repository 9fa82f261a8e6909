use Rattle.std.proofs.Common.{◌≡◌, ◌∙◌, map, length, Some, option_map, slice_get, sym, ap}
use Rattle.std.proofs.lemmas.Bool.{ltb-true}
use Rattle.std.proofs.lemmas.Option.{slice_get-get_or, slice_get-map}
use Rattle.cdi_bean_lives.proofs.KeptLines.{is_below, keeps_both, part_more}
use Rattle.cdi_bean_lives.proofs.line.KeptLines.add_classes.Goals as goal

pub add_below-requires-clause-line : goal.add_below-requires-clause-line
add_below-requires-clause-line c =
    let i = c.loop-class in
    let refs = c.args.line.now in
    let class = c.in-Some.class.now in
    let there : slice_get (map (λ r. r.now) refs) i.count ≡ Some class.now =
    slice_get-map (λ r. r.now) refs i.count
    ∙ ap (option_map (λ r. r.now))
    (slice_get-get_or refs i.count class (ltb-true i.count (length refs) (sym c.in-Some.ensures.lookup.0)) ∙ ap Some (sym c.in-Some.ensures.lookup.1)) in
    is_below c.args.planner.now i.self.lives (map (λ r. r.now) refs) i.count class.now there i.last i.invariant.part (c.requires.line i.count class.now there)

pub loop-class-preserved : goal.loop-class-preserved
loop-class-preserved c =
    let i = c.loop-class in
    let refs = c.args.line.now in
    let class = c.in-Some.class.now in
    let there : slice_get (map (λ r. r.now) refs) i.count ≡ Some class.now =
    slice_get-map (λ r. r.now) refs i.count
    ∙ ap (option_map (λ r. r.now))
    (slice_get-get_or refs i.count class (ltb-true i.count (length refs) (sym c.in-Some.ensures.lookup.0)) ∙ ap Some (sym c.in-Some.ensures.lookup.1)) in
    let kept = c.in_ok-add_below.field-0 in
    let new = c.add_below.new.self.lives in
    record {
      part = part_more c.args.planner.now i.self.lives (map (λ r. r.now) refs) i.count class.now there i.last i.invariant.part new kept c.in_ok-add_below.ensures.name c.in_ok-add_below.ensures.added;
      lives = c.in_ok-add_below.ensures.lives;
      others = keeps_both c.args.self.now.lives i.self.lives new i.invariant.others c.in_ok-add_below.ensures.added.others;
      asks = c.add_below.ensures.kept;
    }
