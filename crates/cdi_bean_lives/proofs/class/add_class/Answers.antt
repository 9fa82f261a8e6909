use Rattle.std.proofs.Common.{rules, ◌≡◌, subst}
use Rattle.cdi_bean_lives.proofs.Adding.{are_lives}
use Rattle.cdi_bean_lives.proofs.Below.{place_of}
use Rattle.cdi_class_lives.specs.ClassLives.{IsAdded}
use Rattle.cdi_bean_lives.proofs.class.add_class.Goals as goal

pub returns-clause-lives : goal.returns-clause-lives
returns-clause-lives c =
    let same : c.map.result ≡ place_of c.args.above = search rules in
    are_lives c.args.planner.now c.args.numbering.now c.args.lives.now c.add.new.self c.inherits_methods-inherits.result c.args.class.now c.in_ok-place.place
    c.args.above c.in_ok-own.own
    (subst (λ a. IsAdded c.args.lives.now a c.inherits_methods-inherits.result c.in_ok-own.own c.add.new.self c.in_ok-place.place) same c.in_ok-place.ensures)
    c.in_ok-own.ensures.own c.requires.lives c.requires.above c.requires.line c.inherits_methods-inherits.ensures
