use Rattle.std.proofs.Common.{◌≡◌, ◌∙◌, nat_eq, Some, rules}
use Rattle.std.specs.HashMap.{get}
use Rattle.cdi_beans.proofs.Specialized.{known_own, one_more}
use Rattle.cdi_beans.proofs.specialized_parts.SpecializedParts.part.Goals as goal

pub returns-in-Some-clause-part : goal.returns-in-Some-clause-part
returns-in-Some-clause-part c =
    let table = c.args.self.now.parts in
    let class = c.args.class.now in
    let some : get nat_eq table class.name ≡ Some c.in-Some.part.now = search rules in
    c.in_ok-clone.ensures.cases ∙ known_own c.args.beans.now c.args.types.now class c.in-Some.part.now table c.requires.found c.requires.own some

pub returns-clause-own : goal.returns-clause-own
returns-clause-own c =
    let classes = c.args.beans.now in
    let types = c.args.types.now in
    let class = c.args.class.now in
    let part = c.in_ok-clone-2.field-0 in
    one_more classes types class part c.args.self.now.parts c.insert.new.self c.requires.found
    (c.in_ok-clone-2.ensures.cases ∙ c.in_ok-part.ensures.ok ∙ c.in_ok-own_qualifiers.ensures) c.in_ok-insert.ensures.updates.0 c.requires.own
