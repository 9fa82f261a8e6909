-- The term that a level of an expression stands for.
use Rattle.cdi_script.specs.declared.expression.Node.{Node}
use Rattle.cdi_script.specs.declared.expression.Node.TheVariants as nodes
use Rattle.cdi_script.specs.Term as terms

abbrev pub term_of : Node → terms.Term
term_of nodes.Null = terms.null
term_of (nodes.Int n) = terms.whole n
term_of (nodes.Text s) = terms.text s
term_of (nodes.Field name) = terms.field name
term_of (nodes.Argument k) = terms.argument k
term_of (nodes.Answer k) = terms.answer k
term_of nodes.Last = terms.last
term_of (nodes.Sum a b) = terms.sum a.value b.value
