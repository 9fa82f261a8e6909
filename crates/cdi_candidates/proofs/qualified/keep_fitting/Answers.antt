use Rattle.std.proofs.Common.{◌&&◌, rules}
use Rattle.std.proofs.lemmas.Fn.{filter_same}
use Rattle.cdi_quals.specs.Qualifiers as quals
use Rattle.cdi_resolve.specs.Filters as filters
use Rattle.cdi_candidates.proofs.qualified.keep_fitting.Goals as goal

pub returns : goal.returns
returns c =
    filter_same _ (λ b. filters.has_type c.args.ty b.1 && quals.has_all b.1.qualifiers c.args.required.now) _ (λ x b f' k. search rules) _ _ c.retain.ensures.filtered
