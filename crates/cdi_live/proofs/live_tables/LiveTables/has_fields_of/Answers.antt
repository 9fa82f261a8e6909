use Rattle.std.proofs.Common.{◌∙◌, sym}
use Rattle.cdi_live.proofs.live_tables.LiveTables.has_fields_of.Goals as goal

pub returns : goal.returns
returns c = rw (← c.self.view_is) (
  λ h. (c.self.invariant.with_fields.same c.args.class).0 (sym c.contains.ensures ∙ h),
  λ h. c.contains.ensures ∙ (c.self.invariant.with_fields.same c.args.class).1 h,
)
