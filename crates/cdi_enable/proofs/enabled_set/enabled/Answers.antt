use Rattle.cdi_enable.proofs.enabled_set.enabled.Goals as goal

pub build-requires-2 : goal.build-requires-2
build-requires-2 c =
    rw (c.in_ok-managed.ensures, c.in_ok-classes.ensures, c.in_ok-managed_classes.ensures, c.as_slice.ensures, c.as_slice-beans.ensures) c.requires
