use Rattle.dfdl_components.specs.Globals.{site}
use Rattle.dfdl_compile.proofs.Fitting.{sites_within}
use Rattle.dfdl_compile.proofs.compiling.recursive.Goals as goal

pub place_at-requires : goal.place_at-requires
place_at-requires c = sites_within c.args.schema.now c.args.sites.now c.requires.sites c.args.component (site 0 0) c.requires.within
