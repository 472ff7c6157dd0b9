use Rattle.std.proofs.Common.{List, subst}
use Rattle.std.specs.List.{AllZip}
use Rattle.dfdl_written.specs.Noting.{HasItsNamespaces}
use Rattle.dfdl_written.specs.declared.noted.Noted.{Noted}
use Rattle.dfdl_written.proofs.Mapped.{taken_all}
use Rattle.dfdl_written.proofs.Zipped.{zip_more}
use Rattle.dfdl_written.proofs.writing.namespaces_of.Goals as goal

pub loop-at-preserved : goal.loop-at-preserved
loop-at-preserved c =
    zip_more (HasItsNamespaces c.args.schema.now) c.args.noted.now c.loop-at.at c.index-noted-at.result c.loop-at.made.items _ _ c.loop-at-test.true
    c.in_ok-push.ensures.items c.in_ok-prefixes_at.ensures c.loop-at.invariant

pub returns : goal.returns
returns c = subst (λ (ns : List Noted). AllZip (HasItsNamespaces c.args.schema.now) ns c.loop-at.made.items) (taken_all c.args.noted.now c.loop-at.at c.loop-at-test.false) c.loop-at.invariant
