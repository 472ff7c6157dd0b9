use Rattle.std.proofs.Common.{◌&&◌, not, Bor, List, ℕ}
use Rattle.std.specs.BTreeSet.{contains}
use Rattle.std.specs.Cmp.Lexicographic.{slice_cmp}
use Rattle.std.specs.Ordering.{nat_cmp}
use Rattle.dfdl_rows.specs.Looking.{names_in}
use Rattle.dfdl_rows.specs.Refusals.{is_among}
use Rattle.dfdl_rows.proofs.Kept.{hide_more}
use Rattle.dfdl_rows.proofs.looking.hide.Goals as goal

pub loop-name-preserved : goal.loop-name-preserved
loop-name-preserved c =
    hide_more (contains (λ x y. slice_cmp nat_cmp x.now y.now) c.loop-name.names) (contains (λ x y. slice_cmp nat_cmp x.now y.now) c.remove.new.self)
    (λ (name : Bor (List ℕ)). contains (λ x y. slice_cmp nat_cmp x.now y.now) c.args.names.now name && not (is_among (names_in c.args.own.now) name.now))
    c.args.own.now c.loop-name.name-index _ c.loop-name-test.true c.remove.ensures.updates.0 c.loop-name.invariant
