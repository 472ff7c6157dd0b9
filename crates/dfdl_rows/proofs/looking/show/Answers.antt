use Rattle.std.proofs.Common.{◌||◌, Bor, List, ℕ}
use Rattle.std.specs.BTreeSet.{contains}
use Rattle.std.specs.Cmp.Lexicographic.{slice_cmp}
use Rattle.std.specs.Ordering.{nat_cmp}
use Rattle.dfdl_rows.specs.Looking.{names_in}
use Rattle.dfdl_rows.specs.Refusals.{is_among}
use Rattle.dfdl_rows.proofs.Kept.{show_more}
use Rattle.dfdl_rows.proofs.looking.show.Goals as goal

pub loop-name-preserved : goal.loop-name-preserved
loop-name-preserved c =
    show_more (contains (λ x y. slice_cmp nat_cmp x.now y.now) c.loop-name.names) (contains (λ x y. slice_cmp nat_cmp x.now y.now) c.insert.new.self)
    (λ (name : Bor (List ℕ)). contains (λ x y. slice_cmp nat_cmp x.now y.now) c.args.names.now name || is_among (names_in c.args.others.now) name.now)
    c.args.others.now c.loop-name.name-index _ c.loop-name-test.true c.in_ok-insert.ensures.updates.0 c.loop-name.invariant
