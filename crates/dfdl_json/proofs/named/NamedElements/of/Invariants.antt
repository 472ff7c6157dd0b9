use Rattle.std.proofs.Common.{◌≡◌, drop, fold}
use Rattle.std.specs.BTreeSet.{contains}
use Rattle.std.specs.Cmp.Lexicographic.{slice_cmp}
use Rattle.std.specs.Ordering.{nat_cmp}
use Rattle.dfdl_json.specs.Members.{members_among, with_member}
use Rattle.dfdl_json.specs.Reading.{HasNames}
use Rattle.dfdl_json.proofs.named.NamedElements.of.Given as goal

-- the elements so far, with those that are left, are those of all
abbrev pub invariant-loop-row : goal.invariant-loop-row
invariant-loop-row l = record {
  rows : fold (with_member l.terms) l.named.rows.items (drop l.row-index l.row-items) ≡ members_among l.terms l.row-items;
  names : HasNames (contains (λ x y. slice_cmp nat_cmp x.now y.now) l.named.names) l.terms l.named.rows.items;
}
