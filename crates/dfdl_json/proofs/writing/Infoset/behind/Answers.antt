use Rattle.std.proofs.lemmas.Option.{MatchOption-at_none}
use Rattle.dfdl_json.specs.Ready.{elements}
use Rattle.dfdl_json.proofs.SoFar.{passing_begins, passing_ends, passing_goes_on}
use Rattle.dfdl_json.proofs.writing.Infoset.behind.Goals as goal

pub loop-link-init : goal.loop-link-init
loop-link-init c = record {
  left = c.requires;
  passed = λ number is are. passing_begins c.args.self.now number c.args.rank c.args.next is are;
}

pub next_named-requires : goal.next_named-requires
next_named-requires c = c.loop-link.invariant.left

pub loop-link-preserved : goal.loop-link-preserved
loop-link-preserved c =
    let (number, r, is, are) = c.loop-link.invariant.left in
    let named = c.in-Some.ensures number r is are in
    record {
      left = (number, (elements c.args.self.now).rank c.in-Some.link.node, named.0.rest, named.0.starts.behind);
      passed = λ other all those.
          let so_far = c.loop-link.invariant.passed other all those in
          let next = c.in-Some.ensures other c.args.rank so_far.left so_far.members in
          passing_goes_on c.args.self.now other c.args.rank c.args.next c.loop-link.at all c.in-Some.link so_far next.0 next.1;
    }

pub loop-link-smaller : goal.loop-link-smaller
loop-link-smaller c =
    let (number, r, is, are) = c.loop-link.invariant.left in
    (c.in-Some.ensures number r is are).0.less

pub returns : goal.returns
returns c = λ number is are.
    let so_far = c.loop-link.invariant.passed number is are in
    passing_ends c.args.self.now number c.args.rank c.args.next c.loop-link.at is so_far
    (MatchOption-at_none _ _ c.in_default.is (c.next_named.ensures number c.args.rank so_far.left so_far.members)).0
